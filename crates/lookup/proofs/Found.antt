-- What a name means that one property has. Assumes nothing.
use Prim.Native.Nat.{ℕ, ◌+◌, ◌%◌}
use mathlib.Core.Path.{◌≡◌, refl, sym, ap, ◌∙◌}
use mathlib.Core.List.{List}
use mathlib.Core.Bool.{Bool, true, false, false≢true, ◌&&◌}
use native.Mathlib.Omega.{arith}
use lib.Dec.{eqb, ltb}
use lib.ListN.{length, get_or}
use borrow.Author.Tests.{eqb-true, ltb-true, ltb-false}
use Rattle.std.proofs.Common.{Option, Some, None}
use Rattle.std.specs.Bool.{then_some}
use Rattle.std.specs.Option.{is_some}
use Rattle.csdl.specs.Search.{found}
use Rattle.csdl.specs.Tables.{type_base, type_count, property_owner}
use Rattle.csdl.specs.Model.{model_of}
use Rattle.csdl.specs.Find.{ancestor, ancestor_or_self, find, own, declares}
use Rattle.csdl.proofs.Logic.{and_cases}
use Rattle.model_image.specs.Read.{model_read}
use Rattle.name_classes.proofs.Options.{found_number}
use Rattle.type_hierarchy.specs.Near.{left_at, only}
use Rattle.lookup.specs.declared.model.Lookup.{Lookup}
use Rattle.lookup.specs.Index.{named_from}
use Rattle.type_hierarchy.proofs.Near.{met_above}
use Rattle.type_hierarchy.proofs.Past.{base_past}
use Rattle.lookup.proofs.Looking.{properties_counted, Looking, on-start, looking_start, looking_end, looking_nearer, looking_farther}

module _ (lookup : Lookup) (name : List ℕ) (t : ℕ) where
  -- At the end of the chain the name means what is nearest.
  pub means : (nearest : Option ℕ) (near : ℕ) → Looking lookup name t None nearest near → nearest ≡ found (find (model_read lookup.hierarchy.model) name t)
  unfolding model_read model_of find own declares
  means nearest near l = found_number nearest ∙ ap found (rw (properties_counted lookup) (looking_end lookup name t nearest near l).is)

  -- No property has the name.
  pub means_none : None ≡ found (named_from lookup.hierarchy.model.properties.now lookup.hierarchy.model.names.now name 0) → None ≡ found (find (model_read lookup.hierarchy.model) name t)
  means_none e = means None 0 (looking_start lookup name t None (on-start lookup name None e))

  none : (r : Option ℕ) → is_some r ≡ false → r ≡ None
  none None e = refl
  none (Some k) e = absurd (false≢true (sym e))

  -- One property has the name, its owner is o, and o and t are types.
  module _ (p : ℕ) (e : Some p ≡ found (named_from lookup.hierarchy.model.properties.now lookup.hierarchy.model.names.now name 0)) (next : Option ℕ) (follows : next ≡ found (get_or lookup.index (1024 + p) 0)) (last : is_some next ≡ false) (o : ℕ) (owned : o ≡ property_owner lookup.hierarchy.model.properties.now p)
      (both : ltb o (type_count lookup.hierarchy.model.types.now) && ltb t (type_count lookup.hierarchy.model.types.now) && eqb (length lookup.hierarchy.model.types.now % 6) 0 ≡ true) where
    abbrev types : List ℕ
    types = lookup.hierarchy.model.types.now

    abbrev left : ℕ
    left = left_at (only o) (λ u. type_base types u) (type_count types) t

    is_left : left ≡ left_at (only (property_owner lookup.hierarchy.model.properties.now p)) (λ u. type_base types u) (type_count types) t
    is_left = ap (λ (k : ℕ). left_at (only k) (λ u. type_base types u) (type_count types) t) owned

    is-met : ltb 0 left ≡ ancestor_or_self (model_read lookup.hierarchy.model) o t
    unfolding model_read model_of ancestor_or_self ancestor
    is-met =
        let w = and_cases (ltb o (type_count types) && ltb t (type_count types)) (eqb (length types % 6) 0) both in
        let z = and_cases (ltb o (type_count types)) (ltb t (type_count types)) w.0 in
        let whole = eqb-true (length types % 6) 0 w.1 in
        met_above (λ u. type_base types u) (type_count types) (λ u h. base_past types u (omega arith)) o (ltb-true o (type_count types) z.0) t (ltb-true t (type_count types) z.1)

    start : Looking lookup name t (Some p) None 0
    start = looking_start lookup name t (Some p) (on-start lookup name (Some p) e)

    pub means_one : (b : Bool) → b ≡ ancestor_or_self (model_read lookup.hierarchy.model) o t → then_some b p ≡ found (find (model_read lookup.hierarchy.model) name t)
    means_one true m = means (Some p) left (looking_nearer lookup name t p None 0 start None (sym (none next last) ∙ follows) left is_left (ltb-true 0 left (is-met ∙ sym m)))
    means_one false m = means None 0 (looking_farther lookup name t p None 0 start None (sym (none next last) ∙ follows) left is_left (ltb-false 0 left (is-met ∙ sym m)))
