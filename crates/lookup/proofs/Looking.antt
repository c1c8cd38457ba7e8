-- The lookup of a name along the chain of the properties that have it. Assumes nothing.
use Prim.Native.Nat.{ℕ, suc, ◌+◌, ◌-◌, ◌≤◌, ◌<◌}
use mathlib.Core.Path.{◌≡◌, refl, sym, ap, ◌∙◌}
use mathlib.Core.List.{List}
use mathlib.Core.Bool.{Bool, true, false}
use native.Mathlib.Numerals.{add-one}
use native.Mathlib.Omega.{arith}
use lib.ListN.{get_or}
use Rattle.std.proofs.Common.{Option, Some, None, IfSome}
use Rattle.packed.specs.Bytes.{same}
use Rattle.csdl.specs.Search.{found}
use Rattle.csdl.specs.Tables.{type_base, type_count, property_count, property_owner}
use Rattle.model_image.specs.Read.{model_read}
use Rattle.model_image.proofs.Counting.{all_properties}
use Rattle.name_classes.specs.Classes.{name_of}
use Rattle.name_classes.proofs.Options.{number, found_none, found_some, found_low}
use Rattle.type_hierarchy.specs.Near.{left_at, only}
use Rattle.lookup.specs.declared.model.Lookup.{Lookup}
use Rattle.lookup.specs.Index.{named_from}
use Rattle.type_hierarchy.proofs.Near.{Near, near_start, near_nearer, near_farther, near_reach}
use Rattle.lookup.proofs.Chain.{Reached, reached, ended, goes_on}

-- How many numbers below n are left from the one that a chain is at.
abbrev pub remaining : ℕ → Option ℕ → ℕ
remaining n None = 0
remaining n (Some p) = suc (n - p)

remaining_less : (n p : ℕ) (a : Option ℕ) → p < n → ((q : ℕ) → a ≡ Some q → (p + 1 ≤ q) × (q < n)) → remaining n a < remaining n (Some p)
remaining_less n p None h f = omega arith
remaining_less n p (Some q) h f = let w = f q refl in omega (arith, w.0, w.1)

module _ (lookup : Lookup) (name : List ℕ) where
  abbrev properties : List ℕ
  properties = lookup.hierarchy.model.properties.now

  abbrev names : List ℕ
  names = lookup.hierarchy.model.names.now

  abbrev named : ℕ → Bool
  named q = same (name_of properties names q) name

  -- The chain of the name is at a, the first that has it from number `upto` on.
  pub record On (a : Option ℕ) (upto : ℕ) : Type 0 where
    pub most : upto ≤ property_count properties
    pub chain : a ≡ found (named_from properties names name upto)

  pub on-start : (a : Option ℕ) → a ≡ found (named_from properties names name 0) → On a 0
  on-start a e = record { most = omega arith; chain = e }

  module _ (upto : ℕ) where
    pub on_ended : On None upto → (j : ℕ) → upto ≤ j → j < property_count properties → named j ≡ false
    on_ended o = ended properties names name upto _ o.most refl (found_none _ o.chain)

    module _ (p : ℕ) (o : On (Some p) upto) where
      pub on-reach : Reached properties names name upto p
      on-reach = reached properties names name upto _ o.most refl p (found_some _ p o.chain)

      module _ (next : Option ℕ) (e : next ≡ found (get_or lookup.index (1024 + p) 0)) where
        pub on-next : On next (p + 1)
        on-next = record {
          most = omega (arith, on-reach.below);
          chain = e ∙ ap found (goes_on properties names name lookup.index lookup.indexed upto p on-reach _ refl);
        }

        pub on_less : remaining (property_count properties) next < remaining (property_count properties) (Some p)
        on_less = remaining_less (property_count properties) p next on-reach.below
            (λ q h. let r = reached properties names name (p + 1) _ on-next.most refl q (found_some _ q (sym h ∙ on-next.chain)) in (r.from, r.below))

  -- ---- the nearest declaration: those before `upto` have been looked at
  module _ (t : ℕ) where
    abbrev base : ℕ → ℕ
    base u = type_base lookup.hierarchy.model.types.now u

    abbrev all : ℕ
    all = type_count lookup.hierarchy.model.types.now

    abbrev NearTo : ℕ → Option ℕ → ℕ → Type 0
    NearTo p nearest near = Near (λ q. property_owner properties q) (λ q. named q) (λ u. base u) all t p (number nearest) near

    pub record Looking (a nearest : Option ℕ) (near : ℕ) : Type 0 where
      pub upto : ℕ
      pub on : On a upto
      pub looked : NearTo upto nearest near

    pub looking_start : (a : Option ℕ) → On a 0 → Looking a None 0
    looking_start a o = record { upto = 0; on = o; looked = near_start (λ q. property_owner properties q) (λ q. named q) (λ u. base u) all t }

    pub looking_end : (nearest : Option ℕ) (near : ℕ) → Looking None nearest near → NearTo (property_count properties) nearest near
    looking_end nearest near l =
        near_reach (λ q. property_owner properties q) (λ q. named q) (λ u. base u) all t l.upto (property_count properties) (number nearest) near l.on.most l.looked (on_ended l.upto l.on)

    module _ (p : ℕ) (nearest : Option ℕ) (near : ℕ) (l : Looking (Some p) nearest near) where
      at_here : NearTo p nearest near
      at_here =
          let r = on-reach l.upto p l.on in
          near_reach (λ q. property_owner properties q) (λ q. named q) (λ u. base u) all t l.upto p (number nearest) near r.from l.looked r.skips

      module _ (next : Option ℕ) (e : next ≡ found (get_or lookup.index (1024 + p) 0)) (left : ℕ) (g : left ≡ left_at (only (property_owner properties p)) (λ u. base u) all t) where
        has_name : true ≡ named p
        has_name = sym (on-reach l.upto p l.on).named

        pub looking_nearer : near < left → Looking next (Some p) left
        looking_nearer i = record {
          upto = p + 1;
          on = on-next l.upto p l.on next e;
          looked = rw (← add-one p) (near_nearer _ _ (λ u. base u) all t p (number nearest) near at_here true left has_name refl g i);
        }

        pub looking_farther : left ≤ near → Looking next nearest near
        looking_farther i = record {
          upto = p + 1;
          on = on-next l.upto p l.on next e;
          looked = near_farther _ _ (λ u. base u) all t p (number nearest) near at_here true left has_name refl g i;
        }

-- All properties are counted.
pub properties_counted : (lookup : Lookup) → (model_read lookup.hierarchy.model).properties ≡ property_count lookup.hierarchy.model.properties.now
properties_counted lookup = all_properties lookup.hierarchy.model lookup.few_properties

-- What is found of a name, and what it means, is a property.
pub named_low : (lookup : Lookup) (name : List ℕ) (r : Option ℕ) → r ≡ found (named_from lookup.hierarchy.model.properties.now lookup.hierarchy.model.names.now name 0) → IfSome r (λ p. p < 512)
named_low lookup name r e =
    let n : ℕ = property_count lookup.hierarchy.model.properties.now in
    let few : n ≤ 512 = omega (arith, lookup.few_properties) in
    rw e (found_low _ (n - 0) 512 (omega arith))
