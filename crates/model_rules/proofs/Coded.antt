-- Rules 15, 16, 17 and 19 by the codes of all segments, as the rules of the model. Assumes nothing.
use Prim.Native.Nat.{ℕ, ◌≤◌, ◌<◌}
use mathlib.Core.Path.{◌≡◌, ap, ◌∙◌}
use mathlib.Core.Bool.{Bool}
use mathlib.Core.List.{List}
use native.Mathlib.Omega.{arith}
use lib.ListN.{get_or}
use Rattle.std.proofs.Common.{Option}
use Rattle.packed.proofs.Laws.{field_lt}
use Rattle.csdl.specs.Search.{first_from, found}
use Rattle.csdl.specs.Model.{model_of, property_text}
use Rattle.csdl.specs.Path.{path_of}
use Rattle.csdl.specs.declared.PathKind.{PathKind}
use Rattle.csdl.specs.declared.PathKind.TheVariants.{Partner, Key, Dependent, Principal, Binding, Target}
use Rattle.csdl.specs.Accepted.{Kept}
use Rattle.csdl.specs.Form.{rule4}
use Rattle.csdl.specs.Paths.{rule14, key15, constraint16, property17, binding19}
use Rattle.csdl.proofs.Logic.{first-same}
use Rattle.lookup.specs.Index.{Indexed}
use Rattle.model_image.specs.Limits.{FewProperties}
use Rattle.model_image.specs.Read.{model_read}
use Rattle.model_image.proofs.Counting.{most_properties, all_properties}
use Rattle.model_image.specs.declared.model.Model as tables
use Rattle.name_classes.specs.Classes.{Ranked}
use Rattle.path_resolution.specs.Coded.{Coded}
use Rattle.rules_keys.specs.Keys.{key_coded}
use Rattle.rules_keys.specs.Constraints.{constraint_coded}
use Rattle.rules_keys.proofs.CodedPaths.{key_coded_lem, constraint_coded_lem}
use Rattle.rules_bindings.specs.Partners.{partner_coded}
use Rattle.rules_bindings.specs.Bindings.{binding_coded}
use Rattle.rules_bindings.proofs.PartnerPaths.{partner_coded_lem}
use Rattle.rules_bindings.proofs.BindingPaths.{binding_coded_lem}

-- The same tests below n find the same.
same_found : {x : Option ℕ} (f g : ℕ → Bool) (n : ℕ) → ((k : ℕ) → k < n → f k ≡ g k) → x ≡ found (first_from f 0 n) → x ≡ found (first_from g 0 n)
same_found f g n e q = q ∙ ap (λ (z : ℕ). found z) (first-same f g 0 n (λ k a b. e k (omega arith)))

module _ (t : tables.Model) where
  -- a path's count is a field of 4 bits
  short : (w : PathKind) (r : ℕ) → (path_of (model_read t) w r).count < 16
  unfolding model_read model_of path_of
  short Partner r = field_lt t.properties.now _ 4
  short Key r = field_lt t.keys.now _ 4
  short Dependent r = field_lt t.constraints.now _ 4
  short Principal r = field_lt t.constraints.now _ 4
  short Binding r = field_lt t.bindings.now _ 4
  short Target r = field_lt t.bindings.now _ 4

  few : (model_read t).properties ≤ 32768
  few = omega (arith, most_properties t)

  by_name : (index : List ℕ) → FewProperties t.properties.now → Indexed t.properties.now t.names.now index → Ranked (λ p. property_text (model_read t) p) (model_read t).properties (get_or index 1536 0) index
  unfolding model_read model_of
  by_name index few_properties i = rw (all_properties t few_properties) i.ranked

  module _ {codes : List ℕ} (coded : Coded (model_read t) codes) {x : Option ℕ} where
    pub constraints_16 : x ≡ found (first_from (λ k. constraint_coded (model_read t) codes k) 0 (model_read t).constraints)
        → x ≡ found (first_from (λ k. constraint16 (model_read t) k) 0 (model_read t).constraints)
    constraints_16 = same_found _ _ (model_read t).constraints (λ k h. constraint_coded_lem (model_read t) codes coded few short k h)

    pub properties_17 : x ≡ found (first_from (λ k. partner_coded (model_read t) codes k) 0 (model_read t).properties)
        → x ≡ found (first_from (λ k. property17 (model_read t) k) 0 (model_read t).properties)
    properties_17 = same_found _ _ (model_read t).properties (λ k h. partner_coded_lem (model_read t) codes coded few short k h)

    module _ (kept4 : Kept (model_read t) rule4) (kept14 : Kept (model_read t) rule14) where
      pub keys_15 : x ≡ found (first_from (λ k. key_coded (model_read t) codes k) 0 (model_read t).keys) → x ≡ found (first_from (λ k. key15 (model_read t) k) 0 (model_read t).keys)
      keys_15 = same_found _ _ (model_read t).keys (λ k h. key_coded_lem (model_read t) codes coded few short kept4 kept14 k h)

      pub bindings_19 : (index : List ℕ) → FewProperties t.properties.now → Indexed t.properties.now t.names.now index
          → x ≡ found (first_from (λ k. binding_coded (model_read t) index codes k) 0 (model_read t).bindings) → x ≡ found (first_from (λ k. binding19 (model_read t) k) 0 (model_read t).bindings)
      bindings_19 index few_properties i = same_found _ _ (model_read t).bindings (λ k h. binding_coded_lem (model_read t) codes coded (most_properties t) short _ index (by_name index few_properties i) kept4 kept14 k h)
