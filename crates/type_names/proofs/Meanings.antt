-- What each name means at a type, found in one pass over the properties. Assumes nothing.
use Prim.Native.Nat.{ℕ, zero, suc, ◌+◌, ◌-◌, ◌≤◌, ◌<◌}
use mathlib.Core.Path.{◌≡◌, refl, sym, ap, ◌∙◌}
use mathlib.Core.Bool.{Bool, true, false, ◌&&◌}
use mathlib.Core.List.{List}
use native.Mathlib.Omega.{arith}
use lib.Dec.{eqb}
use lib.ListN.{length, get_or, set, length-set, replicate, length-replicate, get_or-replicate}
use lib.Seq.{get_or-set_same, get_or-set_other}
use borrow.Author.Tests.{eq-eqb, ne_eqb}
use Rattle.csdl.specs.Climb.{nearest}
use Rattle.csdl.proofs.Logic.{first-same, equal_or_not}
use Rattle.csdl.proofs.Climbing.{nearest_test}
use Rattle.csdl.specs.Tables.{type_base, type_count, property_count, property_owner}
use Rattle.csdl.specs.Model.{model_of}
use Rattle.model_image.specs.Limits.{FewProperties}
use Rattle.model_image.specs.Read.{model_read}
use Rattle.model_image.proofs.Counting.{all_properties}
use Rattle.model_image.specs.declared.model.Model.{Model}
use Rattle.csdl.specs.Find.{declares, own, find, is_name_of}
use Rattle.type_hierarchy.specs.Near.{left_at, only}
use Rattle.type_hierarchy.proofs.Near.{Near, near_start, near_other, near_nearer, near_farther}
use Rattle.name_classes.specs.Classes.{name_of, Ranked}
use Rattle.name_classes.proofs.Ranks.{entry_low, same_class}
use Rattle.type_names.specs.Nearest.{Meaning}

-- ---- one pass over the properties
module _ (owner class : ℕ → ℕ) (next : ℕ → ℕ) (all t : ℕ) where
  pub record Meant (p : ℕ) (found near : List ℕ) : Type 0 where
    pub places : length found ≡ 513
    pub size : length near ≡ 513
    pub is : (h : ℕ) → h < 513 → Near owner (λ q. eqb (class q) h) next all t p (get_or found h 0) (get_or near h 0)

  pub meant_start : Meant 0 (replicate 513 0) (replicate 513 0)
  meant_start = record {
    places = length-replicate {A = ℕ} 513 0;
    size = length-replicate {A = ℕ} 513 0;
    is = λ h k. rw (get_or-replicate {A = ℕ} 513 h 0 0 k) (near_start owner (λ q. eqb (class q) h) next all t);
  }

  module _ (p : ℕ) (found near : List ℕ) (m : Meant p found near) (c : ℕ) (here : c ≡ class p) (small : c < 513) (left : ℕ) (e : left ≡ left_at (only (owner p)) next all t) where
    other : (h : ℕ) → h < 513 → (h ≡ c → ⊥) → Near owner (λ q. eqb (class q) h) next all t (p + 1) (get_or found h 0) (get_or near h 0)
    other h k n = near_other owner (λ q. eqb (class q) h) next all t p (get_or found h 0) (get_or near h 0) (m.is h k) false (sym (ne_eqb (class p) h (λ y. n (sym y ∙ sym here)))) refl

    pub meant_nearer : get_or near c 0 < left → Meant (p + 1) (set found c (p + 1)) (set near c left)
    meant_nearer l = record {
      places = length-set found c (p + 1) ∙ m.places;
      size = length-set near c left ∙ m.size;
      is = λ h k. equal_or_not h c
          (λ z. rw (z, get_or-set_same found c (p + 1) 0 (rw m.places small), get_or-set_same near c left 0 (rw m.size small))
          (near_nearer owner (λ q. eqb (class q) c) next all t p (get_or found c 0) (get_or near c 0) (m.is c small) true left (sym (eq-eqb (class p) c (sym here))) refl e l))
          (λ z. rw (get_or-set_other found c h (p + 1) 0 z, get_or-set_other near c h left 0 z) (other h k z));
    }

    pub meant_farther : left ≤ get_or near c 0 → Meant (p + 1) found near
    meant_farther l = record {
      places = m.places;
      size = m.size;
      is = λ h k. equal_or_not h c
          (λ z. rw z (near_farther owner (λ q. eqb (class q) c) next all t p (get_or found c 0) (get_or near c 0) (m.is c small) true left (sym (eq-eqb (class p) c (sym here))) refl e l))
          (λ z. other h k z);
    }

pub meaning : (types properties index : List ℕ) (t : ℕ) (found near : List ℕ)
    → Meant (λ q. property_owner properties q) (λ q. get_or index (512 + q) 0) (λ u. type_base types u) (type_count types) t (property_count properties) found near
    → Meaning types properties index t found
meaning types properties index t found near m = record { size = m.places; is = λ h k. (m.is h k).is }

-- ---- what the entry of a property means is what its name means
nearest-same : (f g next : ℕ → ℕ) → ((u : ℕ) → f u ≡ g u) → (l t : ℕ) → nearest f next l t ≡ nearest g next l t
unfolding nearest
nearest-same f g next e zero t = refl
nearest-same f g next e (suc l) t = rw (nearest_test next l t f, nearest_test next l t g, e t, nearest-same f g next e l (next t - 1))

module _ (model : Model) (index : List ℕ) (t : ℕ) (few : FewProperties model.properties.now) (ranked : Ranked (λ p. name_of model.properties.now model.names.now p) (model_read model).properties (get_or index 1536 0) index) where
  w : Ranked (λ p. name_of model.properties.now model.names.now p) (property_count model.properties.now) (get_or index 1536 0) index
  w = rw (all_properties model few) at ranked

  pub name_meant : (p : ℕ) → p < (model_read model).properties → (found : List ℕ) → Meaning model.types.now model.properties.now index t found
      → eqb (get_or found (get_or index (512 + p) 0) 0) (suc p) ≡ is_name_of (model_read model) t p
  unfolding model_read model_of is_name_of find own declares
  name_meant p below found m =
      let c = get_or index (512 + p) 0 in
      let h : p < property_count model.properties.now = omega (arith, below, all_properties model few) in
      ap (λ (x : ℕ). eqb x (suc p))
      (rw (all_properties model few) (m.is c (entry_low _ _ _ _ w (omega (arith, few)) p h)
      ∙ nearest-same _ _ (λ u. type_base model.types.now u)
      (λ u. first-same _ _ 0 (property_count model.properties.now) (λ q a k. ap (λ (b : Bool). eqb (property_owner model.properties.now q) u && b) (same_class (λ p. name_of model.properties.now model.names.now p) (property_count model.properties.now) (get_or index 1536 0) index w q p (omega (arith, k)) h)))
      (type_count model.types.now) t))
