-- Numbers past the tables: no base, no kind, no property of that owner. Assumes nothing.
use Prim.Native.Nat.{ℕ, zero, suc, ◌+◌, ◌-◌, ◌*◌, ◌/◌, ◌≤◌, ◌<◌}
use mathlib.Core.Path.{◌≡◌, refl, sym}
use mathlib.Core.List.{List}
use mathlib.Core.Bool.{Bool, true, false, cond}
use native.Mathlib.Omega.{arith}
use lib.Dec.{eqb}
use lib.ListN.{length}
use borrow.Author.Tests.{ne_eqb, le-ltb}
use Rattle.packed.specs.Field.{field_of}
use Rattle.packed.proofs.Laws.{field_lt, field_past}
use Rattle.csdl.specs.Tables.{type_base}
use Rattle.csdl.specs.Climb.{climb}
use Rattle.csdl.proofs.Climbing.{climb_test}
use Rattle.csdl.proofs.Logic.{none_first}
use Rattle.csdl.specs.Model.{model_of}
use Rattle.model_image.specs.Read.{model_read}
use Rattle.model_image.specs.declared.model.Model.{Model}
use Rattle.csdl.specs.Find.{structured, ancestor_or_self, ancestor, find, own, declares}
use Rattle.type_hierarchy.proofs.Climb.{climb-none, nearest-none}

pub base_past : (ty : List ℕ) (t : ℕ) → length ty ≤ 6 * t → type_base ty t ≡ 0
base_past ty t h = field_past ty (48 * t + 10) 7 (omega arith)

climb-high : (next : ℕ → ℕ) → ((u : ℕ) → next u < 128) → (left a t : ℕ) → 128 ≤ a → climb next left a t ≡ false
unfolding climb
climb-high next s zero a t h = refl
climb-high next s (suc left) a t h =
    let n : next t - 1 ≡ a → ⊥ = λ e. omega (arith, s t) in
    rw (climb_test next left t a, climb-high next s left a (next t - 1) h, ne_eqb (next t - 1) a n) (either (eqb (next t) 0))
  where
    either : (b : Bool) → cond b false false ≡ false
    either true = refl
    either false = refl

module _ (m : Model) where
  few : length m.types.now ≤ 384
  few = m.few_types

  pub structured_past : (x : ℕ) → 64 ≤ x → structured (model_read m) x ≡ false
  unfolding model_read model_of structured
  structured_past x h = rw (le-ltb x (length m.types.now / 6) (omega (arith, few)))

  pub ancestor-or_self_past : (a t : ℕ) → (t ≡ a → ⊥) → 64 ≤ t → ancestor_or_self (model_read m) a t ≡ false
  unfolding model_read model_of ancestor_or_self ancestor
  ancestor-or_self_past a t n h = rw (ne_eqb t a n) (sym (climb-none (λ u. type_base m.types.now u) t 0 (sym (base_past m.types.now t (omega (arith, few)))) a (length m.types.now / 6) refl))

  pub ancestor-or_self_high : (a t : ℕ) → (t ≡ a → ⊥) → 128 ≤ a → ancestor_or_self (model_read m) a t ≡ false
  unfolding model_read model_of ancestor_or_self ancestor
  ancestor-or_self_high a t n h = rw (ne_eqb t a n) (climb-high (λ u. type_base m.types.now u) (λ u. field_lt m.types.now (48 * u + 10) 7) (length m.types.now / 6) a t h)

  pub find_past : (nm : List ℕ) (t : ℕ) → 64 ≤ t → find (model_read m) nm t ≡ 0
  unfolding model_read model_of find own declares
  find_past nm t h =
      sym (nearest-none _ (λ u. type_base m.types.now u) t 0
      (sym (none_first _ 0 (model_read m).properties (λ p i l. rw (ne_eqb (field_of m.properties.now (56 * p) 6) t (λ e. omega (arith, field_lt m.properties.now (56 * p) 6))))))
      (length m.types.now / 6) 0 refl (sym (base_past m.types.now t (omega (arith, few)))) refl)
