-- A null stands in a slot only where the slot is null or one of its items is.
use Prim.Native.Nat.{ℕ, zero, suc, ◌+◌, ◌≤◌, ◌<◌}
use mathlib.Core.Path.{◌≡◌, refl, subst}
use mathlib.Core.List.Memᴰ
use mathlib.Core.List.{[], ◌∷◌, Memᴰ}
use mathlib.Core.Bool.{Bool, true, false, cond}
use mathlib.Core.Logic.{inl, inr, ⊎_elim}
use native.Mathlib.Omega.{arith}
use borrow.Author.Tests.{eqb-true}
use Rattle.csdl.specs.Search.{tab}
use Rattle.csdl.specs.Instance.{Instance}
use Rattle.csdl.specs.Conforms.{is_null}
use Rattle.csdl.specs.Walk.{Origin, item_at, slot_null, contents}
use Rattle.csdl.specs.Walk.Item.{null, value}
use Rattle.csdl.specs.Walk.Origin.{at_slot}
use Rattle.csdl.specs.Accepted.{IsNull, NullIn}
use Rattle.csdl.proofs.Logic.{in_run_lem}

-- What stands in a list of f at numbers is f at one of them.
in_tab : {A : Type 0} (f : ℕ → A) (x : A) (i n : ℕ) → Memᴰ x (tab f i n) → (k : ℕ) × (i ≤ k) × (k < i + n) × (x ≡ f k)
unfolding tab
in_tab f x i zero h = absurd (Memᴰ.not-nil h)
in_tab f x i (suc n) h =
    ⊎_elim (λ e. (i, omega arith, omega arith, e)) (λ d. let w = in_tab f x (i + 1) n d in (w.0, omega arith, omega arith, w.3)) (Memᴰ.cases_cons h)

module _ (i : Instance) (s : ℕ) where
  null-item : (k : ℕ) (o : Origin) → null o ≡ item_at i s k → is_null i k ≡ true
  unfolding item_at
  null-item k o e = go (is_null i k) refl
    where
      go : (b : Bool) → is_null i k ≡ b → is_null i k ≡ true
      go true q = q
      go false q = let f : null o ≡ value (i.item_ref k) (i.item_handle k) = rw q at e in absurd (subst IsNull f tt)

  pub null_in_slot : (o : Origin) → Memᴰ (null o) (contents i s) → NullIn i s
  unfolding contents NullIn
  null_in_slot o = go (slot_null i s) refl
    where
      go : (b : Bool) → slot_null i s ≡ b →
          Memᴰ (null o) (cond b (null (at_slot s) ∷ []) (tab (λ k. item_at i s k) (i.slot_items s).first (i.slot_items s).count)) → NullIn i s
      go true q h = inl (eqb-true (i.state s) 0 q)
      go false q h =
          let w = in_tab (λ k. item_at i s k) (null o) (i.slot_items s).first (i.slot_items s).count h in
          inr (w.0, in_run_lem (i.slot_items s) w.0 w.1 w.2, null-item w.0 o w.3)
