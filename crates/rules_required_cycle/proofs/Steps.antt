-- Required steps, and the types on cycles of them, from the code's rows.
use Prim.Native.Nat.{ℕ, ◌+◌, ◌≤◌, ◌<◌}
use mathlib.Core.Path.{◌≡◌, refl, sym, ap, ◌∙◌}
use mathlib.Core.List.{List}
use mathlib.Core.Bool.{Bool, true, false, ◌&&◌, ◌||◌, and-true, and-false, or-false}
use native.Mathlib.Omega.{arith}
use lib.Dec.{eqb}
use lib.ListN.{length, get_or, set, replicate, get_or-replicate}
use lib.Seq.{get_or-set_same, get_or-set_other}
use borrow.Author.Tests.{eqb-true, eq-eqb, ne_eqb}
use Rattle.csdl.specs.Search.{any_from, first_from, found}
use Rattle.csdl.specs.Model.{Model}
use Rattle.csdl.specs.Find.{ancestor_or_self}
use Rattle.csdl.specs.Properties.{required, required_step, type12}
use Rattle.type_hierarchy.specs.Sets.{member, Members, step_of}
use Rattle.rules_required_cycle.specs.Closing.{Closed}
use Rattle.rules_required_cycle.specs.Steps.{own_step, Owned}
use Rattle.csdl.proofs.Logic.{any_found, any_of, first-same, and_cases, and_both, bool_iff, equal_or_not}
use Rattle.csdl.proofs.Reaching.{reaches_same}
use Rattle.type_hierarchy.proofs.SetLaws.{member-none}
use Rattle.rules_required_cycle.proofs.Gather.{gather_start, gather_next}

-- No property yet, and one more: its step goes to the row of its owner.
pub owned_start : (m : Model) → Owned m 0 (replicate 64 0)
owned_start m t i u h = ap (λ s. member s u) (get_or-replicate 64 t 0 0 i) ∙ member-none u ∙ gather_start false (λ p. own_step m t u p)

pub owned_more : (m : Model) (n : ℕ) (rows : List ℕ) (o row : ℕ) → length rows ≡ 64 → Owned m n rows → o < 64 → o ≡ m.owner n
    → Members 64 row (λ u. member (get_or rows o 0) u || (required m n && eqb (m.type_ref n) u)) → Owned m (n + 1) (set rows o row)
unfolding own_step
owned_more m n rows o row size had low e new t i u h = gather_next false (λ p. own_step m t u p) n (member (get_or rows t 0) u) (member (get_or (set rows o row) t 0) u) (had t i u h) (equal_or_not t o here other)
  where
    here : t ≡ o → member (get_or (set rows o row) t 0) u ≡ member (get_or rows t 0) u || own_step m t u n
    here z = rw (z, get_or-set_same rows o row 0 (rw size low), eq-eqb (m.owner n) o (sym e), and-true (required m n && eqb (m.type_ref n) u)) (new u h)

    other : (t ≡ o → ⊥) → member (get_or (set rows o row) t 0) u ≡ member (get_or rows t 0) u || own_step m t u n
    other z =
        rw (get_or-set_other rows o t row 0 z, ne_eqb (m.owner n) t (λ q. z (sym q ∙ sym e)), and-false (required m n && eqb (m.type_ref n) u), or-false (member (get_or rows t 0) u))

-- The steps of t: those that t and its ancestors, which are the set, have by their own properties.
module _ (m : Model) (rows : List ℕ) (set t u : ℕ) (low : u < 64) (owners : (p : ℕ) → m.owner p < 64) (own : Owned m m.properties rows)
    (is : Members 64 set (λ a. ancestor_or_self m a t)) where
  abbrev by_type : ℕ → Bool
  by_type a = member set a && step_of rows a u

  abbrev by_property : ℕ → Bool
  by_property p = required m p && eqb (m.type_ref p) u && ancestor_or_self m (m.owner p) t

  up : any_from by_type 0 64 ≡ true → any_from by_property 0 m.properties ≡ true
  unfolding own_step
  up e =
      let w = any_found by_type 0 64 e in
      let a = w.0 in
      let b = and_cases (member set a) (step_of rows a u) w.3 in
      let v = any_found (λ p. own_step m a u p) 0 m.properties (sym (own a w.2 u low) ∙ b.1) in
      let p = v.0 in
      let x = and_cases (required m p && eqb (m.type_ref p) u) (eqb (m.owner p) a) v.3 in
      let at : m.owner p ≡ a = eqb-true (m.owner p) a x.1 in
      any_of by_property 0 m.properties p v.1 v.2 (and_both (required m p && eqb (m.type_ref p) u) (ancestor_or_self m (m.owner p) t) x.0 (rw at (sym (is a w.2) ∙ b.0)))

  down : any_from by_property 0 m.properties ≡ true → any_from by_type 0 64 ≡ true
  unfolding own_step
  down e =
      let w = any_found by_property 0 m.properties e in
      let p = w.0 in
      let a = m.owner p in
      let b = and_cases (required m p && eqb (m.type_ref p) u) (ancestor_or_self m a t) w.3 in
      let step = any_of (λ q. own_step m a u q) 0 m.properties p w.1 w.2 (and_both (required m p && eqb (m.type_ref p) u) (eqb a a) b.0 (eq-eqb a a refl)) in
      any_of by_type 0 64 a (omega arith) (owners p) (and_both (member set a) (step_of rows a u) (is a (owners p) ∙ b.1) (own a (owners p) u low ∙ step))

  pub all_steps : any_from by_type 0 64 ≡ required_step m t u
  unfolding required_step
  all_steps = bool_iff (any_from by_type 0 64) (any_from by_property 0 m.properties) up down

-- Row t has the steps of t, and gets what they reach: the first in its own row is the first that reaches itself.
pub first_cyclic : (m : Model) (rows closed : List ℕ) (n : ℕ) → n ≡ m.types → n ≤ 64 → ((t : ℕ) → t < m.types → Members 64 (get_or rows t 0) (λ u. required_step m t u)) → Closed n rows closed
    → found (first_from (λ t. step_of closed t t) 0 m.types) ≡ found (first_from (λ t. type12 m t) 0 m.types)
unfolding type12
first_cyclic m rows closed n e few is all =
    ap found
    (first-same (λ t. step_of closed t t) (λ t. type12 m t) 0 m.types
    (λ t i h. let l : t < m.types = omega (arith, h) in
    (rw e at all) t t l l ∙ reaches_same (step_of rows) (λ a b. required_step m a b) m.types (λ x y i j. is x i y (omega (arith, e, few, j))) t t l))
