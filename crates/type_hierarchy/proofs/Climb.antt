-- One step of a climb, as the code takes it: b is what `next` gives at t. Assumes nothing.
use Prim.Native.Nat.{ℕ, zero, suc, ◌-◌}
use mathlib.Core.Path.{◌≡◌, refl, sym, ap}
use mathlib.Core.Bool.{Bool, true, false, ◌||◌}
use borrow.Author.Tests.{eq-eqb, ne_eqb}
use lib.Dec.{eqb}
use Rattle.std.proofs.Common.{Some, None}
use Rattle.std.proofs.lemmas.Option.{none-some, same_Some}
use Rattle.csdl.specs.Search.{found}
use Rattle.csdl.specs.Climb.{climb, topmost, nearest}
use Rattle.csdl.proofs.Logic.{less_one}
use Rattle.csdl.proofs.Climbing.{climb_test}

pub climb_out : (next : ℕ → ℕ) (a t left : ℕ) → left ≡ 0 → false ≡ climb next left a t
unfolding climb
climb_out next a t left h = rw h

pub top_out : (next : ℕ → ℕ) (t left : ℕ) → left ≡ 0 → t ≡ topmost next left t
unfolding topmost
top_out next t left h = rw h

module _ (next : ℕ → ℕ) (t b : ℕ) (e : b ≡ next t) where
  pub climb-none : (a left : ℕ) → b ≡ 0 → false ≡ climb next left a t
  unfolding climb
  climb-none a zero h = refl
  climb-none a (suc l) h = rw (← e, h)

  pub climb-hit : (a left : ℕ) → (left ≡ 0 → ⊥) → (b ≡ 0 → ⊥) → b - 1 ≡ a → true ≡ climb next left a t
  climb-hit a zero p n h = absurd (p refl)
  climb-hit a (suc l) p n h = rw (climb_test next l t a, ← e, ne_eqb b 0 n, eq-eqb (b - 1) a h)

  pub climb_up : (a left : ℕ) → (left ≡ 0 → ⊥) → (b ≡ 0 → ⊥) → (b - 1 ≡ a → ⊥) → {r : Bool} → r ≡ climb next (left - 1) a (b - 1) → r ≡ climb next left a t
  climb_up a zero p n h q = absurd (p refl)
  climb_up a (suc l) p n h q = rw (climb_test next l t a, ← e, ne_eqb b 0 n, ne_eqb (b - 1) a h) (rw less_one at q)

-- The same where `next t` is asked for as an option.
pub found_none : (n : ℕ) → None ≡ found n → n ≡ 0
found_none zero e = refl
found_none (suc n) e = absurd (none-some n e)

pub found_some : (n b : ℕ) → Some b ≡ found n → n ≡ suc b
found_some zero b e = absurd (none-some b (sym e))
found_some (suc n) b e = ap (λ (k : ℕ). suc k) (sym (same_Some b n e))

module _ (next : ℕ → ℕ) (t : ℕ) where
  module _ (e : None ≡ found (next t)) where
    pub climb_end : (a left : ℕ) → false ≡ climb next left a t
    climb_end a left = climb-none next t 0 (sym (found_none (next t) e)) a left refl

    pub top_end : (left : ℕ) → t ≡ topmost next left t
    unfolding topmost
    top_end zero = refl
    top_end (suc l) = rw (found_none (next t) e)

  module _ (b : ℕ) (e : Some b ≡ found (next t)) where
    climb_step : (a left : ℕ) → climb next (suc left) a t ≡ eqb b a || climb next left a b
    unfolding climb
    climb_step a left = rw (found_some (next t) b e)

    pub climb_met : (a left : ℕ) → (left ≡ 0 → ⊥) → b ≡ a → true ≡ climb next left a t
    climb_met a zero p h = absurd (p refl)
    climb_met a (suc l) p h = rw (climb_step a l, eq-eqb b a h)

    pub climb_on : (a left : ℕ) → (left ≡ 0 → ⊥) → (b ≡ a → ⊥) → {r : Bool} → r ≡ climb next (left - 1) a b → r ≡ climb next left a t
    climb_on a zero p h q = absurd (p refl)
    climb_on a (suc l) p h q = rw (climb_step a l, ne_eqb b a h) (rw less_one at q)

    pub top_on : (left : ℕ) → (left ≡ 0 → ⊥) → {r : ℕ} → r ≡ topmost next (left - 1) b → r ≡ topmost next left t
    unfolding topmost
    top_on zero p q = absurd (p refl)
    top_on (suc l) p q = rw (found_some (next t) b e) (rw less_one at q)

pub nearest-none : (own next : ℕ → ℕ) (t o : ℕ) → o ≡ own t → (left b : ℕ) → o ≡ 0 → b ≡ next t → b ≡ 0 → 0 ≡ nearest own next left t
unfolding nearest
nearest-none own next t o f zero b z e h = refl
nearest-none own next t o f (suc l) b z e h = rw (← f, z, ← e, h)
