-- Halving: what is known of the entries below `low` and from `high` on. Assumes nothing.
use Prim.Native.Nat.{ℕ, ◌+◌, ◌≤◌, ◌<◌}
use mathlib.Core.Path.{◌≡◌, refl, sym, ◌∙◌}
use mathlib.Core.List.{List}
use mathlib.Core.Bool.{Bool, true, false, false≢true}
use native.Mathlib.Omega.{arith}
use lib.ListN.{get_or}
use Rattle.csdl.proofs.Logic.{equal_or_not}
use Rattle.name_classes.specs.Order.{before}
use Rattle.name_classes.specs.Classes.{Sorted, Stands}
use Rattle.name_classes.proofs.Before.{before_trans}

module _ (name : ℕ → List ℕ) (order : List ℕ) (firsts : ℕ) (sorted : Sorted name order firsts) (x : List ℕ) where
  pub record Between (low high : ℕ) : Type 0 where
    pub ordered : low ≤ high
    pub most : high ≤ firsts
    pub front : (i : ℕ) → i < low → before (name (get_or order i 0)) x ≡ true
    pub back : (i : ℕ) → high ≤ i → i < firsts → before (name (get_or order i 0)) x ≡ false

  pub between_start : Between 0 firsts
  between_start = record { ordered = omega arith; most = omega arith; front = λ i h. absurd (omega arith); back = λ i h k. absurd (omega arith) }

  module _ (low high mid : ℕ) (w : Between low high) (l : low ≤ mid) (h : mid < high) (r : Bool) (e : r ≡ before (name (get_or order mid 0)) x) where
    pub between_up : r ≡ true → Between (mid + 1) high
    between_up t = record {
      ordered = omega arith;
      most = w.most;
      front = λ i k. equal_or_not i mid (λ z. rw z (sym e ∙ t)) (λ n. before_trans _ (name (get_or order mid 0)) _ (sorted i mid (omega (arith, n)) (omega (arith, w.most))) (sym e ∙ t));
      back = w.back;
    }

    pub between_down : r ≡ false → Between low mid
    between_down t = record {
      ordered = l;
      most = omega (arith, w.most);
      front = w.front;
      back = λ i k m. equal_or_not i mid (λ z. rw z (sym e ∙ t)) (λ n. later i (omega (arith, n)) m);
    }
      where
        later : (i : ℕ) → mid < i → i < firsts → before (name (get_or order i 0)) x ≡ false
        later i k m = go (before (name (get_or order i 0)) x) refl
          where
            go : (b : Bool) → before (name (get_or order i 0)) x ≡ b → b ≡ false
            go true q = absurd (false≢true (sym t ∙ e ∙ before_trans _ (name (get_or order i 0)) _ (sorted mid i k m) q))
            go false q = refl

  pub between_end : (low high : ℕ) → Between low high → high ≤ low → Stands name order firsts x low
  between_end low high w h = record { most = omega (arith, w.ordered, w.most); front = w.front; back = λ i k m. w.back i (omega arith) m }
