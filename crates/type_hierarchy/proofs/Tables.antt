-- A list of known length with known entries is a table; a table filled from the front. Assumes nothing.
use Prim.Native.Nat.{ℕ, ◌+◌, ◌<◌}
use mathlib.Core.Path.{◌≡◌, sym, ◌∙◌}
use mathlib.Core.List.{List}
use mathlib.Core.Bool.{cond}
use native.Mathlib.Omega.{arith}
use lib.Dec.{ltb}
use lib.ListN.{length, get_or, set, length-set}
use lib.Seq.{ext_get_or, get_or-set_same, get_or-set_other}
use borrow.Author.Tests.{lt-ltb, le-ltb}
use Rattle.csdl.specs.Search.{tab}
use Rattle.csdl.proofs.Logic.{tab-length, tab-at, equal_or_not, below_or_not}

pub is-tab : (f : ℕ → ℕ) (n : ℕ) (l : List ℕ) → length l ≡ n → ((k : ℕ) → k < n → get_or l k 0 ≡ f k) → l ≡ tab f 0 n
is-tab f n l e p =
    ext_get_or 0 l (tab f 0 n) (e ∙ sym (tab-length f 0 n))
    (λ k h. let i : k < n = omega (arith, e, h) in p k i ∙ sym (tab-at f 0 n k i))

-- One entry more, behind the others.
pub tab-more : (f : ℕ → ℕ) (size n v : ℕ) → n < size → v ≡ f n
    → set (tab (λ k. cond (ltb k n) (f k) 0) 0 size) n v ≡ tab (λ k. cond (ltb k (n + 1)) (f k) 0) 0 size
tab-more f size n v h e = is-tab (λ k. cond (ltb k (n + 1)) (f k) 0) size (set (tab old 0 size) n v) (length-set (tab old 0 size) n v ∙ tab-length old 0 size) each
  where
    old : ℕ → ℕ
    old k = cond (ltb k n) (f k) 0

    kept : (k : ℕ) → (k ≡ n → ⊥) → cond (ltb k n) (f k) 0 ≡ cond (ltb k (n + 1)) (f k) 0
    kept k z = below_or_not k n (λ l. rw (lt-ltb k n l, lt-ltb k (n + 1) (omega arith))) (λ l. rw (le-ltb k n l, le-ltb k (n + 1) (omega (arith, l, z))))

    each : (k : ℕ) → k < size → get_or (set (tab old 0 size) n v) k 0 ≡ cond (ltb k (n + 1)) (f k) 0
    each k l =
        equal_or_not k n
        (λ z. rw (z, lt-ltb n (n + 1) (omega arith)) (get_or-set_same (tab old 0 size) n v 0 (omega (arith, tab-length old 0 size, h)) ∙ e))
        (λ z. get_or-set_other (tab old 0 size) n k v 0 z ∙ tab-at old 0 size k l ∙ kept k z)
