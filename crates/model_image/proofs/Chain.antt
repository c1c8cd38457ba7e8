-- An answer found by a chain of comparisons: each test that a `cond` asks was decided by the code.
use mathlib.Core.Path.{◌≡◌}
use mathlib.Core.Bool.{cond}
use Prim.Native.Nat.{ℕ, ◌≤◌, ◌<◌}
use lib.Dec.{ltb}
use borrow.Author.Tests.{lt-ltb, le-ltb}

module _ (A : Type 0) (v x y : A) (a b : ℕ) where
  pub below : a < b → v ≡ x → v ≡ cond (ltb a b) x y
  below h e = rw (lt-ltb a b h) e

  pub beyond : b ≤ a → v ≡ y → v ≡ cond (ltb a b) x y
  beyond h e = rw (le-ltb a b h) e

pub ruleset chain = (below, beyond)
