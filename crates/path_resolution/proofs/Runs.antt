-- The codes of one path out of those of all segments. Assumes nothing.
use Prim.Native.Nat.{ℕ, ◌+◌, ◌<◌}
use mathlib.Core.Path.{◌≡◌, refl, ◌∙◌}
use mathlib.Core.List.{List}
use mathlib.Core.Bool.{cond}
use native.Mathlib.Omega.{arith}
use lib.Dec.{ltb}
use lib.ListN.{get_or, set}
use borrow.Author.Tests.{lt-ltb}
use Rattle.csdl.proofs.Logic.{tab-at}
use Rattle.csdl.specs.Model.{Model}
use Rattle.csdl.specs.Path.{holders, path_of, start_of}
use Rattle.csdl.specs.declared.PathKind.{PathKind}
use Rattle.type_hierarchy.proofs.Tables.{tab-more}
use Rattle.path_resolution.specs.Resolution.{code_at}
use Rattle.path_resolution.specs.Coded.{Coded, run_of}

module _ (codes : List ℕ) (first : ℕ) where
  run_at : (n k : ℕ) → k < 16 → get_or (run_of codes first n) k 0 ≡ cond (ltb k n) (get_or codes (first + k) 0) 0
  unfolding run_of
  run_at n k h = tab-at (λ j. cond (ltb j n) (get_or codes (first + j) 0) 0) 0 16 k h

  pub run_more : (n : ℕ) → n < 16 → set (run_of codes first n) n (get_or codes (first + n) 0) ≡ run_of codes first (n + 1)
  unfolding run_of
  run_more n l = tab-more (λ k. get_or codes (first + k) 0) 16 n (get_or codes (first + n) 0) l refl

-- The run of the path that a record holds has the codes of its segments.
pub run_codes : (m : Model) (codes : List ℕ) → Coded m codes → (w : PathKind) (r : ℕ) → r < holders m w → (path_of m w r).count < 16
    → (k : ℕ) → k < (path_of m w r).count → get_or (run_of codes (path_of m w r).first (path_of m w r).count) k 0 ≡ code_at m (start_of m w r) (path_of m w r).first k
run_codes m codes c w r there few k h = run_at codes (path_of m w r).first (path_of m w r).count k (omega arith) ∙ rw (lt-ltb k (path_of m w r).count h) (c.code w r k there h)
