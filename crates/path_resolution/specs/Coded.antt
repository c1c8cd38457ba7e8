-- The codes of all segments of a model, kept in one table.
use Rattle.std.specs.Prelude.{ℕ, ◌+◌, ◌<◌, ◌≡◌, List, cond, ltb, get_or}
use Rattle.csdl.specs.Search.{tab}
use Rattle.csdl.specs.Model.{Model}
use Rattle.csdl.specs.Path.{holders, path_of, start_of}
use Rattle.csdl.specs.declared.PathKind.{PathKind}
use Rattle.path_resolution.specs.Resolution.{code_at}

-- Each segment of each path that a record holds has its code at its number.
pub record Coded (m : Model) (codes : List ℕ) : Type 0 where
  pub code : (w : PathKind) (r k : ℕ) → r < holders m w → k < (path_of m w r).count → get_or codes ((path_of m w r).first + k) 0 ≡ code_at m (start_of m w r) (path_of m w r).first k

-- The n codes from number `first` on, and zeros up to 16.
unfoldable pub run_of : List ℕ → ℕ → ℕ → List ℕ
run_of codes first n = tab (λ k. cond (ltb k n) (get_or codes (first + k) 0) 0) 0 16
