-- A path out of the table of the codes of all segments.
use Rattle.std.specs.Prelude.{ℕ, List}
use Rattle.csdl.specs.Model.{Model}
use Rattle.csdl.specs.Path.{path_of, start_of}
use Rattle.csdl.specs.declared.PathKind.{PathKind}
use Rattle.path_resolution.specs.Resolution.{code_end}
use Rattle.path_resolution.specs.Coded.{run_of}

-- The codes of the path of a kind that record r holds, and the type reference at its end.
abbrev pub path_run : Model → List ℕ → PathKind → ℕ → List ℕ
path_run m codes w r = run_of codes (path_of m w r).first (path_of m w r).count

abbrev pub run_end : Model → List ℕ → PathKind → ℕ → ℕ
run_end m codes w r = code_end m (start_of m w r) (path_run m codes w r) (path_of m w r).count
