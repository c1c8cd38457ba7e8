-- How many paths a segment is in, as rule 13 counts them.
use Rattle.std.specs.Prelude.{ℕ, ◌+◌, Bool, ◌&&◌, leb, ltb}
use Rattle.csdl.specs.Model.{Model}
use Rattle.csdl.specs.Path.{paths_with}

-- Number g is of the run of so many from the first on.
unfoldable pub inside : ℕ → ℕ → ℕ → Bool
inside first count g = leb first g && ltb g (first + count)

-- The paths of all six kinds that have segment g.
unfoldable pub cover_of : Model → ℕ → ℕ
cover_of m g = paths_with m g
