-- The walk of a model and an instance along a run of segments from a node.
use Rattle.std.specs.Prelude.{ℕ, List}
use Rattle.csdl.specs.declared.Run.{Run}
use Rattle.csdl.specs.Search.{flat}
use Rattle.csdl.specs.Model.{Model}
use Rattle.csdl.specs.Path.{segments_of}
use Rattle.csdl.specs.Instance.{Instance}
use Rattle.csdl.specs.Walk.{walked, opened, start, bytes_of_item}

-- The bytes of the results, and the slots opened.
unfoldable pub bytes_along : Model → Instance → Run → ℕ → List ℕ
bytes_along m i run v = flat (λ x. bytes_of_item x) (walked m i (segments_of m run) (start i v))

unfoldable pub opened_along : Model → Instance → Run → ℕ → List ℕ
opened_along m i run v = opened m i (segments_of m run) (start i v)
