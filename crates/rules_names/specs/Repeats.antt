-- Two children of one name.
use Rattle.std.specs.Prelude.{ℕ, Bool}
use Rattle.packed.specs.Bytes.{same}
use Rattle.csdl.specs.Model.{Model, text}

-- Child j has the name of child h.
abbrev pub same_child : Model → ℕ → ℕ → Bool
same_child m h j = same (text m (m.child_name j)) (text m (m.child_name h))
