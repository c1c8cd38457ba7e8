-- Where a walk goes on; what the walk of one item writes and opens.
use Rattle.std.specs.Prelude.{ℕ, ◌+◌, ◌-◌, List}
use Rattle.csdl.specs.Model.{Model}
use Rattle.csdl.specs.Instance.{Instance}
use Rattle.walk_step.specs.Seen.{written, openings}
use Rattle.walk_step.specs.declared.Item.{Item}
use Rattle.walk_items.specs.declared.Position.{Position}

-- At an item that comes next, one segment further, with results from byte `end` on.
abbrev pub next_position : Position → Item → ℕ → Position
next_position p x end = record { k = p.k + 1; left = p.left - 1; item = x; end = end }

abbrev pub written_from : Model → Instance → Position → List ℕ
written_from m i p = written m i p.k p.left p.item.t p.item.v

abbrev pub opened_from : Model → Instance → Position → List ℕ
opened_from m i p = openings m i p.k p.left p.item.t p.item.v
