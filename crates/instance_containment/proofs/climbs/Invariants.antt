use Rattle.std.proofs.Common.{◌≡◌, ◌-◌}
use Rattle.csdl.specs.Climb.{climb}
use Rattle.instance_containment.specs.Graph.{entry}
use Rattle.instance_containment.proofs.climbs.Given as goal

abbrev pub invariant-loop-step : goal.invariant-loop-step
invariant-loop-step l = climb (entry l.holders) l.left l.a l.t ≡ climb (entry l.holders) (l.left - l._step) l.a l.at
