use mathlib.Core.Path.{sym, refl, ◌∙◌}
use native.Mathlib.Omega.{arith}
use Rattle.instance_image.specs.Read.{instance_read}
use Rattle.model_image.specs.Read.{model_read}
use Rattle.walk_items.proofs.Turns.{last_fits, last_is, turn_start, turn_asks, turn_opened, turn_more, turn_end}
use Rattle.walk_items.proofs.+walk_from.Goals as goal

pub write_last-requires : goal.write_last-requires
write_last-requires t c =
    last_fits (model_read c.args.hierarchy.now.model) (instance_read c.args.instance.now) c.args.here c.args.out.now
    (c.requires.end_small, (c.requires.here_in_bounds, c.requires.here_len_bound)) (sym c.stops.ensures ∙ c.if-stops.true)

pub returns-then-stops : goal.returns-then-stops
returns-then-stops t c =
    let g = last_is (model_read c.args.hierarchy.now.model) (instance_read c.args.instance.now) c.args.here c.args.out.now
    (c.requires.end_small, (c.requires.here_in_bounds, c.requires.here_len_bound)) (sym c.stops.ensures ∙ c.if-stops.true)
    {d = c.write_last.result} c.write_last.ensures.out_after c.write_last.ensures.end_value in
    record { out_after = g.0; end_value = g.1.0; opened_value = g.1.1 }

pub loop-q-init : goal.loop-q-init
loop-q-init t c = (
  turn_start (model_read c.args.hierarchy.now.model) (instance_read c.args.instance.now) c.args.here c.args.out.now
      (c.requires.end_small, (c.requires.here_in_bounds, c.requires.here_len_bound)) (sym c.stops.ensures ∙ c.if-stops.false) c.next_of-step.ensures.value,
  refl,
)

pub walk_from-done-requires : goal.walk_from-done-requires
walk_from-done-requires t c = turn_asks c.loop-q.invariant.0 (omega arith) c.next_position-next.ensures c.decreases

pub overflow_add-opened : goal.overflow_add-opened
overflow_add-opened t c =
    let e = c.walk_from-done.ensures in
    record { fits = turn_opened c.loop-q.invariant.0 (omega arith) c.next_position-next.ensures {d = c.walk_from-done.result} (e.out_after, (e.end_value, e.opened_value)) }

pub loop-q-preserved : goal.loop-q-preserved
loop-q-preserved t c =
    let e = c.walk_from-done.ensures in
    (turn_more c.loop-q.invariant.0 (omega arith) c.next_position-next.ensures {d = c.walk_from-done.result} (e.out_after, (e.end_value, e.opened_value)), c.loop-q.invariant.1)

pub returns : goal.returns
returns t c =
    let g = turn_end c.loop-q.invariant.0 (omega arith) {d = record { end = c.loop-q.end; opened = c.loop-q.opened }} refl refl in
    record { out_after = g.0; end_value = g.1.0; opened_value = g.1.1 }
