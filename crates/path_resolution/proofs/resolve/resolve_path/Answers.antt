use Rattle.path_resolution.proofs.Turn.{along-start, along-number, along-few, along_less, along-next, along_end_lem}
use Rattle.path_resolution.proofs.resolve.resolve_path.Goals as goal

pub loop-k-init : goal.loop-k-init
loop-k-init c = along-start c.requires.1 c.requires.0

pub overflow_add-path : goal.overflow_add-path
overflow_add-path c = record { fits = along-number c.loop-k.invariant c.loop-k-test.true }

pub taken_on-taken-requires : goal.taken_on-taken-requires
taken_on-taken-requires c = along-few c.loop-k.invariant c.loop-k-test.true

pub loop-k-smaller : goal.loop-k-smaller
loop-k-smaller c = along_less c.loop-k.invariant c.loop-k-test.true

pub loop-k-preserved : goal.loop-k-preserved
loop-k-preserved c = along-next c.loop-k.invariant c.loop-k-test.true c.move_at-moved.ensures.ok_value c.move_at-moved.ensures.code_value c.move_at-moved.ensures.to_value c.taken_on-taken.ensures

pub returns : goal.returns
returns c = let all = along_end_lem c.loop-k.invariant c.loop-k-test.false in record { resolved_to = all.0; codes_value = all.1 }
