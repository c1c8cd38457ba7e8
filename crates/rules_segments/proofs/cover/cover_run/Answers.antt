use native.Mathlib.Omega.{arith}
use borrow.Author.Rules.{rules}
use lib.ListN.{length}
use Rattle.rules_segments.proofs.Covering.{counted_start, counted-small, counted-more, counted_end}
use Rattle.rules_segments.proofs.cover.cover_run.Goals as goal

pub loop-g-init : goal.loop-g-init
loop-g-init c = (search rules, search rules, search rules, search rules, counted_start c.args.cover.now c.args.first)

pub overflow_add-cover : goal.overflow_add-cover
overflow_add-cover c = omega (arith, counted-small c.args.cover.now c.loop-g.cover c.args.first c.loop-g.g c.loop-g.g 60000 c.loop-g.invariant.4 (c.requires.1 c.loop-g.g (omega arith)))

pub loop-g-preserved : goal.loop-g-preserved
loop-g-preserved c = (search rules, search rules, search rules, search rules, counted-more c.args.cover.now c.loop-g.cover c.args.first c.loop-g.g (omega arith) (omega arith) c.loop-g.invariant.4)

pub returns : goal.returns
returns c = (search rules, λ k h. counted_end c.args.cover.now c.loop-g.cover c.args.first c.args.count c.loop-g.g (length c.args.cover.now) (omega arith) (omega arith) (omega arith) c.loop-g.invariant.4 k h)
