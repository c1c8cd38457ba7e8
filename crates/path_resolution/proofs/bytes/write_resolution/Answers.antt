use mathlib.Core.Path.{◌≡◌}
use native.Mathlib.Omega.{arith}
use lib.ListN.{length-set}
use Rattle.path_resolution.proofs.Writing.{high_of, low_of, written_start, written-more, all-written}
use borrow.Author.Rules.{rules}
use Rattle.path_resolution.proofs.bytes.write_resolution.Goals as goal

pub loop-g-init : goal.loop-g-init
loop-g-init c = (search rules, search rules, search rules, written_start _ _)

pub bounds-out-at-in-loop-g : goal.bounds-out-at-in-loop-g
bounds-out-at-in-loop-g c = simp length-set (omega arith)

pub loop-g-preserved : goal.loop-g-preserved
loop-g-preserved c = (search rules, search rules, simp length-set c.loop-g.invariant.2, rw (c.byte_of.ensures, c.byte_of-in-loop-g.ensures, c.code_at-code.ensures, high_of, low_of) (written-more c.args.codes.now c.args.out.now c.loop-g.out c.loop-g.g c.loop-g.invariant.3 (omega arith)))

pub returns : goal.returns
returns c = let e : c.loop-g.g ≡ c.args.n = omega arith in
    rw (← e) (all-written c.args.codes.now c.args.out.now c.loop-g.out c.loop-g.g (omega arith) c.loop-g.invariant.3)
