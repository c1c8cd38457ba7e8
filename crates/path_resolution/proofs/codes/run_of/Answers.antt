use mathlib.Core.Path.{◌≡◌, refl}
use native.Mathlib.Omega.{arith}
use Rattle.csdl.specs.Search.{tab}
use Rattle.path_resolution.specs.Coded.{run_of}
use Rattle.path_resolution.proofs.Runs.{run_more}
use borrow.Author.Rules.{rules}
use Rattle.path_resolution.proofs.codes.run_of.Goals as goal

pub loop-k-init : goal.loop-k-init
unfolding run_of tab
loop-k-init c = (refl, search rules, search rules, search rules)

pub bounds-run-k : goal.bounds-run-k
bounds-run-k c = omega arith

pub loop-k-preserved : goal.loop-k-preserved
loop-k-preserved c = (rw (c.loop-k.invariant.0, c.code_at.ensures) (run_more c.args.codes.now c.args.first c.loop-k.k (omega arith)), search rules, search rules, search rules)

pub returns : goal.returns
returns c = let e : c.loop-k.k ≡ c.args.n = omega arith in
    rw (← e) c.loop-k.invariant.0
