use Rattle.std.proofs.Common.{arith, ℕ, ◌<◌, ◌-◌, length-set}
use Rattle.std.proofs.lemmas.List.{length-replicate}
use Rattle.instance_runs.proofs.Fills.{partly_start, partly_more, partly_all, left-none, left_down, left-all}
use Rattle.instance_runs.proofs.runs.over_runs.Goals as goal

pub loop-v-init : goal.loop-v-init
loop-v-init g c = (length-replicate {A = ℕ} g.row.N 0, λ run step r s. left-none run step c.args.count g.row.N c.args.count (omega arith))

pub loop-k-init : goal.loop-k-init
loop-k-init g c = (omega arith, c.loop-v.invariant.0, c.loop-v.invariant.0, λ f h. partly_start f _ _)

pub loop-k-preserved : goal.loop-k-preserved
loop-k-preserved g c =
    (omega arith, rw length-set c.loop-k.invariant.1, c.loop-k.invariant.2, λ f h. partly_more f c.run_of-run.result.first c.loop-k.k c.change.result c.loop-v.array c.loop-k.array (c.loop-k.invariant.3 f h) (omega arith) (omega arith) (h _ _ c.change.ensures))

pub loop-v-preserved : goal.loop-v-preserved
loop-v-preserved g c = (
  c.loop-k.invariant.1,
  λ run step r s.
      let u = c.loop-v.v - 1 in
      let h : u < c.args.count = omega arith in
      left_down run step c.args.count g.row.N u c.loop-v.v c.run_of-run.result (omega arith) h (r u _ h c.run_of-run.ensures) c.loop-v.array c.loop-k.array (c.loop-v.invariant.1 run step r s)
      (partly_all (λ x. step u x) c.run_of-run.result.first c.run_of-run.result.count c.loop-k.k c.loop-v.array c.loop-k.array (c.loop-k.invariant.3 (λ x. step u x) (λ x y p. s u x y h p)) (omega arith) (omega arith)),
)

pub returns : goal.returns
returns g c = λ run step r s. left-all run step c.args.count g.row.N c.loop-v.v c.loop-v.array (omega arith) (c.loop-v.invariant.1 run step r s)
