use Rattle.model_image.specs.Read.{model_read}
use mathlib.Core.Path.{◌≡◌}
use native.Mathlib.Omega.{arith}
use borrow.Author.Rules.{rules}
use Rattle.csdl.specs.Model.{in_run}
use Rattle.csdl.specs.Path.{path_of, kind_paths_with}
use Rattle.csdl.proofs.Settle.{count-le}
use Rattle.rules_segments.specs.Cover.{inside}
use Rattle.rules_segments.proofs.Covering.{tallied_start, tallied_more, tallied_small, added}
use Rattle.rules_segments.proofs.cover.cover_kind.Goals as goal

pub loop-r-init : goal.loop-r-init
loop-r-init c = (search rules, search rules, search rules, tallied_start (λ k g. in_run (path_of (model_read c.args.model.now) c.args.kind k) g) c.args.cover.now, search rules)

pub cover_run-requires : goal.cover_run-requires
cover_run-requires c = (search rules, tallied_small (λ k g. in_run (path_of (model_read c.args.model.now) c.args.kind k) g) c.args.cover.now c.loop-r.cover c.loop-r.r 50000 10000 c.loop-r.invariant.2 c.loop-r.invariant.3 (omega arith) c.requires)

pub loop-r-preserved : goal.loop-r-preserved
unfolding inside
loop-r-preserved c = (search rules, search rules, search rules, tallied_more (λ k g. in_run (path_of (model_read c.args.model.now) c.args.kind k) g) c.args.cover.now c.loop-r.cover c.cover_run.new.cover c.loop-r.r c.loop-r.invariant.2 c.loop-r.invariant.3 (λ g h. added (path_of (model_read c.args.model.now) c.args.kind c.loop-r.r) _ _ g _ _ c.path_of-first.ensures.0 c.path_of-first.ensures.1 (c.cover_run.ensures.1 g h)), search rules)

pub returns : goal.returns
unfolding kind_paths_with
returns c = let e : c.loop-r.r ≡ c.holder_count-r-end.result = omega arith in
    (search rules, λ g h. (rw (← c.loop-r.invariant.4, ← e) (c.loop-r.invariant.3 g h), rw (← c.loop-r.invariant.4) (omega (arith, count-le (λ k. in_run (path_of (model_read c.args.model.now) c.args.kind k) g) 0 c.holder_count-r-end.result, c.loop-r.invariant.1))))
