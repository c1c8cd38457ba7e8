use Rattle.model_image.specs.Read.{model_read}
use mathlib.Core.Path.{◌≡◌, sym, ◌∙◌}
use native.Mathlib.Omega.{arith}
use Rattle.csdl.specs.Path.{path_of}
use Rattle.rules_segments.proofs.Keeping.{nothing-kept}
use Rattle.rules_segments.proofs.Least.{empty_path}
use Rattle.rules_segments.proofs.Resolved.{path_lowest, run_room, run_step}
use borrow.Author.Rules.{rules}
use Rattle.rules_segments.proofs.unresolved.unresolved_in.Goals as goal

pub returns-then-count-eq0 : goal.returns-then-count-eq0
returns-then-count-eq0 c = let empty : (path_of (model_read c.args.lookup.now.hierarchy.model) c.args.holder.kind c.args.holder.number).count ≡ 0 = sym c.path_of-first.ensures.1 ∙ c.if-count-eq0.true in record {
  lowest = empty_path (model_read c.args.lookup.now.hierarchy.model) c.args.holder.kind c.args.holder.number c.args.bound empty;
  path_step = nothing-kept (model_read c.args.lookup.now.hierarchy.model) c.args.holder.kind c.args.holder.number c.args.codes.now empty;
}

pub keep_run-requires : goal.keep_run-requires
keep_run-requires c = let room = run_room (model_read c.args.lookup.now.hierarchy.model) c.args.holder.kind c.args.holder.number _ _ _ c.resolve_path-resolved.result.taken c.resolve_path-resolved.result.end c.resolve_path-resolved.result.codes c.start_of-start.ensures.0 c.path_of-first.ensures.0 c.path_of-first.ensures.1 c.resolve_path-resolved.ensures.resolved_to c.requires.0 c.requires.1 in
    (c.path_of-first.ensures.3, search rules, omega (arith, room, c.requires.2))

pub returns : goal.returns
returns c = record {
  lowest = rw c.unresolved_at.ensures (path_lowest (model_read c.args.lookup.now.hierarchy.model) c.args.holder.kind c.args.holder.number _ _ _ c.resolve_path-resolved.result.taken c.resolve_path-resolved.result.end c.resolve_path-resolved.result.codes c.start_of-start.ensures.0 c.path_of-first.ensures.0 c.path_of-first.ensures.1 c.resolve_path-resolved.ensures.resolved_to c.args.bound);
  path_step = run_step (model_read c.args.lookup.now.hierarchy.model) c.args.holder.kind c.args.holder.number _ _ _ c.resolve_path-resolved.result.taken c.resolve_path-resolved.result.end c.resolve_path-resolved.result.codes c.start_of-start.ensures.0 c.path_of-first.ensures.0 c.path_of-first.ensures.1 c.resolve_path-resolved.ensures.resolved_to c.args.codes.now _ c.keep_run.ensures;
}
