use Rattle.csdl.specs.Path.{path_of, start_of}
use Rattle.rules_bindings.specs.Bindings.{binding_paths_fail}
use Rattle.rules_bindings.proofs.bindings.binding_paths_fail.Goals as goal

pub returns : goal.returns
unfolding binding_paths_fail path_of start_of
returns c = rw (
  c.binding_codes.ensures,
  c.target_under_set.ensures,
  c.target_codes.ensures,
  c.ends_apart.ensures,
  c.end_of-path_end.ensures,
  c.end_of-target_end.ensures,
  c.run_of-path_run.ensures,
  c.run_of-target_run.ensures,
  c.child_type.ensures.0,
  c.child_type-2.ensures.0,
  c.binding_child.ensures.0,
  c.binding_target.ensures.0,
  c.binding_path-path.ensures.0,
  c.binding_path-path.ensures.1,
  c.binding_target_path-target.ensures.0,
  c.binding_target_path-target.ensures.1,
)
