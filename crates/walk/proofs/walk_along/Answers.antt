use native.Mathlib.Omega.{arith}
use Rattle.instance_image.specs.Read.{instance_read}
use Rattle.model_image.specs.Read.{model_read}
use Rattle.walk.proofs.Frames.{written_is, openings-is}
use Rattle.walk.proofs.walk_along.Goals as goal

pub walk_from-requires : goal.walk_from-requires
walk_from-requires c =
    let m = model_read c.args.model in
    let i = instance_read c.args.instance.now in
    record {
      end_small = c.requires.end_small;
      here_in_bounds = rw (c.of-hierarchy.ensures, c.from.ensures, written_is m i c.args.run c.args.v _ c.node_type.ensures.0 c.node_type.ensures.1) (omega (arith, c.requires.v_in_bounds));
      here_len_bound = rw (c.of-hierarchy.ensures, c.from.ensures, openings-is m i c.args.run c.args.v _ c.node_type.ensures.0 c.node_type.ensures.1) c.requires.v_len_bound;
    }

pub returns : goal.returns
returns c =
    let m = model_read c.args.model in
    let i = instance_read c.args.instance.now in
    let z = rw (c.of-hierarchy.ensures, c.from.ensures, written_is m i c.args.run c.args.v _ c.node_type.ensures.0 c.node_type.ensures.1, openings-is m i c.args.run c.args.v _ c.node_type.ensures.0 c.node_type.ensures.1) at c.walk_from.ensures in
    record {
      results_after = z.out_after;
      end_value = omega (arith, z.end_value);
      opened_value = z.opened_value;
    }
