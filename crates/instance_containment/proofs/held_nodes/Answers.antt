use Rattle.std.proofs.Common.{arith, length-set, ◌∙◌}
use Rattle.instance_image.specs.Read.{instance_read}
use Rattle.model_image.specs.Read.{model_read}
use Rattle.instance_containment.specs.Graph.{held_by}
use Rattle.instance_containment.proofs.Bridge.{fill_more, entry_found}
use Rattle.instance_containment.proofs.held_nodes.Goals as goal

pub integral_item-inside-requires : goal.integral_item-inside-requires
integral_item-inside-requires c = (c.integrals_of-integrals.ensures, omega arith, c.requires)

pub loop-k-preserved : goal.loop-k-preserved
unfolding held_by
loop-k-preserved c = (
  rw length-set c.loop-k.invariant.0,
  fill_more (λ w. held_by (model_read c.args.model.now) (instance_read c.args.instance.now) w) c.loop-k.array c.loop-k.k _ (omega arith)
      (entry_found _ _ (rw c.held_by.ensures.value at c.entry.ensures) ∙ rw c.integral_item-inside.ensures) c.loop-k.invariant.1,
)

pub returns : goal.returns
returns c = λ w h. c.loop-k.invariant.1 w (omega (arith, h, c.loop-k-test.false, c.item_count-k-end.ensures.0))
