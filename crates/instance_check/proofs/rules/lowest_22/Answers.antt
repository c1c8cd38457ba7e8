use Rattle.csdl.specs.Conforms.{node22}
use Rattle.instance_image.specs.Read.{instance_read}
use Rattle.model_image.specs.Read.{model_read}
use Rattle.instance_check.specs.Stages.{lowest_instance_place}
use Rattle.instance_check.proofs.Placed.{node_placed}
use Rattle.instance_check.proofs.rules.lowest_22.Goals as goal

pub returns : goal.returns
unfolding lowest_instance_place
returns c = let i = instance_read c.args.instance.now in node_placed i (λ v. node22 (model_read c.args.model.now) i v) c.first_22.ensures.value
