use Rattle.csdl.specs.Conforms.{item25}
use Rattle.instance_image.specs.Read.{instance_read}
use Rattle.model_image.specs.Read.{model_read}
use Rattle.instance_check.specs.Stages.{lowest_instance_place}
use Rattle.instance_check.proofs.Placed.{item_placed}
use Rattle.instance_check.proofs.rules.lowest_25.Goals as goal

pub returns : goal.returns
unfolding lowest_instance_place
returns c = let i = instance_read c.args.instance.now in
    item_placed i (λ k. item25 (model_read c.args.model.now) i k) c.items_at.ensures.0 c.first_25.ensures.value c.place_in.ensures
