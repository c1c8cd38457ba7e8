use Rattle.csdl.specs.Conforms.{slot24}
use Rattle.instance_image.specs.Read.{instance_read}
use Rattle.model_image.specs.Read.{model_read}
use Rattle.instance_check.specs.Stages.{lowest_instance_place}
use Rattle.instance_check.proofs.Placed.{slot_placed}
use Rattle.instance_check.proofs.rules.lowest_24.Goals as goal

pub returns : goal.returns
unfolding lowest_instance_place
returns c = let i = instance_read c.args.instance.now in
    slot_placed i (λ s. slot24 (model_read c.args.model.now) i s) c.slots_at.ensures.0 c.first_24.ensures.value c.place_in.ensures
