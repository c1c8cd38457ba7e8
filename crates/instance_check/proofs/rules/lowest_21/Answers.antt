use mathlib.Core.Path.{refl, sym, ◌∙◌}
use Rattle.csdl.specs.Conforms.{rule21}
use Rattle.instance_image.specs.Read.{instance_read}
use Rattle.model_image.specs.Read.{model_read}
use Rattle.instance_check.specs.Stages.{lowest_instance_place}
use Rattle.instance_check.proofs.Placed.{all_placed, first_kept, second_kept, third_kept}
use Rattle.instance_check.proofs.rules.lowest_21.Goals as goal

pub returns-then-is_some : goal.returns-then-is_some
unfolding lowest_instance_place rule21
returns-then-is_some c =
    all_placed (instance_read c.args.instance.now) (rule21 (model_read c.args.model.now) (instance_read c.args.instance.now)) c.first_node_21-of_node.ensures.value
    refl refl refl refl refl refl refl (first_kept _ (sym c.is_some.ensures ∙ c.if-is_some.true) _ _)

pub returns-then-is_some-2 : goal.returns-then-is_some-2
unfolding lowest_instance_place rule21
returns-then-is_some-2 c =
    all_placed (instance_read c.args.instance.now) (rule21 (model_read c.args.model.now) (instance_read c.args.instance.now)) c.first_node_21-of_node.ensures.value
    c.slots_at.ensures.0 c.first_slot_21.ensures.value c.place_in-of_slot.ensures refl refl refl refl (second_kept _ _ (sym c.is_some.ensures ∙ c.if-is_some.false) (sym c.is_some-2.ensures ∙ c.if-is_some-2.true) _)

pub returns : goal.returns
unfolding lowest_instance_place rule21
returns c =
    all_placed (instance_read c.args.instance.now) (rule21 (model_read c.args.model.now) (instance_read c.args.instance.now)) c.first_node_21-of_node.ensures.value
    c.slots_at.ensures.0 c.first_slot_21.ensures.value c.place_in-of_slot.ensures c.items_at.ensures.0 c.first_item_21.ensures.value c.place_in.ensures refl
    (third_kept _ _ (sym c.is_some.ensures ∙ c.if-is_some.false) (sym c.is_some-2.ensures ∙ c.if-is_some-2.false) _)
