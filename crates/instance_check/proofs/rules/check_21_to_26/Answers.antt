use Rattle.instance_runs.proofs.Fills.{tabulates}
use Rattle.instance_check.proofs.rules.check_21_to_26.Goals as goal

pub lowest_25-requires : goal.lowest_25-requires
lowest_25-requires c = (c.requires.1, tabulates _ _ _ c.slots_of_items-item_slots.ensures)

pub lowest_26-requires : goal.lowest_26-requires
lowest_26-requires c = (c.requires.1, tabulates _ _ _ c.slots_of_items-item_slots.ensures)
