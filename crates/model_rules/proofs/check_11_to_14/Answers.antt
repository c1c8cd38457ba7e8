use Rattle.std.proofs.Common.{arith}
use Rattle.model_rules.proofs.Steps.{kept_by}
use Rattle.model_rules.proofs.check_11_to_14.Goals as goal

pub lowest_14-requires : goal.lowest_14-requires
lowest_14-requires c = (c.requires.0, kept_by 13 _ _ c.lowest_13.ensures c.refused_at-3.ensures c.in_ok-refused_at-3.was, omega arith)
