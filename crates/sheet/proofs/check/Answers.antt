use Rattle.std.proofs.Common.{◌∙◌}
use Rattle.sheet.proofs.Sheets.{answer_is}
use Rattle.sheet.proofs.check.Goals as goal

pub returns-clause-result_value : goal.returns-clause-result_value
returns-clause-result_value c = c.check_model.ensures.result_value ∙ answer_is c.args.image.now c.args.resolution.now c.requires
