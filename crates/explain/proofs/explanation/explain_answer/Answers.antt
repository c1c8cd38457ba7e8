use Rattle.std.proofs.Common.{sym, ◌∙◌}
use Rattle.model_image.proofs.Parts.{layout}
use Rattle.explain.proofs.explanation.explain_answer.Goals as goal

pub read-model-requires : goal.read-model-requires
read-model-requires g c = layout _ (sym c.bad_image.ensures ∙ c.if-bad_image.false)
