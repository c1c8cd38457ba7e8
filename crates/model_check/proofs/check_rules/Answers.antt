use Rattle.std.proofs.Common.{refl, sym, ◌∙◌}
use Rattle.csdl.specs.Verdict.{model_then, verdict}
use Rattle.model_image.proofs.Parts.{layout}
use Rattle.model_check.proofs.AnswerLaws.{then_bad, then_good}
use Rattle.model_check.proofs.check_rules.Goals as goal

pub returns-then-bad_image-clause-value : goal.returns-then-bad_image-clause-value
returns-then-bad_image-clause-value c = then_bad _ (sym c.bad_image.ensures ∙ c.if-bad_image.true)

pub check_3_to_19-requires : goal.check_3_to_19-requires
check_3_to_19-requires c = (layout _ (sym c.bad_image.ensures ∙ c.if-bad_image.false), refl)

pub returns-clause-value : goal.returns-clause-value
returns-clause-value c = λ o. rw (then_good c.args.image.now (sym c.bad_image.ensures ∙ c.if-bad_image.false) o) (c.check_3_to_19.ensures.value o)
