use Rattle.std.proofs.Common.{refl, rules, tests}
use Rattle.csdl.specs.Form.{child7b}
use Rattle.csdl.proofs.Chains.{any_by_any}
use Rattle.model_image.specs.Read.{model_read}
use Rattle.rules_names.specs.Repeats.{same_child}
use Rattle.rules_names.proofs.repeats.child_7.Goals as goal

pub returns : goal.returns
unfolding child7b
returns c = any_by_any _ (λ j. same_child (model_read c.args.model.now) c.args.h j) _ refl c.any.ensures.ran (λ x b q k. search (rules, tests))
