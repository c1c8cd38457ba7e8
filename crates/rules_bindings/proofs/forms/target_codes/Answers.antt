use Rattle.std.proofs.Common.{rules, tests, not}
use Rattle.csdl.specs.Find.{contain_step}
use Rattle.csdl.specs.Paths.{target_step}
use Rattle.model_image.specs.Read.{model_read}
use Rattle.rules_bindings.specs.Bindings.{target_codes}
use Rattle.rules_bindings.proofs.forms.target_codes.Goals as goal

pub returns : goal.returns
unfolding target_codes
returns c =
    let m = model_read c.args.model.now in
    rw (c.step_or_end.ensures (λ p. not (target_step m p)) (λ p. not (contain_step m p)) (λ p b l q. search (rules, tests)) (λ p b l q. search (rules, tests)), c.has_cast.ensures)
