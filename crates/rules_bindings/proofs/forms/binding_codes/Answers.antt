use mathlib.Core.Path.{sym, ◌∙◌, ap, ap₂}
use mathlib.Core.Bool.{not, ◌||◌}
use Rattle.std.proofs.Common.{rules, tests}
use Rattle.csdl.specs.Paths.{non_containment}
use Rattle.model_image.specs.Read.{model_read}
use Rattle.name_classes.proofs.Options.{found_none, found_some}
use Rattle.rules_bindings.specs.Bindings.{binding_codes}
use Rattle.rules_bindings.proofs.LastName.{form_none, form_name}
use Rattle.rules_bindings.proofs.forms.binding_codes.Goals as goal

pub returns-in_default : goal.returns-in_default
unfolding binding_codes
returns-in_default c = form_none _ _ _ _ (found_none _ (sym c.in_default.is ∙ c.last_name.ensures.value))

pub returns : goal.returns
unfolding binding_codes
returns c = let m = model_read c.args.model.now in
    ap₂ ◌||◌ (ap not (c.code_test.ensures (λ p. non_containment m p) (λ p b l q. search (rules, tests)))) (c.any_code.ensures (λ p. non_containment m p) (λ p b l q. search (rules, tests)))
    ∙ form_name (λ p. non_containment m p) (λ p. non_containment m p) c.args.codes.now c.args.n _ (found_some _ _ (sym c.in-Some.is ∙ c.last_name.ensures.value))
