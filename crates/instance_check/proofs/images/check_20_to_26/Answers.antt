use Rattle.std.proofs.Common.{◌≡◌, ◌∙◌, sym, false, arith}
use Rattle.csdl.specs.Instance.{image20}
use Rattle.csdl.specs.Verdict.{Answer}
use Rattle.model_image.specs.Read.{model_read}
use Rattle.instance_image.proofs.Sizes.{sized}
use Rattle.instance_check.proofs.Both.{kept_20}
use Rattle.instance_check.proofs.images.check_20_to_26.Goals as goal

-- The test is not named below, so that an edit that turns it is refused for what does not follow from it.
pub read-instance-requires : goal.read-instance-requires
read-instance-requires c =
    let kept : image20 c.args.image.now ≡ false = cc in
    sized _ kept

pub check_21_to_26-requires : goal.check_21_to_26-requires
check_21_to_26-requires c = (c.requires, c.read-instance.ensures.few)

pub returns-in_err-check_21_to_26-clause-value : goal.returns-in_err-check_21_to_26-clause-value
returns-in_err-check_21_to_26-clause-value c =
    let kept : image20 c.args.image.now ≡ false = cc in
    let own = rw c.read-instance.ensures.value at c.in_err-check_21_to_26.ensures in
    let stops = λ (o : Answer). own o ∙ sym (kept_20 (model_read c.args.model.now) c.args.image.now kept o) in grind (arith, stops)

pub returns-clause-value : goal.returns-clause-value
returns-clause-value c =
    let kept : image20 c.args.image.now ≡ false = cc in
    let own = rw c.read-instance.ensures.value at c.in_ok-check_21_to_26.ensures in
    λ o. own o ∙ sym (kept_20 (model_read c.args.model.now) c.args.image.now kept o)
