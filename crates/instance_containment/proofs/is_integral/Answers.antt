use Rattle.std.proofs.Common.{◌∙◌, arith}
use borrow.Author.Tests.{lt-ltb}
use Rattle.model_image.specs.Read.{model_read}
use Rattle.instance_containment.proofs.is_integral.Goals as goal

pub in_wide-requires : goal.in_wide-requires
in_wide-requires c = (omega (arith, c.if-p-property_count.true, c.property_count.ensures), omega (arith, c.requires.size))

pub returns-then-p-property_count : goal.returns-then-p-property_count
returns-then-p-property_count c =
    c.in_wide.ensures
    ∙ c.requires.is c.args.p (omega (arith, c.if-p-property_count.true, c.property_count.ensures))
    ∙ rw (lt-ltb c.args.p (model_read c.args.model.now).properties (omega (arith, c.if-p-property_count.true, c.property_count.ensures)))
