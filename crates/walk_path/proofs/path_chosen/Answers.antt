use borrow.Author.Tests.{ne_eqb}
use Rattle.csdl.specs.Walk.{path_chosen}
use Rattle.model_image.specs.Read.{model_read}
use Rattle.walk_path.proofs.Choices.{other}
use Rattle.walk_path.proofs.path_chosen.Goals as goal

pub returns-in-OfProperty-eq0 : goal.returns-in-OfProperty-eq0
unfolding path_chosen
returns-in-OfProperty-eq0 c = rw (c.in-OfProperty-eq0.is-0, c.in-OfProperty-eq0.is-1) c.if_present.ensures

pub returns-in-OfKey-eq0 : goal.returns-in-OfKey-eq0
unfolding path_chosen
returns-in-OfKey-eq0 c = rw (c.in-OfKey-eq0.is-0, c.in-OfKey-eq0.is-1) c.if_present-in-OfKey-eq0.ensures

pub returns-in-OfConstraint-eq0 : goal.returns-in-OfConstraint-eq0
unfolding path_chosen
returns-in-OfConstraint-eq0 c = rw (c.in-OfConstraint-eq0.is-0, c.in-OfConstraint-eq0.is-1) c.if_present-in-OfConstraint-eq0.ensures

pub returns-in-OfConstraint-eq1 : goal.returns-in-OfConstraint-eq1
unfolding path_chosen
returns-in-OfConstraint-eq1 c = rw (c.in-OfConstraint-eq1.is-0, c.in-OfConstraint-eq1.is-1) c.if_present-in-OfConstraint-eq1.ensures

pub returns-in-OfBinding-eq0 : goal.returns-in-OfBinding-eq0
unfolding path_chosen
returns-in-OfBinding-eq0 c = rw (c.in-OfBinding-eq0.is-0, c.in-OfBinding-eq0.is-1) c.if_present-in-OfBinding-eq0.ensures

pub returns-in-OfBinding-eq1 : goal.returns-in-OfBinding-eq1
unfolding path_chosen
returns-in-OfBinding-eq1 c = rw (c.in-OfBinding-eq1.is-0, c.in-OfBinding-eq1.is-1) c.if_present-in-OfBinding-eq1.ensures

pub returns-in_default : goal.returns-in_default
unfolding path_chosen
returns-in_default c = rw (c.in_default.is-0, ne_eqb _ _ c.in_default.is-1.1)

pub returns-in_default-2 : goal.returns-in_default-2
unfolding path_chosen
returns-in_default-2 c = rw (c.in_default.is-0, ne_eqb _ _ c.in_default.is-1.1)

pub returns-in_default-3 : goal.returns-in_default-3
unfolding path_chosen
returns-in_default-3 c = rw (c.in_default.is-0, ne_eqb _ _ c.in_default.is-1.0.1, ne_eqb _ _ c.in_default.is-1.1)

pub returns-in_default-4 : goal.returns-in_default-4
unfolding path_chosen
returns-in_default-4 c = rw (c.in_default.is-0, ne_eqb _ _ c.in_default.is-1.0.1, ne_eqb _ _ c.in_default.is-1.1)

pub returns-in_default-5 : goal.returns-in_default-5
returns-in_default-5 c =
    other (model_read c.args.model.now) c.args.path c.args.rec c.in_default.not-OfProperty-0 c.in_default.not-OfKey-0 c.in_default.not-OfConstraint-0
    c.in_default.not-OfBinding-0
