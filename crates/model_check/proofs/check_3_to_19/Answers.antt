use Rattle.std.proofs.Common.{◌≡◌, ◌∙◌, ap, arith}
use Rattle.csdl.specs.Image.{model_in}
use Rattle.csdl.specs.Model.{Model}
use Rattle.model_image.specs.Read.{model_read}
use Rattle.lookup.specs.declared.model.Lookup.{Lookup}
use Rattle.model_check.proofs.Steps.{kept_4, kept_14, stops_first, stops_second, stops_third, stops_fourth, goes_on}
use Rattle.model_check.proofs.check_3_to_19.Goals as goal

pub returns-in_err-check_3_to_5-clause-value : goal.returns-in_err-check_3_to_5-clause-value
returns-in_err-check_3_to_5-clause-value c =
    let stops = rw c.read-model.ensures.value at (stops_first _ c.in_err-check_3_to_5.ensures) in grind (arith, stops)

pub returns-in_err-check_6_to_10-clause-value : goal.returns-in_err-check_6_to_10-clause-value
returns-in_err-check_6_to_10-clause-value c =
    let stops = rw c.read-model.ensures.value at (stops_second _ c.in_ok-check_3_to_5.ensures c.in_err-check_6_to_10.ensures) in grind (arith, stops)

pub check_11_to_14-requires : goal.check_11_to_14-requires
check_11_to_14-requires c = (rw (c.of-lookup.ensures.hierarchy_value, c.of.ensures) (kept_4 _ c.in_ok-check_3_to_5.ensures), c.requires.1)

pub returns-in_err-check_11_to_14-clause-value : goal.returns-in_err-check_11_to_14-clause-value
returns-in_err-check_11_to_14-clause-value c =
    let third = rw (c.of-lookup.ensures.hierarchy_value, c.of.ensures) at c.in_err-check_11_to_14.ensures.value in
    let stops = rw c.read-model.ensures.value at (stops_third _ c.in_ok-check_3_to_5.ensures c.in_ok-check_6_to_10.ensures third) in grind (arith, stops)

pub check_15_to_19-requires : goal.check_15_to_19-requires
check_15_to_19-requires c =
    (c.in_ok-check_11_to_14.ensures.coded, rw (c.of-lookup.ensures.hierarchy_value, c.of.ensures) (kept_4 _ c.in_ok-check_3_to_5.ensures), kept_14 _ c.in_ok-check_11_to_14.ensures.value)

pub returns-in_err-check_15_to_19-clause-value : goal.returns-in_err-check_15_to_19-clause-value
returns-in_err-check_15_to_19-clause-value c =
    let third = rw (c.of-lookup.ensures.hierarchy_value, c.of.ensures) at c.in_ok-check_11_to_14.ensures.value in
    let fourth = rw (c.of-lookup.ensures.hierarchy_value, c.of.ensures) at c.in_err-check_15_to_19.ensures in
    let stops = rw c.read-model.ensures.value at (stops_fourth _ c.in_ok-check_3_to_5.ensures c.in_ok-check_6_to_10.ensures third fourth) in grind (arith, stops)

pub returns-clause-value : goal.returns-clause-value
returns-clause-value c =
    let third = rw (c.of-lookup.ensures.hierarchy_value, c.of.ensures) at c.in_ok-check_11_to_14.ensures.value in
    let fourth = rw (c.of-lookup.ensures.hierarchy_value, c.of.ensures) at c.in_ok-check_15_to_19.ensures in
    rw c.read-model.ensures.value at (goes_on _ c.in_ok-check_3_to_5.ensures c.in_ok-check_6_to_10.ensures third fourth)

pub of-lookup-requires : goal.of-lookup-requires
of-lookup-requires c = rw c.of.ensures c.read-model.ensures.few.0
