use Rattle.std.proofs.Common.{arith, refl, sym, ◌∙◌, ap}
use Rattle.csdl.specs.Model.{Model}
use Rattle.model_image.proofs.Parts.{layout}
use Rattle.model_check.proofs.AnswerLaws.{short, roomy, answer_bad, answer_short, answer_accepted, answer_refused, written}
use Rattle.model_check.proofs.check_model.Goals as goal

pub returns-then-bad_image : goal.returns-then-bad_image
returns-then-bad_image c = let all = answer_bad _ _ (sym c.bad_image.ensures ∙ c.if-bad_image.true) in record { result_value = all.0; resolution_after = all.1 }

pub read-requires : goal.read-requires
read-requires c = layout _ (sym c.bad_image.ensures ∙ c.if-bad_image.false)

pub returns-then-resolution-segments : goal.returns-then-resolution-segments
returns-then-resolution-segments c =
    let good = sym c.bad_image.ensures ∙ c.if-bad_image.false in
    let all = answer_short _ _ good (short _ _ good (c.segment_count-segments.ensures.0 ∙ ap (λ (m : Model). m.segments) c.read.ensures.value) c.if-resolution-segments.true) in
    record { result_value = all.0; resolution_after = all.1 }

pub check_3_to_19-requires : goal.check_3_to_19-requires
check_3_to_19-requires c = (layout _ (sym c.bad_image.ensures ∙ c.if-bad_image.false), refl)

pub returns-in_err-check_3_to_19 : goal.returns-in_err-check_3_to_19
returns-in_err-check_3_to_19 c =
    let good = sym c.bad_image.ensures ∙ c.if-bad_image.false in
    let room = roomy _ _ good (c.segment_count-segments.ensures.0 ∙ ap (λ (m : Model). m.segments) c.read.ensures.value) c.if-resolution-segments.false in
    let all = answer_refused _ _ good room _ c.in_err-check_3_to_19.ensures.value in
    record { result_value = grind (arith, all.0); resolution_after = all.1 }

pub returns : goal.returns
returns c =
    let good = sym c.bad_image.ensures ∙ c.if-bad_image.false in
    let count = c.segment_count-segments.ensures.0 ∙ ap (λ (m : Model). m.segments) c.read.ensures.value in
    let room = roomy _ _ good count c.if-resolution-segments.false in
    record {
      result_value = answer_accepted _ _ good room c.in_ok-check_3_to_19.ensures.value _ count;
      resolution_after = written _ _ good room c.in_ok-check_3_to_19.ensures.value _ count c.in_ok-check_3_to_19.ensures.coded c.write_resolution.ensures;
    }
