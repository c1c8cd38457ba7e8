use Rattle.std.proofs.Common.{arith, ◌∙◌}
use Rattle.csdl.proofs.Bounds.{segments-most}
use Rattle.model_image.proofs.Parts.{layout}
use Rattle.sheet.proofs.Sheets.{keeps_1, segments_are, accepted-text, refused-text}
use Rattle.sheet.proofs.mark_sheet.Goals as goal

pub read-requires : goal.read-requires
read-requires c = layout _ (keeps_1 _ _ c.check-answer.ensures.result_value _ c.in-Ok.is)

pub segment_lines-requires : goal.segment_lines-requires
segment_lines-requires c =
    let means = c.check-answer.ensures.result_value in
    let told = c.in-Ok.is in
    let s = segments_are _ _ means _ told in
    let most = (segments-most c.args.image.now (keeps_1 _ _ means _ told)).1 in
    let short = rw told at c.answer_line.ensures.bound in
    let none = rw c.clear.ensures at short in
    (omega arith, (omega (arith, s, most, c.segments_at-first.ensures.1), omega (arith, s, most, none)))

pub returns-in-Ok : goal.returns-in-Ok
returns-in-Ok c =
    let means = c.check-answer.ensures.result_value in
    c.segment_lines.ensures ∙ rw (c.answer_line.ensures.after, c.clear.ensures)
    (accepted-text _ _ means _ c.in-Ok.is _ _ (omega arith) c.check-answer.ensures.resolution_after _ (rw c.read.ensures.value at c.segments_at-first.ensures.0))

pub returns-in_default : goal.returns-in_default
returns-in_default c = rw (c.answer_line.ensures.after, c.clear.ensures) (refused-text _ _ c.check-answer.ensures.result_value _ c.in_default.is)
