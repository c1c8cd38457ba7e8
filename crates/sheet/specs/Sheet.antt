-- What `mark` prints of an image, as ASCII bytes.
use Rattle.std.specs.Prelude.{ℕ, zero, suc, ◌+◌, List, [], ◌∷◌, ◌++◌}
use Rattle.csdl.specs.Model.{Model, segments_at}
use Rattle.csdl.specs.Image.{model_in}
use Rattle.csdl.specs.Path.{step_of_segment}
use Rattle.csdl.specs.Verdict.{Answer, model_then, step_code}
use Rattle.csdl.specs.Verdict.Answer.{accepted, refused}
use Rattle.sheet_lines.specs.Lines.{accepted_line, refused_line, segment_line}

-- The mark of an image: the answer by rules 1 and 3 to 19. Rule 2 speaks of the caller's buffer, and there is none.
unfoldable pub mark_of : List ℕ → Answer
mark_of image = model_then image (accepted ((model_in image).segments ∷ []))

-- The first of the numbers that an acceptance reports.
abbrev pub reported : List ℕ → ℕ
reported [] = 0
reported (n ∷ l) = n

unfoldable pub first_line : Answer → List ℕ
first_line (accepted values) = accepted_line (reported values)
first_line (refused rule place) = refused_line rule place

-- The lines of the first n segments, each with its place and what it resolves to.
unfoldable pub segment_lines : Model → ℕ → List ℕ
segment_lines m zero = []
segment_lines m (suc g) = segment_lines m g ++ segment_line (segments_at m + g) (step_code (step_of_segment m g))

abbrev pub lines_after : Model → Answer → List ℕ
lines_after m (accepted values) = segment_lines m m.segments
lines_after m (refused rule place) = []

-- The first line of the sheet of an image; the whole sheet.
abbrev pub first_text : List ℕ → List ℕ
first_text image = first_line (mark_of image)

unfoldable pub mark_text : List ℕ → List ℕ
mark_text image = first_text image ++ lines_after (model_in image) (mark_of image)
