-- Verdicts: the first broken stage of a list and the lowest place that breaks it, or acceptance.
use Rattle.std.specs.Prelude.{ℕ, ◌+◌, ◌*◌, List, [], ◌∷◌, ◌++◌, Bool, cond, drop, Result, Ok, Err}
use Rattle.packed.specs.Bytes.{high_byte, low_byte}
use Rattle.csdl.specs.Search.{first_from, tab, flat, if_found}
use Rattle.csdl.specs.Model.{Model, places, record_at}
use Rattle.csdl.specs.Path.{Step, no_reference, step_of_segment}
use Rattle.csdl.specs.Path.Step.{property, type, nothing}
use Rattle.csdl.specs.Image.{model_in, image1, buffer2}
use Rattle.csdl.specs.Form.{rule3, rule4, rule5, rule6, rule7}
use Rattle.csdl.specs.Types.{rule8, rule9}
use Rattle.csdl.specs.Properties.{rule10, rule11, rule12}
use Rattle.csdl.specs.Paths.{rule13, rule14, rule15, rule16, rule17, rule18, rule19}
use Rattle.csdl.specs.declared.Record.{Record}
use Rattle.csdl.specs.declared.Refusal.{Refusal}
use Rattle.csdl.specs.declared.Walked.{Walked}

-- What a call answers: accepted, with the numbers that it reports, or refused, with the rule's number and the place.
pub data Answer : Type 0 where
  accepted : List ℕ → Answer
  refused : ℕ → ℕ → Answer

-- The paper's number and values for each case of the answers that the code returns.
unfoldable pub model_means : Result ℕ Refusal → Answer
model_means (Ok segments) = accepted (segments ∷ [])
model_means (Err r) = refused r.rule r.place

unfoldable pub instance_means : Result (Unit {0}) Refusal → Answer
instance_means (Ok _) = accepted []
instance_means (Err r) = refused r.rule r.place

unfoldable pub walk_means : Result Walked Refusal → Answer
walk_means (Ok w) = accepted (w.results ∷ w.opened ∷ [])
walk_means (Err r) = refused r.rule r.place

-- A stage of a check: a rule of the whole call, at place 0, or a rule asked of every place.
pub data Stage : Type 0 where
  whole : ℕ → Bool → Stage
  each : ℕ → (ℕ → Bool) → Stage

-- The refusal at a place that was found (0 for none, else the place plus 1), else the answer of what follows.
abbrev pub refuse : ℕ → ℕ → Answer → Answer
refuse rule found later = if_found later (λ place. refused rule place) found

-- The first broken stage of the list and the lowest of the n places that breaks it; the given answer where none is broken.
unfoldable pub verdict : ℕ → List Stage → Answer → Answer
verdict n [] otherwise = otherwise
verdict n (whole rule broken ∷ stages) otherwise = let later = verdict n stages otherwise in cond broken (refused rule 0) later
verdict n (each rule test ∷ stages) otherwise = let later = verdict n stages otherwise in refuse rule (first_from test 0 n) later

-- A rule of records, as a test of places.
abbrev pub broken_at : Model → (Model → Record → Bool) → ℕ → Bool
broken_at m rule place = rule m (record_at m place)

-- Rules 3 to 5, which the name of a record asks too, and 6 to 19.
abbrev pub form_stages : Model → List Stage
form_stages m = each 3 (broken_at m rule3) ∷ each 4 (broken_at m rule4) ∷ each 5 (broken_at m rule5) ∷ []

abbrev pub rule_stages : Model → List Stage
rule_stages m =
    each 6 (broken_at m rule6) ∷ each 7 (broken_at m rule7) ∷ each 8 (broken_at m rule8) ∷ each 9 (broken_at m rule9) ∷ each 10 (broken_at m rule10)
    ∷ each 11 (broken_at m rule11) ∷ each 12 (broken_at m rule12) ∷ each 13 (broken_at m rule13) ∷ each 14 (broken_at m rule14) ∷ each 15 (broken_at m rule15)
    ∷ each 16 (broken_at m rule16) ∷ each 17 (broken_at m rule17) ∷ each 18 (broken_at m rule18) ∷ each 19 (broken_at m rule19) ∷ []

-- Rules 3 to 19 of a model.
unfoldable pub model_stages : Model → List Stage
model_stages m = form_stages m ++ rule_stages m

unfoldable pub model_verdict : Model → Answer → Answer
model_verdict m otherwise = verdict (places m) (model_stages m) otherwise

-- The check of a model: rules 1 to 19.
unfoldable pub model_answer : List ℕ → List ℕ → Answer
model_answer image buffer =
    let m = model_in image in
    verdict 0 (whole 1 (image1 image) ∷ whole 2 (buffer2 image buffer) ∷ []) (model_verdict m (accepted (m.segments ∷ [])))

-- The same without rule 2, as the later calls have it: rules 1 and 3 to 19, then what follows.
unfoldable pub model_then : List ℕ → Answer → Answer
model_then image otherwise = verdict 0 (whole 1 (image1 image) ∷ []) (model_verdict (model_in image) otherwise)

-- Two bytes a segment, high byte first: the property number, or 32768 + type number for a cast. Nothing, which rule 14 leaves nowhere,
-- has the code of a cast to no reference.
abbrev pub step_code : Step → ℕ
step_code (property p) = p
step_code (type c) = 32768 + c
step_code nothing = 32768 + no_reference

abbrev pub bytes_of : ℕ → List ℕ
bytes_of n = high_byte n ∷ low_byte n ∷ []

unfoldable pub resolution : Model → List ℕ
resolution m = flat (λ g. bytes_of (step_code (step_of_segment m g))) (tab (λ g. g) 0 m.segments)

-- What a call leaves in a buffer: what it writes and the bytes after that as they were, or all as it was if it refuses.
abbrev pub leaves : Answer → List ℕ → ℕ → List ℕ → List ℕ
leaves (accepted values) written n buffer = written ++ drop n buffer
leaves (refused rule place) written n buffer = buffer

unfoldable pub model_buffer : List ℕ → List ℕ → List ℕ
model_buffer image buffer = leaves (model_answer image buffer) (resolution (model_in image)) (2 * (model_in image).segments) buffer
