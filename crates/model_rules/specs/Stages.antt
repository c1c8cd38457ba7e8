-- The rules 3 to 19 in four blocks, and what the result of a check by some of them says.
use Rattle.std.specs.Prelude.{ℕ, ◌≡◌, Bool, List, [], ◌∷◌, Option, Some, None, Result, Ok, Err, MatchResult}
use Rattle.csdl.specs.Search.{first_from}
use Rattle.csdl.specs.Model.{Model, places}
use Rattle.csdl.specs.Form.{rule6, rule7}
use Rattle.csdl.specs.Types.{rule8, rule9}
use Rattle.csdl.specs.Properties.{rule10, rule11, rule12}
use Rattle.csdl.specs.Paths.{rule13, rule14, rule15, rule16, rule17, rule18, rule19}
use Rattle.csdl.specs.Verdict.{Answer, Stage, broken_at}
use Rattle.csdl.specs.Verdict.Answer.{refused}
use Rattle.csdl.specs.Verdict.Stage.{each}
use Rattle.csdl.specs.declared.Record.{Record}
use Rattle.csdl.specs.declared.Refusal.{Refusal}

-- The lowest place that breaks the rule: 0 for none, else the place plus 1.
unfoldable pub lowest_place : Model → (Model → Record → Bool) → ℕ
lowest_place m rule = first_from (broken_at m rule) 0 (places m)

abbrev pub stages_6_to_10 : Model → List Stage
stages_6_to_10 m = each 6 (broken_at m rule6) ∷ each 7 (broken_at m rule7) ∷ each 8 (broken_at m rule8) ∷ each 9 (broken_at m rule9) ∷ each 10 (broken_at m rule10) ∷ []

abbrev pub stages_11_to_14 : Model → List Stage
stages_11_to_14 m = each 11 (broken_at m rule11) ∷ each 12 (broken_at m rule12) ∷ each 13 (broken_at m rule13) ∷ each 14 (broken_at m rule14) ∷ []

abbrev pub stages_15_to_19 : Model → List Stage
stages_15_to_19 m =
    each 15 (broken_at m rule15) ∷ each 16 (broken_at m rule16) ∷ each 17 (broken_at m rule17) ∷ each 18 (broken_at m rule18) ∷ each 19 (broken_at m rule19) ∷ []

-- The refusal by the rule at the place, if there is one.
abbrev pub refusal : ℕ → Option ℕ → Result (Unit {0}) Refusal
refusal rule None = Ok tt
refusal rule (Some p) = Err (record { rule = rule; place = p })

-- The result of a check that some answer may follow: an error is the answer, else what follows is.
abbrev pub ResultOf : {A : Type 0} → Result A Refusal → (Answer → Answer) → Type 0
ResultOf result check = (o : Answer) → MatchResult result (λ x. o ≡ check o) (λ r. refused r.rule r.place ≡ check o)
