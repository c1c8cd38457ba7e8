-- Rules 3 to 19 in four steps: what the result of each says of the whole. Assumes nothing.
use mathlib.Core.Path.{◌≡◌, refl, sym, ◌∙◌}
use mathlib.Core.List.{[]}
use Rattle.csdl.specs.Accepted.{Kept, AllPassed}
use Rattle.csdl.specs.Form.{rule4}
use Rattle.csdl.specs.Model.{Model, places}
use Rattle.csdl.specs.Paths.{rule14}
use Rattle.csdl.specs.Verdict.{Answer, form_stages, verdict, model_stages, model_verdict}
use Rattle.csdl.specs.Verdict.Answer.{accepted}
use Rattle.csdl.proofs.Verdicts.{ascends, verdict-accepts}
use Rattle.model_rules.specs.Stages.{stages_6_to_10, stages_11_to_14, stages_15_to_19}

module _ (m : Model) where
  abbrev pub rules_3_to_5 : Answer → Answer
  rules_3_to_5 o = verdict (places m) (form_stages m) o

  abbrev pub rules_6_to_10 : Answer → Answer
  rules_6_to_10 o = verdict (places m) (stages_6_to_10 m) o

  abbrev pub rules_11_to_14 : Answer → Answer
  rules_11_to_14 o = verdict (places m) (stages_11_to_14 m) o

  abbrev pub rules_15_to_19 : Answer → Answer
  rules_15_to_19 o = verdict (places m) (stages_15_to_19 m) o

  in_steps : (o : Answer) → model_verdict m o ≡ rules_3_to_5 (rules_6_to_10 (rules_11_to_14 (rules_15_to_19 o)))
  unfolding model_verdict model_stages verdict
  in_steps o = refl

  -- The first of the steps that refuses decides.
  pub stops_first : {x : Answer} → ((o : Answer) → x ≡ rules_3_to_5 o) → (o : Answer) → x ≡ model_verdict m o
  stops_first a o = a _ ∙ sym (in_steps o)

  module _ (a : (o : Answer) → o ≡ rules_3_to_5 o) where
    pub kept_4 : Kept m rule4
    unfolding ascends AllPassed
    kept_4 = ((verdict-accepts (places m) 3 (form_stages m) refl (accepted []) []).0 (sym (a (accepted [])))).0.1.0

    pub stops_second : {x : Answer} → ((o : Answer) → x ≡ rules_6_to_10 o) → (o : Answer) → x ≡ model_verdict m o
    stops_second b o = b _ ∙ a _ ∙ sym (in_steps o)

    module _ (b : (o : Answer) → o ≡ rules_6_to_10 o) where
      pub stops_third : {x : Answer} → ((o : Answer) → x ≡ rules_11_to_14 o) → (o : Answer) → x ≡ model_verdict m o
      stops_third c o = c _ ∙ b _ ∙ a _ ∙ sym (in_steps o)

      module _ (c : (o : Answer) → o ≡ rules_11_to_14 o) where
        pub stops_fourth : {x : Answer} → ((o : Answer) → x ≡ rules_15_to_19 o) → (o : Answer) → x ≡ model_verdict m o
        stops_fourth d o = d _ ∙ c _ ∙ b _ ∙ a _ ∙ sym (in_steps o)

        pub goes_on : ((o : Answer) → o ≡ rules_15_to_19 o) → (o : Answer) → o ≡ model_verdict m o
        goes_on d o = d _ ∙ c _ ∙ b _ ∙ a _ ∙ sym (in_steps o)

  pub kept_14 : ((o : Answer) → o ≡ rules_11_to_14 o) → Kept m rule14
  unfolding ascends AllPassed
  kept_14 c = ((verdict-accepts (places m) 11 (stages_11_to_14 m) refl (accepted []) []).0 (sym (c (accepted [])))).0.1.1.1.0
