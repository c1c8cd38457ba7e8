-- Rules 20 to 26 after those of the model. Assumes nothing.
use mathlib.Core.Path.{◌≡◌, sym, ◌∙◌}
use mathlib.Core.List.{List, [], ◌∷◌}
use mathlib.Core.Bool.{false}
use Prim.Native.Nat.{ℕ}
use Rattle.csdl.specs.Conforms.{instance_stages, instance_then}
use Rattle.csdl.specs.Image.{model_in}
use Rattle.csdl.specs.Instance.{instance_in, image20, instance_places}
use Rattle.csdl.specs.Model.{Model}
use Rattle.csdl.specs.Verdict.{Answer, verdict, model_then}
use Rattle.csdl.specs.Verdict.Stage.{whole}

module _ (m : Model) (image : List ℕ) where
  abbrev pub rules_21_to_26 : Answer → Answer
  rules_21_to_26 o = verdict (instance_places (instance_in image)) (instance_stages m (instance_in image)) o

  abbrev pub rules_20_to_26 : Answer → Answer
  rules_20_to_26 o = verdict 0 (whole 20 (image20 image) ∷ []) (rules_21_to_26 o)

  pub kept_20 : image20 image ≡ false → (o : Answer) → rules_20_to_26 o ≡ rules_21_to_26 o
  unfolding verdict
  kept_20 e o = rw e

-- The model's rules refuse, or those of the instance do, or what follows decides.
module _ (model image : List ℕ) where
  pub model_stops : {x : Answer} → ((o : Answer) → x ≡ model_then model o) → (o : Answer) → x ≡ instance_then model image o
  unfolding instance_then
  model_stops a o = a _

  module _ (a : (o : Answer) → o ≡ model_then model o) where
    pub instance_stops : {x : Answer} → ((o : Answer) → x ≡ rules_20_to_26 (model_in model) image o) → (o : Answer) → x ≡ instance_then model image o
    unfolding instance_then
    instance_stops b o = b o ∙ a _

    pub goes_on : ((o : Answer) → o ≡ rules_20_to_26 (model_in model) image o) → (o : Answer) → o ≡ instance_then model image o
    unfolding instance_then
    goes_on b o = b o ∙ a _
