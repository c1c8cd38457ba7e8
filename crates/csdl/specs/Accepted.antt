-- What an acceptance and a refusal say, as statements on rules and places.
use Rattle.std.specs.Prelude.{ℕ, ◌≤◌, ◌<◌, ◌≡◌, List, [], ◌∷◌, Bool, true, false, ◌⊎◌}
use Rattle.csdl.specs.Model.{Model, in_run, places}
use Rattle.csdl.specs.Image.{model_in, image1, buffer2}
use Rattle.csdl.specs.Instance.{Instance, instance_in, image20, instance_places}
use Rattle.csdl.specs.Form.{rule3, rule4, rule5, rule6, rule7}
use Rattle.csdl.specs.Types.{rule8, rule9}
use Rattle.csdl.specs.Properties.{rule10, rule11, rule12}
use Rattle.csdl.specs.Paths.{rule13, rule14, rule15, rule16, rule17, rule18, rule19}
use Rattle.csdl.specs.Verdict.{Answer, Stage, broken_at, model_stages}
use Rattle.csdl.specs.Verdict.Answer.{refused}
use Rattle.csdl.specs.Verdict.Stage.{whole, each}
use Rattle.csdl.specs.Conforms.{is_null, rule21, rule22, rule23, rule24, rule25, rule26, instance_broken_at, instance_stages}
use Rattle.csdl.specs.Walk.{Item, chosen_start, walk27, walk28, walk29, walk_path}
use Rattle.csdl.specs.Walk.Item.{null, value}
use Rattle.csdl.specs.declared.Record.{Record}
use Rattle.csdl.specs.declared.InstanceRecord.{InstanceRecord}

-- None of the n places breaks the test.
abbrev pub Unbroken : ℕ → (ℕ → Bool) → Type 0
Unbroken n test = (place : ℕ) → place < n → test place ≡ false

-- A rule of records is unbroken at every place of the model; a rule of an instance's records at every place of the instance.
abbrev pub Kept : Model → (Model → Record → Bool) → Type 0
Kept m rule = Unbroken (places m) (broken_at m rule)

abbrev pub Fulfilled : Model → Instance → (Model → Instance → InstanceRecord → Bool) → Type 0
Fulfilled m i rule = Unbroken (instance_places i) (instance_broken_at m i rule)

-- Rules 3 to 19 are unbroken at every place of the model.
pub record ModelKept (m : Model) : Type 0 where
  pub kept3 : Kept m rule3
  pub kept4 : Kept m rule4
  pub kept5 : Kept m rule5
  pub kept6 : Kept m rule6
  pub kept7 : Kept m rule7
  pub kept8 : Kept m rule8
  pub kept9 : Kept m rule9
  pub kept10 : Kept m rule10
  pub kept11 : Kept m rule11
  pub kept12 : Kept m rule12
  pub kept13 : Kept m rule13
  pub kept14 : Kept m rule14
  pub kept15 : Kept m rule15
  pub kept16 : Kept m rule16
  pub kept17 : Kept m rule17
  pub kept18 : Kept m rule18
  pub kept19 : Kept m rule19

-- Rules 21 to 26 are unbroken at every place of the instance.
pub record InstanceKept (m : Model) (i : Instance) : Type 0 where
  pub kept21 : Fulfilled m i rule21
  pub kept22 : Fulfilled m i rule22
  pub kept23 : Fulfilled m i rule23
  pub kept24 : Fulfilled m i rule24
  pub kept25 : Fulfilled m i rule25
  pub kept26 : Fulfilled m i rule26

-- A model image breaks none of the rules 1 and 3 to 19; with it, an instance image none of the rules 20 to 26.
pub record ModelPasses (image : List ℕ) : Type 0 where
  pub kept1 : image1 image ≡ false
  pub model_kept : ModelKept (model_in image)

pub record InstancePasses (model image : List ℕ) : Type 0 where
  pub model_passes : ModelPasses model
  pub kept20 : image20 image ≡ false
  pub instance_kept : InstanceKept (model_in model) (instance_in image)

-- With them, a walk breaks none of the rules 27 to 29: the record at the place has such a path, the start node is there and at the path's start
-- type, and the result buffer has room.
pub record WalkPasses (model image : List ℕ) (place n v : ℕ) (buffer : List ℕ) : Type 0 where
  pub instance_passes : InstancePasses model image
  pub kept27 : walk27 (walk_path model place n) ≡ false
  pub kept28 : walk28 (model_in model) (instance_in image) (chosen_start (model_in model) (walk_path model place n)) v ≡ false
  pub kept29 : walk29 (instance_in image) buffer ≡ false

-- The item is null. Slot s is null, or one of its items is.
abbrev pub IsNull : Item → Type 0
IsNull (null o) = Unit {0}
IsNull (value r v) = ⊥

unfoldable pub NullIn : Instance → ℕ → Type 0
NullIn i s = (i.state s ≡ 0) ⊎ ((k : ℕ) × (in_run (i.slot_items s) k ≡ true) × (is_null i k ≡ true))

-- The number of a stage's rule.
abbrev pub number : Stage → ℕ
number (whole rule broken) = rule
number (each rule test) = rule

-- None of the n places breaks the stage; it is broken at the place, one of n, or 0 for a rule of the whole call.
abbrev pub Passed : ℕ → Stage → Type 0
Passed n (whole rule broken) = broken ≡ false
Passed n (each rule test) = Unbroken n test

abbrev pub BrokenAt : ℕ → Stage → ℕ → Type 0
BrokenAt n (whole rule broken) place = (place ≡ 0) × (broken ≡ true)
BrokenAt n (each rule test) place = (place < n) × (test place ≡ true)

-- All stages are passed.
unfoldable pub AllPassed : ℕ → List Stage → Type 0
AllPassed n [] = Unit {0}
AllPassed n (s ∷ stages) = Passed n s × AllPassed n stages

-- The rule, a stage's, is broken at the place.
unfoldable pub Broken : ℕ → List Stage → ℕ → ℕ → Type 0
Broken n [] rule place = ⊥
Broken n (s ∷ stages) rule place = ((rule ≡ number s) × BrokenAt n s place) ⊎ Broken n stages rule place

-- The rule is the lowest that is broken, and the place the lowest that breaks it.
pub record Lowest (n : ℕ) (stages : List Stage) (rule place : ℕ) : Type 0 where
  pub broken : Broken n stages rule place
  pub lowest_rule : (r q : ℕ) → Broken n stages r q → rule ≤ r
  pub place_is_lowest : (q : ℕ) → Broken n stages rule q → place ≤ q

-- The rules of the check of a model, at its places; without rule 2, as the later calls ask them; and those of an instance, at its places.
abbrev pub check_stages : List ℕ → List ℕ → List Stage
check_stages image buffer = whole 1 (image1 image) ∷ whole 2 (buffer2 image buffer) ∷ model_stages (model_in image)

abbrev pub later_stages : List ℕ → List Stage
later_stages image = whole 1 (image1 image) ∷ model_stages (model_in image)

abbrev pub conform_stages : List ℕ → List ℕ → List Stage
conform_stages model image = whole 20 (image20 image) ∷ instance_stages (model_in model) (instance_in image)

-- Those of a walk, after these.
abbrev pub walk_stages : List ℕ → List ℕ → ℕ → ℕ → ℕ → List ℕ → List Stage
walk_stages model image place n v buffer =
    whole 27 (walk27 (walk_path model place n)) ∷ whole 28 (walk28 (model_in model) (instance_in image) (chosen_start (model_in model) (walk_path model place n)) v)
    ∷ whole 29 (walk29 (instance_in image) buffer) ∷ []

-- A refusal of the instance's own rules, or of what follows them.
abbrev pub AfterModel : List ℕ → List ℕ → Answer → ℕ → ℕ → Type 0
AfterModel model image other rule place =
    Lowest (instance_places (instance_in image)) (conform_stages model image) rule place ⊎ (InstancePasses model image × (other ≡ refused rule place))
