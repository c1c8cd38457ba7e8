-- What the verdicts say: an acceptance that no rule is broken at any place, a refusal the lowest broken rule and the lowest place that breaks it.
use Prim.Native.Nat.{ℕ, zero, suc, ◌+◌, ◌≤◌, ◌<◌, zero-le}
use mathlib.Core.Path.{◌≡◌, refl, sym, ap, ◌∙◌, subst}
use mathlib.Core.List.{List, [], ◌∷◌}
use mathlib.Core.Bool.{Bool, true, false, ◌&&◌}
use mathlib.Core.Logic.{◌↔◌, ◌⊎◌, inl, inr, ⊎_elim}
use native.Mathlib.Nat.{le_antisymm}
use native.Mathlib.Omega.{arith}
use lib.ListN.{length}
use lib.Dec.{ltb, leb}
use borrow.Author.Tests.{ltb-true, ltb-false, leb-true}
use Rattle.csdl.specs.Search.{first_from}
use Rattle.csdl.specs.Model.{Model, places}
use Rattle.csdl.specs.Instance.{Instance, instance_in, instance_places}
use Rattle.csdl.specs.Image.{model_in, buffer2}
use Rattle.csdl.specs.Verdict.{Answer, Stage, verdict, model_stages, model_verdict, model_answer, model_then}
use Rattle.csdl.specs.Verdict.Answer.{accepted, refused}
use Rattle.csdl.specs.Verdict.Stage.{whole, each}
use Rattle.csdl.specs.Conforms.{instance_stages, instance_then, instance_answer}
use Rattle.csdl.specs.Walk.{walk_results, walk_opened, walk_answer}
use Rattle.csdl.specs.Accepted.{Unbroken, ModelKept, InstanceKept, ModelPasses, InstancePasses, WalkPasses, number, Passed, BrokenAt, AllPassed, Broken, Lowest, check_stages, later_stages, conform_stages, walk_stages, AfterModel}
use Rattle.csdl.proofs.Logic.{true-false, and_cases, first_found, first-none, none_first, first-is}

-- An acceptance is no refusal; what an answer holds.
abbrev IsRefused : Answer → Type 0
IsRefused (accepted values) = ⊥
IsRefused (refused rule place) = Unit {0}

pub not-both : {values : List ℕ} {rule place : ℕ} → accepted values ≡ refused rule place → ⊥
not-both e = subst IsRefused (sym e) tt

abbrev values_of : Answer → List ℕ
values_of (accepted values) = values
values_of (refused rule place) = []

abbrev rule_of : Answer → ℕ
rule_of (accepted values) = 0
rule_of (refused rule place) = rule

abbrev place_of : Answer → ℕ
place_of (accepted values) = 0
place_of (refused rule place) = place

-- A stage that is passed hands on to what follows; a broken one refuses at its lowest place.
pub stage_on : (n : ℕ) (s : Stage) (stages : List Stage) (other : Answer) → Passed n s → verdict n (s ∷ stages) other ≡ verdict n stages other
unfolding verdict
stage_on n (whole rule broken) stages other h = rw h
stage_on n (each rule test) stages other h = rw (none_first test 0 n (λ k a b. h k (omega arith)))

pub stage_stops : (n : ℕ) (s : Stage) (stages : List Stage) (other : Answer) (place : ℕ) → BrokenAt n s place → ((q : ℕ) → BrokenAt n s q → place ≤ q)
    → verdict n (s ∷ stages) other ≡ refused (number s) place
unfolding verdict
stage_stops n (whole rule broken) stages other place h low = rw (h.1, h.0)
stage_stops n (each rule test) stages other place h low = rw (first-is test 0 n place zero-le (omega (arith, h.0)) h.1 before)
  where
    before : (j : ℕ) → 0 ≤ j → j < place → test j ≡ false
    before j a b = go (test j) refl
      where
        go : (c : Bool) → test j ≡ c → test j ≡ false
        go true q = absurd (omega (arith, h.0, low j (omega (arith, h.0), q)))
        go false q = q

-- A stage is passed, or broken at a lowest place.
pub stage_cases : (n : ℕ) (s : Stage) → Passed n s ⊎ ((place : ℕ) × BrokenAt n s place × ((q : ℕ) → BrokenAt n s q → place ≤ q))
stage_cases n (whole rule broken) = go broken refl
  where
    go : (c : Bool) → broken ≡ c → (broken ≡ false) ⊎ ((place : ℕ) × ((place ≡ 0) × (broken ≡ true)) × ((q : ℕ) → (q ≡ 0) × (broken ≡ true) → place ≤ q))
    go true e = inr (0, (refl, e), λ q b. zero-le)
    go false e = inl e
stage_cases n (each rule test) = go (first_from test 0 n) refl
  where
    go : (f : ℕ) → first_from test 0 n ≡ f
        → Unbroken n test ⊎ ((place : ℕ) × ((place < n) × (test place ≡ true)) × ((q : ℕ) → (q < n) × (test q ≡ true) → place ≤ q))
    go zero e = inl (λ k l. first-none test 0 n e k zero-le (omega arith))
    go (suc p) e = let w = first_found test 0 n p e in inr (p, (omega arith, w.2), λ q b. low w q b)
      where
        low : (0 ≤ p) × (p < 0 + n) × (test p ≡ true) × ((j : ℕ) → 0 ≤ j → j < p → test j ≡ false) → (q : ℕ) → (q < n) × (test q ≡ true) → p ≤ q
        low w q b = pass (ltb q p) refl
          where
            pass : (c : Bool) → ltb q p ≡ c → p ≤ q
            pass true h = true-false (test q) b.1 (w.3 q zero-le (ltb-true q p h))
            pass false h = ltb-false q p h

-- Stages in the order of their rules' numbers, from a on.
unfoldable pub ascends : ℕ → List Stage → Bool
ascends a [] = true
ascends a (s ∷ stages) = leb a (number s) && ascends (suc (number s)) stages

ascends_cases : (a : ℕ) (s : Stage) (stages : List Stage) → ascends a (s ∷ stages) ≡ true → (a ≤ number s) × (ascends (suc (number s)) stages ≡ true)
unfolding ascends
ascends_cases a s stages e = let c = and_cases (leb a (number s)) (ascends (suc (number s)) stages) e in (leb-true a (number s) c.0, c.1)

pub broken_from : (n a : ℕ) (stages : List Stage) (rule place : ℕ) → ascends a stages ≡ true → Broken n stages rule place → a ≤ rule
unfolding Broken
broken_from n a [] rule place up b = absurd b
broken_from n a (s ∷ stages) rule place up b =
    let c = ascends_cases a s stages up in
    ⊎_elim (λ h. omega (arith, h.0)) (λ h. omega (arith, broken_from n (suc (number s)) stages rule place c.1 h)) b

-- A stage that is passed is broken at no place.
passed_unbroken : (n : ℕ) (s : Stage) (place : ℕ) → Passed n s → BrokenAt n s place → ⊥
passed_unbroken n (whole rule broken) place h b = true-false broken b.1 h
passed_unbroken n (each rule test) place h b = true-false (test place) b.1 (h place b.0)

pub all_unbroken : (n : ℕ) (stages : List Stage) (rule place : ℕ) → AllPassed n stages → Broken n stages rule place → ⊥
unfolding AllPassed Broken
all_unbroken n [] rule place a b = b
all_unbroken n (s ∷ stages) rule place a b = ⊎_elim (λ h. passed_unbroken n s place a.0 h.1) (λ h. all_unbroken n stages rule place a.1 h) b

-- The stages all passed hand on to what follows.
pub all-on : (n : ℕ) (stages : List Stage) (other : Answer) → AllPassed n stages → verdict n stages other ≡ other
unfolding AllPassed verdict
all-on n [] other a = refl
all-on n (s ∷ stages) other a = stage_on n s stages other a.0 ∙ all-on n stages other a.1

-- What a list of stages answers: all are passed, or one is broken, the lowest, at the lowest place.
pub data Outcome (n : ℕ) (stages : List Stage) : Type 0 where
  passed : AllPassed n stages → Outcome n stages
  stopped : (rule place : ℕ) → Lowest n stages rule place → ((other : Answer) → verdict n stages other ≡ refused rule place) → Outcome n stages

pub outcome : (n a : ℕ) (stages : List Stage) → ascends a stages ≡ true → Outcome n stages
unfolding AllPassed Broken
outcome n a [] up = passed tt
outcome n a (s ∷ stages) up = let c = ascends_cases a s stages up in go (stage_cases n s) (outcome n (suc (number s)) stages c.1) c.1
  where
    go : Passed n s ⊎ ((place : ℕ) × BrokenAt n s place × ((q : ℕ) → BrokenAt n s q → place ≤ q)) → Outcome n stages
        → ascends (suc (number s)) stages ≡ true → Outcome n (s ∷ stages)
    go (inl h) (passed p) later = passed (h, p)
    go (inl h) (stopped rule place low answer) later =
        stopped rule place record {
          broken = inr low.broken;
          lowest_rule = λ r q b. ⊎_elim (λ x. absurd (passed_unbroken n s q h x.1)) (λ x. low.lowest_rule r q x) b;
          place_is_lowest = λ q b. ⊎_elim (λ x. absurd (passed_unbroken n s q h x.1)) (λ x. low.place_is_lowest q x) b;
        }
        (λ other. stage_on n s stages other h ∙ answer other)
    go (inr w) later-outcome later =
        stopped (number s) w.0 record {
          broken = inl (refl, w.1);
          lowest_rule = λ r q b. ⊎_elim (λ x. omega (arith, x.0)) (λ x. omega (arith, broken_from n (suc (number s)) stages r q later x)) b;
          place_is_lowest = λ q b. ⊎_elim (λ x. w.2 q x.1) (λ x. absurd (omega (arith, broken_from n (suc (number s)) stages (number s) q later x))) b;
        }
        (λ other. stage_stops n s stages other w.0 w.1 w.2)

-- There is one lowest.
pub lowest_one : (n : ℕ) (stages : List Stage) (r p rule place : ℕ) → Lowest n stages r p → Lowest n stages rule place → (r ≡ rule) × (p ≡ place)
lowest_one n stages r p rule place x y =
    let e : r ≡ rule = le_antisymm (x.lowest_rule rule place y.broken) (y.lowest_rule r p x.broken) in
    (e, le_antisymm (x.place_is_lowest place (rw e y.broken)) (y.place_is_lowest p (rw (← e) x.broken)))

module _ (n a : ℕ) (stages : List Stage) (up : ascends a stages ≡ true) (other : Answer) where
  -- An acceptance: every stage is passed, and what follows accepts.
  pub verdict-accepts : (values : List ℕ) → (verdict n stages other ≡ accepted values) ↔ (AllPassed n stages × (other ≡ accepted values))
  verdict-accepts values = (there (outcome n a stages up), λ h. all-on n stages other h.0 ∙ h.1)
    where
      there : Outcome n stages → verdict n stages other ≡ accepted values → AllPassed n stages × (other ≡ accepted values)
      there (passed p) e = (p, sym (all-on n stages other p) ∙ e)
      there (stopped rule place low answer) e = absurd (not-both (sym e ∙ answer other))

  -- A refusal: the lowest broken rule and the lowest place that breaks it, or all are passed and what follows refuses.
  pub verdict-refuses : (rule place : ℕ)
      → (verdict n stages other ≡ refused rule place) ↔ (Lowest n stages rule place ⊎ (AllPassed n stages × (other ≡ refused rule place)))
  verdict-refuses rule place = (there (outcome n a stages up), ⊎_elim (back (outcome n a stages up)) (λ h. all-on n stages other h.0 ∙ h.1))
    where
      there : Outcome n stages → verdict n stages other ≡ refused rule place → Lowest n stages rule place ⊎ (AllPassed n stages × (other ≡ refused rule place))
      there (passed p) e = inr (p, sym (all-on n stages other p) ∙ e)
      there (stopped r q low answer) e =
          let x : r ≡ rule = ap rule_of (sym (answer other) ∙ e) in
          let y : q ≡ place = ap place_of (sym (answer other) ∙ e) in
          inl (rw (← x, ← y) low)

      back : Outcome n stages → Lowest n stages rule place → verdict n stages other ≡ refused rule place
      back (passed p) low = absurd (all_unbroken n stages rule place p low.broken)
      back (stopped r q l answer) low = let z = lowest_one n stages r q rule place l low in answer other ∙ rw (z.0, z.1)

-- The stages of a model and of an instance, all passed, are the rules kept at every place.
model_of_lem : (m : Model) → AllPassed (places m) (model_stages m) → ModelKept m
unfolding AllPassed model_stages
model_of_lem m a = record {
  kept3 = a.0;
  kept4 = a.1.0;
  kept5 = a.1.1.0;
  kept6 = a.1.1.1.0;
  kept7 = a.1.1.1.1.0;
  kept8 = a.1.1.1.1.1.0;
  kept9 = a.1.1.1.1.1.1.0;
  kept10 = a.1.1.1.1.1.1.1.0;
  kept11 = a.1.1.1.1.1.1.1.1.0;
  kept12 = a.1.1.1.1.1.1.1.1.1.0;
  kept13 = a.1.1.1.1.1.1.1.1.1.1.0;
  kept14 = a.1.1.1.1.1.1.1.1.1.1.1.0;
  kept15 = a.1.1.1.1.1.1.1.1.1.1.1.1.0;
  kept16 = a.1.1.1.1.1.1.1.1.1.1.1.1.1.0;
  kept17 = a.1.1.1.1.1.1.1.1.1.1.1.1.1.1.0;
  kept18 = a.1.1.1.1.1.1.1.1.1.1.1.1.1.1.1.0;
  kept19 = a.1.1.1.1.1.1.1.1.1.1.1.1.1.1.1.1.0;
}

of_model : (m : Model) → ModelKept m → AllPassed (places m) (model_stages m)
unfolding AllPassed model_stages
of_model m k = (
  k.kept3,
  (
    k.kept4,
    (
      k.kept5,
      (
        k.kept6,
        (
          k.kept7,
          (
            k.kept8,
            (
              k.kept9,
              (
                k.kept10,
                (
                  k.kept11,
                  (
                    k.kept12,
                    (
                      k.kept13,
                      (
                        k.kept14,
                        (k.kept15, (k.kept16, (k.kept17, (k.kept18, (k.kept19, tt))))),
                      ),
                    ),
                  ),
                ),
              ),
            ),
          ),
        ),
      ),
    ),
  ),
)

instance_of_lem : (m : Model) (i : Instance) → AllPassed (instance_places i) (instance_stages m i) → InstanceKept m i
unfolding AllPassed instance_stages
instance_of_lem m i a = record {
  kept21 = a.0;
  kept22 = a.1.0;
  kept23 = a.1.1.0;
  kept24 = a.1.1.1.0;
  kept25 = a.1.1.1.1.0;
  kept26 = a.1.1.1.1.1.0;
}

of_instance : (m : Model) (i : Instance) → InstanceKept m i → AllPassed (instance_places i) (instance_stages m i)
unfolding AllPassed instance_stages
of_instance m i k = (k.kept21, (k.kept22, (k.kept23, (k.kept24, (k.kept25, (k.kept26, tt))))))

pub check_passes : (image buffer : List ℕ)
    → AllPassed (places (model_in image)) (check_stages image buffer) ↔ (ModelPasses image × (buffer2 image buffer ≡ false))
unfolding AllPassed
check_passes image buffer = (
  λ a. (record { kept1 = a.0; model_kept = model_of_lem (model_in image) a.1.1 }, a.1.0),
  λ k. (k.0.kept1, (k.1, of_model (model_in image) k.0.model_kept)),
)

pub later-passes : (image : List ℕ) → AllPassed (places (model_in image)) (later_stages image) ↔ ModelPasses image
unfolding AllPassed
later-passes image = (
  λ a. record { kept1 = a.0; model_kept = model_of_lem (model_in image) a.1 },
  λ k. (k.kept1, of_model (model_in image) k.model_kept),
)

pub conform_passes : (model image : List ℕ) → ModelPasses model → AllPassed (instance_places (instance_in image)) (conform_stages model image) ↔ InstancePasses model image
unfolding AllPassed
conform_passes model image p = (
  λ a. record { model_passes = p; kept20 = a.0; instance_kept = instance_of_lem (model_in model) (instance_in image) a.1 },
  λ k. (k.kept20, of_instance (model_in model) (instance_in image) k.instance_kept),
)

-- The calls, as verdicts of these stages, which are in order.
model_is : (image buffer : List ℕ)
    → model_answer image buffer ≡ verdict (places (model_in image)) (check_stages image buffer) (accepted ((model_in image).segments ∷ []))
unfolding model_answer model_verdict verdict
model_is image buffer = refl

then_is : (image : List ℕ) (other : Answer) → model_then image other ≡ verdict (places (model_in image)) (later_stages image) other
unfolding model_then model_verdict verdict
then_is image other = refl

instance_is : (model image : List ℕ) (other : Answer)
    → instance_then model image other ≡ model_then model (verdict (instance_places (instance_in image)) (conform_stages model image) other)
unfolding instance_then verdict
instance_is model image other = refl

check_ascends : (image buffer : List ℕ) → ascends 1 (check_stages image buffer) ≡ true
unfolding ascends model_stages
check_ascends image buffer = refl

later_ascends : (image : List ℕ) → ascends 1 (later_stages image) ≡ true
unfolding ascends model_stages
later_ascends image = refl

conform_ascends : (model image : List ℕ) → ascends 20 (conform_stages model image) ≡ true
unfolding ascends instance_stages
conform_ascends model image = refl

-- The check of a model accepts exactly what breaks none of the rules 1 to 19 at any place, and then answers the number of segments and nothing
-- else; else it names the lowest rule and its lowest place.
pub model_accepts : (image buffer values : List ℕ)
    → (model_answer image buffer ≡ accepted values) ↔ (ModelPasses image × (buffer2 image buffer ≡ false) × (values ≡ (model_in image).segments ∷ []))
model_accepts image buffer values =
    let v = verdict-accepts (places (model_in image)) 1 (check_stages image buffer) (check_ascends image buffer)
    (accepted ((model_in image).segments ∷ [])) values in (
      λ e. let w = v.0 (sym (model_is image buffer) ∙ e) in
          let p = (check_passes image buffer).0 w.0 in
          (p.0, p.1, ap values_of (sym w.1)),
      λ p. model_is image buffer ∙ v.1 ((check_passes image buffer).1 (p.0, p.1), ap accepted (sym p.2)),
    )

pub model_refuses : (image buffer : List ℕ) (rule place : ℕ)
    → (model_answer image buffer ≡ refused rule place) ↔ Lowest (places (model_in image)) (check_stages image buffer) rule place
model_refuses image buffer rule place =
    let v = verdict-refuses (places (model_in image)) 1 (check_stages image buffer) (check_ascends image buffer)
    (accepted ((model_in image).segments ∷ [])) rule place in (
      λ e. ⊎_elim (λ low. low) (λ h. absurd (not-both h.1)) (v.0 (sym (model_is image buffer) ∙ e)),
      λ low. model_is image buffer ∙ v.1 (inl low),
    )

-- The same rules but 2 before a later call.
pub model_then_accepts : (image : List ℕ) (other : Answer) (values : List ℕ)
    → (model_then image other ≡ accepted values) ↔ (ModelPasses image × (other ≡ accepted values))
model_then_accepts image other values =
    let v = verdict-accepts (places (model_in image)) 1 (later_stages image) (later_ascends image) other values in (
      λ e. let w = v.0 (sym (then_is image other) ∙ e) in ((later-passes image).0 w.0, w.1),
      λ h. then_is image other ∙ v.1 ((later-passes image).1 h.0, h.1),
    )

pub model_then_refuses : (image : List ℕ) (other : Answer) (rule place : ℕ)
    → (model_then image other ≡ refused rule place)
    ↔ (Lowest (places (model_in image)) (later_stages image) rule place ⊎ (ModelPasses image × (other ≡ refused rule place)))
model_then_refuses image other rule place =
    let v = verdict-refuses (places (model_in image)) 1 (later_stages image) (later_ascends image) other rule place in (
      λ e. ⊎_elim (λ low. inl low) (λ h. inr ((later-passes image).0 h.0, h.1)) (v.0 (sym (then_is image other) ∙ e)),
      λ h. then_is image other ∙ v.1 (⊎_elim (λ low. inl low) (λ k. inr ((later-passes image).1 k.0, k.1)) h),
    )

-- The check of an instance: the rules of the model first, then 20 to 26.
pub instance_then_accepts : (model image : List ℕ) (other : Answer) (values : List ℕ)
    → (instance_then model image other ≡ accepted values) ↔ (InstancePasses model image × (other ≡ accepted values))
instance_then_accepts model image other values =
    let after = verdict (instance_places (instance_in image)) (conform_stages model image) other in
    let v = verdict-accepts (instance_places (instance_in image)) 20 (conform_stages model image) (conform_ascends model image) other values in (
      λ e. let w = (model_then_accepts model after values).0 (sym (instance_is model image other) ∙ e) in
          let x = v.0 w.1 in
          ((conform_passes model image w.0).0 x.0, x.1),
      λ h. let p = h.0.model_passes in
          instance_is model image other ∙ (model_then_accepts model after values).1 (p, v.1 ((conform_passes model image p).1 h.0, h.1)),
    )

pub instance_then_refuses : (model image : List ℕ) (other : Answer) (rule place : ℕ)
    → (instance_then model image other ≡ refused rule place)
    ↔ (Lowest (places (model_in model)) (later_stages model) rule place ⊎ (ModelPasses model × AfterModel model image other rule place))
instance_then_refuses model image other rule place =
    let after = verdict (instance_places (instance_in image)) (conform_stages model image) other in
    let u = model_then_refuses model after rule place in
    let v = verdict-refuses (instance_places (instance_in image)) 20 (conform_stages model image) (conform_ascends model image) other rule place in (
      λ e. ⊎_elim (λ low. inl low)
          (λ h. inr (h.0, ⊎_elim (λ low. inl low) (λ k. inr ((conform_passes model image h.0).0 k.0, k.1)) (v.0 h.1)))
          (u.0 (sym (instance_is model image other) ∙ e)),
      λ h. instance_is model image other ∙ u.1 (⊎_elim (λ low. inl low)
          (λ k. inr (k.0, v.1 (⊎_elim (λ low. inl low) (λ j. inr ((conform_passes model image k.0).1 j.0, j.1)) k.1))) h),
    )

answer_is : (model image : List ℕ) → instance_answer model image ≡ instance_then model image (accepted [])
unfolding instance_answer
answer_is model image = refl

pub instance_accepts : (model image : List ℕ) → (instance_answer model image ≡ accepted []) ↔ InstancePasses model image
instance_accepts model image =
    let v = instance_then_accepts model image (accepted []) [] in
    (λ e. (v.0 (sym (answer_is model image) ∙ e)).0, λ p. answer_is model image ∙ v.1 (p, refl))

pub instance_refuses : (model image : List ℕ) (rule place : ℕ)
    → (instance_answer model image ≡ refused rule place)
    ↔ (Lowest (places (model_in model)) (later_stages model) rule place
    ⊎ (ModelPasses model × Lowest (instance_places (instance_in image)) (conform_stages model image) rule place))
instance_refuses model image rule place =
    let v = instance_then_refuses model image (accepted []) rule place in (
      λ e. ⊎_elim (λ low. inl low) (λ h. inr (h.0, ⊎_elim (λ low. low) (λ k. absurd (not-both k.1)) h.1)) (v.0 (sym (answer_is model image) ∙ e)),
      λ h. answer_is model image ∙ v.1 (⊎_elim (λ low. inl low) (λ k. inr (k.0, inl k.1)) h),
    )

-- No other value is answered.
pub instance_values : (model image values : List ℕ) → instance_answer model image ≡ accepted values → values ≡ []
instance_values model image values e =
    ap values_of (sym ((instance_then_accepts model image (accepted []) values).0 (sym (answer_is model image) ∙ e)).1)

-- The walk: the rules of the instance check first, then 27 to 29, at place 0. It accepts exactly where none is broken, and then answers the number
-- of results and the number of slots opened, and nothing else.
module _ (model image : List ℕ) (place n v : ℕ) (buffer : List ℕ) where
  abbrev counts : List ℕ
  counts = length (walk_results model image place n v) ∷ length (walk_opened model image place n v) ∷ []

  abbrev stages : List Stage
  stages = walk_stages model image place n v buffer

  walk_is : walk_answer model image place n v buffer ≡ instance_then model image (verdict 0 stages (accepted counts))
  unfolding walk_answer
  walk_is = refl

  walk_ascends : ascends 27 stages ≡ true
  unfolding ascends
  walk_ascends = refl

  pub walk_accepts : (values : List ℕ)
      → (walk_answer model image place n v buffer ≡ accepted values) ↔ (WalkPasses model image place n v buffer × (values ≡ counts))
  unfolding AllPassed
  walk_accepts values =
      let u = instance_then_accepts model image (verdict 0 stages (accepted counts)) values in
      let w = verdict-accepts 0 27 stages walk_ascends (accepted counts) values in (
        λ e. let a = u.0 (sym walk_is ∙ e) in
            let b = w.0 a.1 in
            (record { instance_passes = a.0; kept27 = b.0.0; kept28 = b.0.1.0; kept29 = b.0.1.1.0 }, ap values_of (sym b.1)),
        λ h. let p = h.0 in walk_is ∙ u.1 (p.instance_passes, w.1 ((p.kept27, (p.kept28, (p.kept29, tt))), ap accepted (sym h.1))),
      )

  pub walk_refuses : (rule at : ℕ)
      → (walk_answer model image place n v buffer ≡ refused rule at)
      ↔ (Lowest (places (model_in model)) (later_stages model) rule at
      ⊎ (ModelPasses model
      × (Lowest (instance_places (instance_in image)) (conform_stages model image) rule at ⊎ (InstancePasses model image × Lowest 0 stages rule at))))
  walk_refuses rule at =
      let u = instance_then_refuses model image (verdict 0 stages (accepted counts)) rule at in
      let w = verdict-refuses 0 27 stages walk_ascends (accepted counts) rule at in (
        λ e. ⊎_elim (λ low. inl low)
            (λ h. inr (h.0, ⊎_elim (λ low. inl low) (λ k. inr (k.0, ⊎_elim (λ low. low) (λ x. absurd (not-both x.1)) (w.0 k.1))) h.1))
            (u.0 (sym walk_is ∙ e)),
        λ h. walk_is ∙ u.1 (⊎_elim (λ low. inl low) (λ k. inr (k.0, ⊎_elim (λ low. inl low) (λ x. inr (x.0, w.1 (inl x.1))) k.1)) h),
      )
