-- The answer of a walk and what it leaves in the buffer, case by case, by the definitions and by demand 3.
use Prim.Native.Nat.{ℕ, ◌+◌, ◌*◌, ◌/◌, ◌≤◌, ◌<◌, zero-le}
use mathlib.Core.Path.{◌≡◌, refl, sym, ap, ap₂, subst, ◌∙◌}
use mathlib.Core.List.{List, [], ◌∷◌, ◌++◌}
use mathlib.Core.Bool.{Bool, true, false, false≢true, not}
use native.Mathlib.Nat.{zero-add}
use native.Mathlib.Omega.{arith}
use lib.ListN.{length, drop}
use lib.Seq.{sets, sets-eq}
use lib.Dec.{ltb}
use borrow.Author.Tests.{ltb-true, ltb-false, not-false}
use Rattle.std.proofs.Common.{Option, Some, None}
use Rattle.csdl.specs.Search.{flat}
use Rattle.csdl.specs.Model.{Model, record_at}
use Rattle.csdl.specs.Find.{ancestor_or_self}
use Rattle.csdl.specs.Image.{model_in}
use Rattle.csdl.specs.Path.{path_of, start_of}
use Rattle.csdl.specs.declared.Holder.{Holder}
use Rattle.csdl.specs.declared.Run.{Run}
use Rattle.csdl.specs.Instance.{Instance, instance_in, image20, item_bytes}
use Rattle.csdl.specs.Conforms.{instance_then, instance_answer}
use Rattle.csdl.specs.Verdict.{Answer, Stage, verdict}
use Rattle.csdl.specs.Verdict.Answer.{accepted, refused}
use Rattle.csdl.specs.Verdict.Stage.{whole}
use Rattle.csdl.specs.Walk.{bytes_of_item, path_chosen, chosen_start, walk27, walk28, walk29, walk_path, walk_results, walk_opened, walk_answer, result_bytes, walk_buffer}
use Rattle.csdl.proofs.Logic.{or_no}
use Rattle.csdl.proofs.Verdicts.{instance_accepts}
use Rattle.instance_image.proofs.Sizes.{sized}
use Rattle.soundness.proofs.Counts.{bytes-length}
use Rattle.soundness.proofs.Demands.{results_are, opened_are, not-refused, opened-at-most, results-at-most, results_fit_buffer, premises_of_walk}
use Rattle.walk_path.specs.Chosen.{chosen_path}
use Rattle.walk_path.specs.Refusal.{refusal}
use Rattle.walk.specs.Along.{bytes_along, opened_along}
use Rattle.walk.specs.Opened.{opened_of}

-- Where rule 27 is kept there is a path: the record that holds it.
there-is : (c : Option Holder) → walk27 c ≡ false → (h : Holder) × (c ≡ Some h)
there-is None e = absurd (false≢true (sym e))
there-is (Some h) e = (h, refl)

-- A refusal by a rule.
abbrev refuses : Option ℕ → Bool
refuses None = false
refuses (Some rule) = true

abbrev rule_of : Option ℕ → ℕ
rule_of None = 0
rule_of (Some rule) = rule

module _ (model image : List ℕ) (place n v : ℕ) (buffer : List ℕ) where
  -- What a walk owes where it answers so and leaves the buffer so.
  abbrev pub Owed : Answer → List ℕ → Type 0
  Owed answer out = (answer ≡ walk_answer model image place n v buffer) × (out ≡ walk_buffer model image place n v buffer)

  abbrev m : Model
  m = model_in model

  abbrev i : Instance
  i = instance_in image

  abbrev stages : List Stage
  stages =
      whole 27 (walk27 (walk_path model place n)) ∷ whole 28 (walk28 m i (chosen_start m (walk_path model place n)) v) ∷ whole 29 (walk29 i buffer) ∷ []

  abbrev counts : Answer
  counts = accepted (length (walk_results model image place n v) ∷ length (walk_opened model image place n v) ∷ [])

  -- A refusal leaves every byte.
  refusing : (rule at : ℕ) → walk_answer model image place n v buffer ≡ refused rule at → Owed (refused rule at) buffer
  unfolding walk_buffer
  refusing rule at e = (sym e, rw e)

  -- A refusal of the check of the instance is one of the walk.
  pub refused-before : (rule at : ℕ) → ((o : Answer) → refused rule at ≡ instance_then model image o) → Owed (refused rule at) buffer
  unfolding walk_answer
  refused-before rule at e = refusing rule at (sym (e (verdict 0 stages counts)))

  module _ (passing : (o : Answer) → o ≡ instance_then model image o) where
    conforms : instance_answer model image ≡ accepted []
    unfolding instance_answer
    conforms = sym (passing (accepted []))

    keeps_20 : image20 image ≡ false
    keeps_20 = ((instance_accepts model image).0 conforms).kept20

    refused_by : (rule : ℕ) → verdict 0 stages counts ≡ refused rule 0 → Owed (refused rule 0) buffer
    unfolding walk_answer
    refused_by rule e = refusing rule 0 (sym (passing (verdict 0 stages counts)) ∙ e)

    -- Rules 27, 28 and 29, in that order.
    module _ (c : Option Holder) (choice : c ≡ walk_path model place n) (r : Option ℕ)
        (first_of : r ≡ refusal (walk27 c) (walk28 m i (chosen_start m c) v) (walk29 i buffer)) where
      broken : walk27 (walk_path model place n) ≡ walk27 c × ((walk28 m i (chosen_start m (walk_path model place n)) v) ≡ (walk28 m i (chosen_start m c) v))
      broken = rw choice (refl, refl)

      refused_27_to_29 : (rule : ℕ) → r ≡ Some rule → Owed (refused rule 0) buffer
      unfolding verdict
      refused_27_to_29 rule some = go (walk27 c) (walk28 m i (chosen_start m c) v) (walk29 i buffer) refl refl refl (sym first_of ∙ some)
        where
          is : (k : ℕ) → Some k ≡ Some rule → Owed (refused k 0) buffer → Owed (refused rule 0) buffer
          is k e o = subst (λ (x : ℕ). Owed (refused x 0) buffer) (ap rule_of e) o

          go : (x y z : Bool) → walk27 c ≡ x → walk28 m i (chosen_start m c) v ≡ y → walk29 i buffer ≡ z → refusal x y z ≡ Some rule → Owed (refused rule 0) buffer
          go true y z p q s e = is 27 e (refused_by 27 (rw (broken.0, p)))
          go false true z p q s e = is 28 e (refused_by 28 (rw (broken.0, broken.1, p, q)))
          go false false true p q s e = is 29 e (refused_by 29 (rw (broken.0, broken.1, p, q, s)))
          go false false false p q s e = absurd (false≢true (ap refuses e))

      module _ (none : r ≡ None) where
        kept : (walk27 c ≡ false) × (walk28 m i (chosen_start m c) v ≡ false) × (walk29 i buffer ≡ false)
        kept = go (walk27 c) (walk28 m i (chosen_start m c) v) (walk29 i buffer) (sym first_of ∙ none)
          where
            go : (x y z : Bool) → refusal x y z ≡ None → (x ≡ false) × (y ≡ false) × (z ≡ false)
            go true y z e = absurd (false≢true (sym (ap refuses e)))
            go false true z e = absurd (false≢true (sym (ap refuses e)))
            go false false true e = absurd (false≢true (sym (ap refuses e)))
            go false false false e = (refl, refl, refl)

        abbrev held : (h : Holder) × (c ≡ Some h)
        held = there-is c kept.0

        abbrev h : Holder
        h = held.0

        path-is : walk_path model place n ≡ Some h
        path-is = sym choice ∙ held.1

        there : v < i.nodes
        unfolding walk28
        there =
            ltb-true v i.nodes
            (not-false (ltb v i.nodes) (or_no (not (ltb v i.nodes)) (not (ancestor_or_self m (chosen_start m c) (i.node_type v))) kept.1).0)

        fitting : ancestor_or_self m (start_of m h.kind h.number) (i.node_type v) ≡ true
        unfolding walk28
        fitting =
            subst (λ (x : Option Holder). ancestor_or_self m (chosen_start m x) (i.node_type v) ≡ true) held.1
            (not-false (ancestor_or_self m (chosen_start m c) (i.node_type v))
            (or_no (not (ltb v i.nodes)) (not (ancestor_or_self m (chosen_start m c) (i.node_type v))) kept.1).1)

        start_small : v < 256
        start_small = let z = sized image keeps_20 in omega (arith, there, z.nodes-count, z.nodes-most)

        -- Else the walk: its results fit, its counts are small, and it answers them.
        module _ (run : Run) (f : run.first ≡ (chosen_path m c).first) (g : run.count ≡ (chosen_path m c).count) where
          run-is : run ≡ path_of m h.kind h.number
          run-is =
              ap₂ (λ (a b : ℕ). record { first = a; count = b }) f g ∙ ap (λ (x : Option Holder). chosen_path m x) held.1

          room : item_bytes * (1 + i.slots + i.items) ≤ length buffer
          unfolding walk29
          room = ltb-false (length buffer) (item_bytes * (1 + i.slots + i.items)) kept.2

          bytes_are : bytes_along m i run v ≡ result_bytes model image place n v
          unfolding bytes_along result_bytes
          bytes_are = rw run-is (ap (flat (λ x. bytes_of_item x)) (sym (results_are model image conforms place n h.kind h.number path-is v there fitting)))

          slots_are : opened_along m i run v ≡ walk_opened model image place n v
          unfolding opened_along
          slots_are = rw run-is (sym (opened_are model image conforms place n h.kind h.number path-is v there fitting))

          bytes_fit : length (bytes_along m i run v) ≤ length buffer
          bytes_fit = omega (arith, ap length bytes_are, results_fit_buffer model image conforms place n h.kind h.number path-is v there fitting, room)

          few-opened : length (opened_along m i run v) < 65536
          few-opened =
              let z = sized image keeps_20 in
              omega (
                arith,
                ap length slots_are,
                opened-at-most model image conforms place n h.kind h.number path-is v there fitting,
                z.slots-count,
                z.slots-most,
              )

          four_each : length (bytes_along m i run v) ≡ 4 * length (walk_results model image place n v)
          unfolding result_bytes
          four_each = ap length bytes_are ∙ bytes-length (walk_results model image place n v)

          few-results : length (bytes_along m i run v) ≤ 12292
          few-results =
              let z = sized image keeps_20 in
              omega (
                arith,
                four_each,
                results-at-most model image conforms place n h.kind h.number path-is v there fitting,
                z.slots-count,
                z.slots-most,
                z.items-count,
                z.items-most,
              )

          answered : {end opened : ℕ} {out : List ℕ} → out ≡ sets buffer 0 (bytes_along m i run v) →
              end ≡ length (bytes_along m i run v) → opened ≡ length (opened_along m i run v) → Owed (accepted (end / 4 ∷ opened ∷ [])) out
          unfolding walk_buffer
          answered {end} {opened} {out} x y z =
              let w = not-refused model image conforms place n h.kind h.number path-is v there fitting buffer room in
              let e : end / 4 ≡ length (walk_results model image place n v) = omega (arith, y, four_each) in
              let o : opened ≡ length (walk_opened model image place n v) = z ∙ ap length slots_are in
              let b = bytes_along m i run v in
              let s : sets buffer 0 b ≡ b ++ drop (length b) buffer =
              sets-eq b buffer 0 (omega (arith, bytes_fit)) ∙ ap (λ (k : ℕ). b ++ drop k buffer) (zero-add (length b)) in
              (rw (e, o) (sym w), rw w (x ∙ s ∙ ap (λ (l : List ℕ). l ++ drop (length l) buffer) bytes_are))

-- The same of a model and an instance that are those of the images, and of a run that is the path's.
module _ (model image : List ℕ) (place n v : ℕ) (buffer : List ℕ) {m : Model} {i : Instance} {c : Option Holder} {r : Option ℕ}
    (passing : (o : Answer) → o ≡ instance_then model image o) (m-is : m ≡ model_in model) (i-is : i ≡ instance_in image)
    (choice : c ≡ path_chosen m (record_at m place) n) (first_of : r ≡ refusal (walk27 c) (walk28 m i (chosen_start m c) v) (walk29 i buffer)) where
  chosen : c ≡ walk_path model place n
  chosen = rw m-is at choice

  first : r ≡ refusal (walk27 c) (walk28 (model_in model) (instance_in image) (chosen_start (model_in model) c) v) (walk29 (instance_in image) buffer)
  first = rw (m-is, i-is) at first_of

  pub refused_after : (rule : ℕ) → r ≡ Some rule → Owed model image place n v buffer (refused rule 0) buffer
  refused_after rule some = refused_27_to_29 model image place n v buffer passing c chosen r first rule some

  -- No rule is broken: the results fit, the counts are small, and the walk answers them.
  pub record Walks (run : Run) : Type 0 where
    pub small : v < 256
    pub fits : length (bytes_along m i run v) ≤ length buffer
    pub few : length (opened_along m i run v) < 65536
    pub most : length (bytes_along m i run v) ≤ 12292
    pub answers : {end opened : ℕ} {out : List ℕ} → out ≡ sets buffer 0 (bytes_along m i run v) →
        end ≡ length (bytes_along m i run v) → opened ≡ length (opened_along m i run v) → Owed model image place n v buffer (accepted (end / 4 ∷ opened ∷ [])) out

  pub walks : r ≡ None → {run : Run} → run.first ≡ (chosen_path m c).first → run.count ≡ (chosen_path m c).count → Walks run
  walks none {run} f g =
      let f' : run.first ≡ (chosen_path (model_in model) c).first = rw m-is at f in
      let g' : run.count ≡ (chosen_path (model_in model) c).count = rw m-is at g in
      record {
        small = start_small model image place n v buffer passing c chosen r first none;
        fits = rw (m-is, i-is) (bytes_fit model image place n v buffer passing c chosen r first none run f' g');
        few = rw (m-is, i-is) (few-opened model image place n v buffer passing c chosen r first none run f' g');
        most = rw (m-is, i-is) (few-results model image place n v buffer passing c chosen r first none run f' g');
        answers = rw (m-is, i-is) (answered model image place n v buffer passing c chosen r first none run f' g');
      }

-- At most as many slots are opened as the instance has, whatever the walk answers.
pub few-slots : (model image : List ℕ) (place n v : ℕ) (buffer : List ℕ) (a : Answer) → a ≡ walk_answer model image place n v buffer →
    opened_of a ≤ (instance_in image).slots
few-slots model image place n v buffer (refused rule at) e = zero-le
few-slots model image place n v buffer (accepted values) e =
    let p = premises_of_walk model image place n v buffer values (sym e) in
    rw p.reported (opened-at-most model image p.conforms place n p.kind p.holder p.path v p.there p.fitting)
