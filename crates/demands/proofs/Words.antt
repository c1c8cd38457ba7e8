-- From the word of a call back to its answer: the numbers of each answer are small enough for their bits.
use Prim.Native.Nat.{ℕ, ◌+◌, ◌*◌, ◌≤◌, ◌<◌}
use mathlib.Core.Path.{◌≡◌, refl, ap}
use mathlib.Core.List.{List, [], ◌∷◌}
use native.Mathlib.Omega.{arith}
use lib.ListN.{length}
use borrow.Author.Tests.{eq-eqb, ne_eqb}
use Rattle.csdl.specs.Image.{model_in}
use Rattle.csdl.specs.Verdict.{Answer, model_answer}
use Rattle.csdl.specs.Verdict.Answer.{accepted, refused}
use Rattle.csdl.specs.Conforms.{instance_answer}
use Rattle.csdl.specs.Walk.{walk_results, walk_opened, walk_answer}
use Rattle.csdl.specs.Members.{members_answer}
use Rattle.csdl.proofs.Verdicts.{model_accepts, instance_values, walk_accepts}
use Rattle.csdl.proofs.Members.{members_accepts}
use Rattle.csdl.proofs.Bounds.{model_refusal, instance_refusal, walk_refusal, members_refusal, segments-most, instance_most}
use Rattle.soundness.proofs.Demands.{premises_of_walk, results-at-most, opened-at-most}
use Rattle.demands.specs.Word.{values_word, word, upper, lower, results_in, opened_in, answer_in, model_is_in, instance_is_in, members_are_in, walk_is_in}

-- A small number has no upper half; a rule and a small place are the two halves.
below : (values read : List ℕ) → values_word values < 4294967296 → read ≡ values → answer_in read (values_word values) ≡ accepted values
below values read h e =
    let z : upper (values_word values) ≡ 0 = omega arith in
    rw (eq-eqb (upper (values_word values)) 0 z) (ap accepted e)

above : (read : List ℕ) (rule place : ℕ) → 1 ≤ rule → place < 4294967296 → answer_in read (rule * 4294967296 + place) ≡ refused rule place
above read rule place h l =
    let w = rule * 4294967296 + place in
    let u : upper w ≡ rule = omega arith in
    let d : lower w ≡ place = omega arith in
    rw (u, d, ne_eqb rule 0 (λ e. omega arith))

-- The check of a model: at most 1024 segments.
pub model_word : (image buffer : List ℕ) → model_is_in (word (model_answer image buffer)) ≡ model_answer image buffer
unfolding word model_is_in
model_word image buffer = go (model_answer image buffer) refl
  where
    go : (a : Answer) → model_answer image buffer ≡ a → answer_in (lower (word a) ∷ []) (word a) ≡ a
    go (accepted values) e =
        let p = (model_accepts image buffer values).0 e in
        let m = segments-most image p.0.kept1 in
        rw p.2 (below ((model_in image).segments ∷ []) _ (omega (arith, m.1)) (ap (λ (x : ℕ). x ∷ []) (omega (arith, m.1))))
    go (refused rule place) e = let b = model_refusal image buffer rule place e in above _ rule place b.0 b.2

-- The check of an instance.
pub instance_word : (model image : List ℕ) → instance_is_in (word (instance_answer model image)) ≡ instance_answer model image
unfolding word instance_is_in
instance_word model image = go (instance_answer model image) refl
  where
    go : (a : Answer) → instance_answer model image ≡ a → answer_in [] (word a) ≡ a
    go (accepted values) e = rw (instance_values model image values e)
    go (refused rule place) e = let b = instance_refusal model image rule place e in above [] rule place b.0 b.2

-- The check of members.
pub members_word : (model image : List ℕ) → members_are_in (word (members_answer model image)) ≡ members_answer model image
unfolding word members_are_in
members_word model image = go (members_answer model image) refl
  where
    go : (a : Answer) → members_answer model image ≡ a → answer_in [] (word a) ≡ a
    go (accepted values) e = rw ((members_accepts model image values).0 e).1
    go (refused rule place) e = let b = members_refusal model image rule place e in above [] rule place b.0 b.2

-- The walk: at most 3073 results and 1024 slots opened.
pub record Few (model image : List ℕ) (place n v : ℕ) : Type 0 where
  pub results : length (walk_results model image place n v) ≤ 3073
  pub opened : length (walk_opened model image place n v) ≤ 1024

pub few : (model image : List ℕ) (place n v : ℕ) (buffer values : List ℕ) → walk_answer model image place n v buffer ≡ accepted values →
    Few model image place n v
few model image place n v buffer values e =
    let p = premises_of_walk model image place n v buffer values e in
    let k = (walk_accepts model image place n v buffer values).0 e in
    let m = instance_most image k.0.instance_passes.kept20 in
    record {
      results =
          omega (arith, m.1, m.2, results-at-most model image p.conforms place n p.kind p.holder p.path v p.there p.fitting);
      opened = omega (arith, m.1, opened-at-most model image p.conforms place n p.kind p.holder p.path v p.there p.fitting);
    }

pub walk_word : (model image : List ℕ) (place n v : ℕ) (buffer : List ℕ) →
    walk_is_in (word (walk_answer model image place n v buffer)) ≡ walk_answer model image place n v buffer
unfolding word walk_is_in
walk_word model image place n v buffer = go (walk_answer model image place n v buffer) refl
  where
    go : (a : Answer) → walk_answer model image place n v buffer ≡ a → answer_in (results_in (word a) ∷ opened_in (word a) ∷ []) (word a) ≡ a
    go (accepted values) e =
        let f = few model image place n v buffer values e in
        let r = length (walk_results model image place n v) in
        let o = length (walk_opened model image place n v) in
        let x : results_in (r * 65536 + o) ≡ r = omega (arith, f.results, f.opened) in
        let y : opened_in (r * 65536 + o) ≡ o = omega (arith, f.results, f.opened) in
        rw ((walk_accepts model image place n v buffer values).0 e).1 (below (r ∷ o ∷ []) _ (omega (arith, f.results, f.opened)) (rw (x, y)))
    go (refused rule at) e = let b = walk_refusal model image place n v buffer rule at e in above _ rule at b.0 b.2
