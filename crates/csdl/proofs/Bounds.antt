-- How large the numbers of an answer are: the rule and the place of a refusal, the counts of an image that is accepted.
use Prim.Native.Nat.{ℕ, ◌+◌, ◌*◌, ◌≤◌, ◌<◌}
use mathlib.Core.Path.{◌≡◌, refl}
use mathlib.Core.List.{List, [], ◌∷◌}
use mathlib.Core.Bool.{Bool, true, false, ◌&&◌, ◌||◌}
use mathlib.Core.Logic.{⊎_elim}
use native.Mathlib.Omega.{arith}
use lib.ListN.{length, length-take, length-drop}
use lib.Dec.{ltb, leb, eqb}
use borrow.Author.Tests.{ltb-false, leb-true, eqb-true, not-false}
use Rattle.packed.specs.Bytes.{between}
use Rattle.packed.proofs.Laws.{field_lt}
use Rattle.csdl.specs.Model.{places, model_of}
use Rattle.csdl.specs.Image.{header, model_in, types_from, properties_from, keys_from, constraints_from, children_from, bindings_from, segments_from, names_from, image_end, image1, image1a, image1b, image1c, image1d}
use Rattle.csdl.specs.Instance.{item_form, instance_in, instance_of, instance_places, slots_from, items_from, image20, image20a, image20b, image20c, image20d}
use Rattle.csdl.specs.Verdict.{Stage, model_stages, model_answer}
use Rattle.csdl.specs.Verdict.Answer.{refused}
use Rattle.csdl.specs.Verdict.Stage.{whole, each}
use Rattle.csdl.specs.Conforms.{instance_stages, instance_answer}
use Rattle.csdl.specs.Walk.{walk_answer}
use Rattle.csdl.specs.Accepted.{number, BrokenAt, Broken, Lowest, check_stages, later_stages, conform_stages, walk_stages}
use Rattle.csdl.specs.Later.{table_from}
use Rattle.csdl.specs.Members.{members_in, members_of, image_stages, member_stages, members_answer}
use Rattle.csdl.proofs.Logic.{and_cases, or_no}
use Rattle.csdl.proofs.Verdicts.{ascends, broken_from, model_refuses, instance_refuses, walk_refuses}
use Rattle.csdl.proofs.Members.{members_refuses}

-- No stage's rule is over b.
unfoldable up_to : ℕ → List Stage → Bool
up_to b [] = true
up_to b (s ∷ stages) = leb (number s) b && up_to b stages

broken_to : (n b : ℕ) (stages : List Stage) (rule place : ℕ) → up_to b stages ≡ true → Broken n stages rule place → rule ≤ b
unfolding up_to Broken
broken_to n b [] rule place up h = absurd h
broken_to n b (s ∷ stages) rule place up h =
    let c = and_cases (leb (number s) b) (up_to b stages) up in
    ⊎_elim (λ x. omega (arith, x.0, leb-true (number s) b c.0)) (λ x. broken_to n b stages rule place c.1 x) h

-- A broken place is one of the n, or 0.
at_place : (n : ℕ) (s : Stage) (place : ℕ) → BrokenAt n s place → place ≤ n
at_place n (whole rule broken) place h = omega (arith, h.0)
at_place n (each rule test) place h = omega (arith, h.0)

broken-place : (n : ℕ) (stages : List Stage) (rule place : ℕ) → Broken n stages rule place → place ≤ n
unfolding Broken
broken-place n [] rule place h = absurd h
broken-place n (s ∷ stages) rule place h = ⊎_elim (λ x. at_place n s place x.1) (λ x. broken-place n stages rule place x) h

-- Places are few, since counts have 16 bits each.
part-most : (s : List ℕ) (a k : ℕ) → length (between s a (a + k)) ≤ k
part-most s a k = simp length-take (omega arith)

pub places-few : (image : List ℕ) → places (model_in image) < 4294967296
unfolding model_in model_of
places-few image =
    omega (
      arith,
      part-most image 20 (5 * header image 1),
      part-most image (types_from image) (6 * header image 2),
      part-most image (properties_from image) (7 * header image 3),
      part-most image (keys_from image) (6 * header image 4),
      part-most image (constraints_from image) (5 * header image 5),
      part-most image (children_from image) (4 * header image 6),
      part-most image (bindings_from image) (6 * header image 7),
      part-most image (segments_from image) (3 * header image 8),
      field_lt image 16 16,
      field_lt image 32 16,
      field_lt image 48 16,
      field_lt image 64 16,
      field_lt image 80 16,
      field_lt image 96 16,
      field_lt image 112 16,
      field_lt image 128 16,
    )

pub instance_places-few : (image : List ℕ) → instance_places (instance_in image) < 4294967296
unfolding instance_in instance_of
instance_places-few image =
    omega (
      arith,
      part-most image 8 (4 * header image 1),
      part-most image (slots_from image) (5 * header image 2),
      part-most image (items_from image) (4 * header image 3),
      field_lt image 16 16,
      field_lt image 32 16,
      field_lt image 48 16,
    )

pub members_few : (image : List ℕ) → (members_in image).count < 4294967296
unfolding members_in members_of table_from
members_few image = omega (arith, part-most image 6 (12 * header image 1), field_lt image 16 16)

-- A refusal's rule is one of those that the call asks, and never 0; its place is small.
pub model_refusal : (image buffer : List ℕ) (rule place : ℕ) → model_answer image buffer ≡ refused rule place →
    (1 ≤ rule) × (rule ≤ 19) × (place < 4294967296)
unfolding ascends up_to model_stages
model_refusal image buffer rule place e =
    let n = places (model_in image) in
    let stages = check_stages image buffer in
    let b = ((model_refuses image buffer rule place).0 e).broken in
    (broken_from n 1 stages rule place refl b, broken_to n 19 stages rule place refl b, omega (arith, broken-place n stages rule place b, places-few image))

-- Of the stages before an instance's or a walk's own.
later-refusal : (image : List ℕ) (rule place : ℕ) → Lowest (places (model_in image)) (later_stages image) rule place →
    (1 ≤ rule) × (rule ≤ 19) × (place < 4294967296)
unfolding ascends up_to model_stages
later-refusal image rule place low =
    let n = places (model_in image) in
    let stages = later_stages image in
    let b = low.broken in
    (broken_from n 1 stages rule place refl b, broken_to n 19 stages rule place refl b, omega (arith, broken-place n stages rule place b, places-few image))

conform_refusal : (model image : List ℕ) (rule place : ℕ) → Lowest (instance_places (instance_in image)) (conform_stages model image) rule place →
    (20 ≤ rule) × (rule ≤ 26) × (place < 4294967296)
unfolding ascends up_to instance_stages
conform_refusal model image rule place low =
    let n = instance_places (instance_in image) in
    let stages = conform_stages model image in
    let b = low.broken in
    (broken_from n 20 stages rule place refl b, broken_to n 26 stages rule place refl b, omega (arith, broken-place n stages rule place b, instance_places-few image))

pub instance_refusal : (model image : List ℕ) (rule place : ℕ) → instance_answer model image ≡ refused rule place →
    (1 ≤ rule) × (rule ≤ 26) × (place < 4294967296)
instance_refusal model image rule place e =
    ⊎_elim (λ low. let z = later-refusal model rule place low in (omega arith, omega arith, omega arith))
    (λ h. let z = conform_refusal model image rule place h.1 in (omega arith, omega arith, omega arith))
    ((instance_refuses model image rule place).0 e)

pub walk_refusal : (model image : List ℕ) (place n v : ℕ) (buffer : List ℕ) (rule at : ℕ) → walk_answer model image place n v buffer ≡ refused rule at →
    (1 ≤ rule) × (rule ≤ 29) × (at < 4294967296)
unfolding ascends up_to
walk_refusal model image place n v buffer rule at e =
    let stages = walk_stages model image place n v buffer in
    ⊎_elim (λ low. let z = later-refusal model rule at low in (omega arith, omega arith, omega arith))
    (λ h. ⊎_elim (λ low. let z = conform_refusal model image rule at low in (omega arith, omega arith, omega arith))
    (λ k. let b = k.1.broken in (
      omega (arith, broken_from 0 27 stages rule at refl b),
      broken_to 0 29 stages rule at refl b,
      omega (arith, broken-place 0 stages rule at b),
    ))
    h.1)
    ((walk_refuses model image place n v buffer rule at).0 e)

pub members_refusal : (model image : List ℕ) (rule place : ℕ) → members_answer model image ≡ refused rule place →
    (1 ≤ rule) × (rule ≤ 31) × (place < 4294967296)
unfolding ascends up_to member_stages
members_refusal model image rule place e =
    let whole = image_stages image in
    let n = (members_in image).count in
    let stages = member_stages (model_in model) (members_in image) in
    ⊎_elim (λ low. let z = later-refusal model rule place low in (omega arith, omega arith, omega arith))
    (λ h. ⊎_elim (λ low. let b = low.broken in (
      omega (arith, broken_from 0 30 whole rule place refl b),
      broken_to 0 31 whole rule place refl b,
      omega (arith, broken-place 0 whole rule place b),
    ))
    (λ k. let b = k.1.broken in (
      omega (arith, broken_from n 30 stages rule place refl b),
      broken_to n 31 stages rule place refl b,
      omega (arith, broken-place n stages rule place b, members_few image),
    ))
    h.1)
    ((members_refuses model image rule place).0 e)

-- What rule 1 leaves of the segments, and rule 20 of the instance.
pub segments-most : (image : List ℕ) → image1 image ≡ false → ((model_in image).segments ≡ header image 8) × ((model_in image).segments ≤ 1024)
unfolding model_in model_of image1
segments-most image h =
    let x = ltb 4096 (header image 9) in
    let g = header image 8 in
    let y = eqb (header image 1) 0 || ltb 16 (header image 1) || ltb 64 (header image 2) || ltb 512 (header image 3) || ltb 128 (header image 4)
    || ltb 64 (header image 5)
    || ltb 64 (header image 6)
    || ltb 128 (header image 7) in
    let d = or_no (image1a image || image1b image || image1c image) (image1d image) h in
    let b = or_no (image1a image || image1b image) (image1c image) d.0 in
    let c = or_no (y || ltb 1024 g) x b.1 in
    let most : g ≤ 1024 = ltb-false 1024 g (or_no y (ltb 1024 g) c.0).1 in
    let whole = eqb-true (length image) (image_end image) (not-false (eqb (length image) (image_end image)) d.1) in
    let z : length (between image (segments_from image) (names_from image)) ≡ 3 * g = simp (length-take, length-drop) (omega arith) in
    (omega arith, omega arith)

pub instance_most : (image : List ℕ) → image20 image ≡ false →
    ((instance_in image).nodes ≤ 256) × ((instance_in image).slots ≤ 1024) × ((instance_in image).items ≤ 2048)
unfolding instance_in instance_of image20
instance_most image h =
    let n = header image 1 in
    let s = header image 2 in
    let k = header image 3 in
    let d = or_no (image20a image || image20b item_form image || image20c image) (image20d item_form image) h in
    let b = or_no (image20a image || image20b item_form image) (image20c image) d.0 in
    let c = or_no (ltb 256 n || ltb 1024 s) (ltb 2048 k) b.1 in
    let f = or_no (ltb 256 n) (ltb 1024 s) c.0 in
    let nm : n ≤ 256 = ltb-false _ _ f.0 in
    let sm : s ≤ 1024 = ltb-false _ _ f.1 in
    let im : k ≤ 2048 = ltb-false _ _ c.1 in (
      omega (arith, part-most image 8 (4 * header image 1)),
      omega (arith, part-most image (slots_from image) (5 * header image 2)),
      omega (arith, part-most image (items_from image) (4 * header image 3)),
    )
