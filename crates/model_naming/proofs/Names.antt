-- The name of a record, by what the code read. Assumes nothing.
use Prim.Native.Nat.{ℕ, ◌+◌, ◌-◌, ◌*◌, ◌≤◌, ◌<◌}
use mathlib.Core.Path.{◌≡◌, refl, sym, ap, ◌∙◌}
use mathlib.Core.List.{List, []}
use Rattle.std.proofs.Common.{Result, Ok, Err, is_err}
use mathlib.Core.Bool.{Bool, true, false}
use native.Mathlib.Omega.{arith}
use lib.ListN.{length, take, drop, length-drop}
use lib.Seq.{take_all, drop-drop}
use Rattle.packed.specs.Bytes.{part}
use Rattle.csdl.specs.Tables.{Name}
use Rattle.csdl.specs.Model.{Model, model_of, record_at, places}
use Rattle.csdl.specs.Image.{model_in, image1, names_from, image_end}
use Rattle.csdl.specs.Verdict.{Answer, verdict, form_stages}
use Rattle.csdl.specs.Verdict.Answer.{accepted, refused}
use Rattle.csdl.specs.Naming.{no_name, if_accepted, name_held, record_name, name_of_record}
use Rattle.packed.proofs.Laws.{field_lt, field_past}
use Rattle.model_image.specs.Read.{model_read}
use Rattle.model_image.specs.declared.model.Model as tables
use Rattle.model_image.proofs.Parts.{layout, counts}
use Rattle.csdl.specs.declared.Refusal.{Refusal}
use Rattle.model_rules.specs.Stages.{ResultOf}
use Rattle.model_rules.proofs.Tables.{record_cases}
use Rattle.model_naming.specs.Named.{name_at, name_start, name_size}

-- Wherever the counts say that the name bytes begin, they begin before byte 4,000,000.
pub names-below : (image : List ℕ) → names_from image < 4000000
names-below image =
    omega (arith, field_lt image 16 16, field_lt image 32 16, field_lt image 48 16, field_lt image 64 16, field_lt image 80 16, field_lt image 96 16, field_lt image 112 16, field_lt image 128 16)

-- A type past the table has no name.
module _ (m : tables.Model) (t : ℕ) (past : 64 ≤ t) where
  pub start_past : ((model_read m).type_name t).start ≡ 0
  unfolding model_read model_of
  start_past = field_past m.types.now (48 * t + 22) 12 (omega (arith, m.few_types))

  pub size_past : ((model_read m).type_name t).size ≡ 0
  unfolding model_read model_of
  size_past = field_past m.types.now (48 * t + 22 + 12) 8 (omega (arith, m.few_types))

module _ (m : Model) (place : ℕ) where
  -- The check of rules 3 to 5 refuses, or it does not.
  module _ (r : Result (Unit {0}) Refusal) (checks : ResultOf r (λ o. verdict (places m) (form_stages m) o)) where
    pub name_unformed : is_err r ≡ true → name_at m place ≡ no_name
    unfolding name_at
    name_unformed = go r checks where
      go : (x : Result (Unit {0}) Refusal) → ResultOf x (λ o. verdict (places m) (form_stages m) o) → is_err x ≡ true
          → if_accepted (verdict (places m) (form_stages m) (accepted [])) (name_held m (record_at m place)) ≡ no_name
      go (Ok u) a e = cc
      go (Err x) a e = rw (← a (accepted []))

    pub name-formed-at : is_err r ≡ false → name_at m place ≡ name_held m (record_at m place)
    unfolding name_at
    name-formed-at = go r checks where
      go : (x : Result (Unit {0}) Refusal) → ResultOf x (λ o. verdict (places m) (form_stages m) o) → is_err x ≡ false
          → if_accepted (verdict (places m) (form_stages m) (accepted [])) (name_held m (record_at m place)) ≡ name_held m (record_at m place)
      go (Ok u) a e = rw (← a (accepted []))
      go (Err x) a e = cc

  past_held : places m ≤ place → name_held m (record_at m place) ≡ no_name
  unfolding name_held
  past_held h =
      record_cases (λ r. name_held m r ≡ no_name) m place (λ x. absurd (omega arith)) (λ x y. absurd (omega arith)) (λ x y. absurd (omega arith))
      (λ x y. absurd (omega arith)) (λ x y. absurd (omega arith)) (λ x y. absurd (omega arith)) (λ x y. absurd (omega arith)) (λ x y. absurd (omega arith)) refl

  pub name_past_end : places m ≤ place → name_at m place ≡ no_name
  unfolding name_at
  name_past_end h = rw (past_held h) (both (verdict (places m) (form_stages m) (accepted [])))
    where
      both : (a : Answer) → if_accepted a no_name ≡ no_name
      both (accepted values) = refl
      both (refused rule at) = refl

module _ (image : List ℕ) (place : ℕ) where
  pub named : image1 image ≡ false → record_name image place ≡ name_at (model_in image) place
  unfolding record_name name_at verdict
  named e = rw e

  pub none_bad : image1 image ≡ true → record_name image place ≡ no_name
  unfolding record_name verdict
  none_bad e = rw e

  pub none_past : image1 image ≡ false → 65535 < place → record_name image place ≡ no_name
  none_past e h =
      let l = layout image e in
      let n = counts image l in
      named e ∙ name_past_end (model_in image) place (omega (arith, n, l))

  bytes_bad : image1 image ≡ true → part image (name_start image place) (name_size image place) ≡ name_of_record image place
  unfolding name_of_record
  bytes_bad e = let z : (record_name image place).size ≡ 0 = rw (none_bad e) in rw z

  -- The name bytes are the last part of the image.
  bytes_good : image1 image ≡ false → part image (name_start image place) (name_size image place) ≡ name_of_record image place
  unfolding name_of_record model_in model_of
  bytes_good e =
      let l = layout image e in
      let from = names_from image in
      let rest : take (image_end image - from) (drop from image) ≡ drop from image =
      take_all (image_end image - from) (drop from image) (rw length-drop (omega (arith, l.whole))) in
      let n = record_name image place in
      rw rest (ap (λ (x : List ℕ). take n.size x) (sym (drop-drop n.start from image)))

  pub name-bytes : part image (name_start image place) (name_size image place) ≡ name_of_record image place
  name-bytes = go (image1 image) refl
    where
      go : (b : Bool) → image1 image ≡ b → part image (name_start image place) (name_size image place) ≡ name_of_record image place
      go true e = bytes_bad e
      go false e = bytes_good e
