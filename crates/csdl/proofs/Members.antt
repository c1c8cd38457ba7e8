-- What the answer on enumeration members says: an acceptance that no rule is broken, a refusal the lowest broken rule and the lowest place.
use Prim.Native.Nat.{ℕ}
use mathlib.Core.Path.{◌≡◌, refl, sym, ap, ◌∙◌}
use mathlib.Core.List.{List, []}
use mathlib.Core.Bool.{true, false}
use mathlib.Core.Logic.{◌↔◌, ◌⊎◌, inl, inr, ⊎_elim}
use Rattle.csdl.specs.Model.{Model, places}
use Rattle.csdl.specs.Image.{model_in}
use Rattle.csdl.specs.Verdict.{Answer, model_then, verdict}
use Rattle.csdl.specs.Verdict.Answer.{accepted, refused}
use Rattle.csdl.specs.Accepted.{ModelPasses, AllPassed, Lowest, later_stages}
use Rattle.csdl.specs.Later.{later_image1}
use Rattle.csdl.specs.Members.{Members, members_in, member_sizes, image_stages, member_stages, members_verdict, members_answer, MembersPass}
use Rattle.csdl.proofs.Verdicts.{not-both, ascends, verdict-accepts, verdict-refuses, model_then_accepts, model_then_refuses}

image_ascends : (image : List ℕ) → ascends 30 (image_stages image) ≡ true
unfolding ascends
image_ascends image = refl

members_ascend : (m : Model) (e : Members) → ascends 30 (member_stages m e) ≡ true
unfolding ascends member_stages
members_ascend m e = refl

module _ (model image : List ℕ) where
  abbrev m : Model
  m = model_in model

  abbrev e : Members
  e = members_in image

  -- The answer on the whole image, after the rules of the model.
  abbrev after : Answer
  after = verdict 0 (image_stages image) (members_verdict m e)

  answer_is : members_answer model image ≡ model_then model after
  unfolding members_answer
  answer_is = refl

  -- It accepts exactly where the model breaks none of the rules 1 and 3 to 19, the image keeps rule 30, and no member breaks 30 or 31; and then answers
  -- nothing else.
  pub members_accepts : (values : List ℕ) → (members_answer model image ≡ accepted values) ↔ (MembersPass model image × (values ≡ []))
  unfolding AllPassed members_verdict member_stages
  members_accepts values =
      let u = model_then_accepts model after values in
      let v = verdict-accepts 0 30 (image_stages image) (image_ascends image) (members_verdict m e) values in
      let w = verdict-accepts e.count 30 (member_stages m e) (members_ascend m e) (accepted []) values in (
        λ h. let a = u.0 (sym answer_is ∙ h) in
            let b = v.0 a.1 in
            let c = w.0 b.1 in
            (record { model_passes = a.0; image_kept = b.0.0; kept30 = c.0.0; kept31 = c.0.1.0 }, cc),
        λ h. let p = h.0 in
            answer_is
            ∙ u.1 (p.model_passes, v.1 ((p.image_kept, tt), w.1 ((p.kept30, (p.kept31, tt)), ap accepted (sym h.1)))),
      )

  -- A refusal is the lowest broken rule of the model, at its lowest place; else 30, of the whole image; else the lowest of 30 and 31 that a member
  -- breaks, and the lowest member that breaks it.
  pub members_refuses : (rule place : ℕ)
      → (members_answer model image ≡ refused rule place)
      ↔ (Lowest (places m) (later_stages model) rule place
      ⊎ (ModelPasses model
      × (Lowest 0 (image_stages image) rule place
      ⊎ ((later_image1 member_sizes image ≡ false) × Lowest e.count (member_stages m e) rule place))))
  unfolding AllPassed members_verdict
  members_refuses rule place =
      let u = model_then_refuses model after rule place in
      let v = verdict-refuses 0 30 (image_stages image) (image_ascends image) (members_verdict m e) rule place in
      let w = verdict-refuses e.count 30 (member_stages m e) (members_ascend m e) (accepted []) rule place in (
        λ h. ⊎_elim (λ low. inl low)
            (λ a. inr (
              a.0,
              ⊎_elim (λ low. inl low)
                  (λ b. inr (b.0.0, ⊎_elim (λ low. low) (λ c. absurd (not-both c.1)) (w.0 b.1)))
                  (v.0 a.1),
            ))
            (u.0 (sym answer_is ∙ h)),
        λ h. answer_is
            ∙ u.1 (⊎_elim (λ low. inl low)
            (λ a. inr (a.0, v.1 (⊎_elim (λ low. inl low) (λ b. inr ((b.0, tt), w.1 (inl b.1))) a.1)))
            h),
      )
