-- What the check answers and leaves in the buffer, by what the code found. Assumes nothing.
use Prim.Native.Nat.{ℕ, ◌*◌, ◌≤◌, ◌<◌}
use mathlib.Core.Path.{◌≡◌, sym, ◌∙◌}
use mathlib.Core.List.{List, [], ◌∷◌, ◌++◌}
use mathlib.Core.Bool.{true, false}
use native.Mathlib.Omega.{arith}
use lib.ListN.{length, drop}
use borrow.Author.Tests.{lt-ltb, le-ltb}
use Rattle.std.proofs.Common.{Ok, Err}
use Rattle.csdl.specs.Image.{model_in, header, image1, buffer2}
use Rattle.csdl.specs.Verdict.{Answer, verdict, model_means, model_verdict, model_then, model_answer, model_buffer, resolution}
use Rattle.csdl.specs.Verdict.Answer.{accepted, refused}
use Rattle.csdl.specs.Accepted.{ModelPasses}
use Rattle.csdl.specs.declared.Refusal.{Refusal}
use Rattle.csdl.proofs.Verdicts.{model_then_accepts}
use Rattle.model_image.proofs.Parts.{layout, counts}
use Rattle.rules_segments.specs.Kept.{Resolvable}
use Rattle.rules_segments.proofs.Resolving.{resolvable}
use Rattle.path_resolution.specs.Coded.{Coded}
use Rattle.path_resolution.specs.Written.{code_bytes}
use Rattle.model_check.proofs.Whole.{codes_resolution}

module _ (image : List ℕ) where
  pub then_bad : image1 image ≡ true → (o : Answer) → refused 1 0 ≡ model_then image o
  unfolding model_then verdict
  then_bad e o = rw e

  pub then_good : image1 image ≡ false → (o : Answer) → model_then image o ≡ model_verdict (model_in image) o
  unfolding model_then verdict
  then_good e o = rw e

  -- A check that lets every answer follow found nothing broken.
  pub passes : ((o : Answer) → o ≡ model_then image o) → ModelPasses image
  passes a = ((model_then_accepts image (accepted []) []).0 (sym (a (accepted [])))).0

module _ (image buffer : List ℕ) where
  refusal : (r : Refusal) → model_answer image buffer ≡ refused r.rule r.place → (model_means (Err r) ≡ model_answer image buffer) × (buffer ≡ model_buffer image buffer)
  unfolding model_means model_buffer
  refusal r e = (sym e, rw e)

  bad : image1 image ≡ true → model_answer image buffer ≡ refused 1 0
  unfolding model_answer verdict
  bad e = rw e

  pub answer_bad : image1 image ≡ true → (model_means (Err (record { rule = 1; place = 0 })) ≡ model_answer image buffer) × (buffer ≡ model_buffer image buffer)
  answer_bad e = refusal _ (bad e)

  module _ (good : image1 image ≡ false) where
    -- Rule 2, by the count of segments.
    module _ {s : ℕ} (e : s ≡ (model_in image).segments) where
      count-is : header image 8 ≡ s
      count-is = sym (e ∙ (counts image (layout image good)).segments)

      pub short : length buffer < 2 * s → buffer2 image buffer ≡ true
      unfolding buffer2
      short l = rw count-is (lt-ltb (length buffer) (2 * s) l)

      pub roomy : 2 * s ≤ length buffer → buffer2 image buffer ≡ false
      unfolding buffer2
      roomy l = rw count-is (le-ltb (length buffer) (2 * s) l)

    no_room : buffer2 image buffer ≡ true → model_answer image buffer ≡ refused 2 0
    unfolding model_answer verdict
    no_room e = rw (good, e)

    pub answer_short : buffer2 image buffer ≡ true → (model_means (Err (record { rule = 2; place = 0 })) ≡ model_answer image buffer) × (buffer ≡ model_buffer image buffer)
    answer_short e = refusal _ (no_room e)

    module _ (room : buffer2 image buffer ≡ false) where
      rules : model_answer image buffer ≡ model_verdict (model_in image) (accepted ((model_in image).segments ∷ []))
      unfolding model_answer verdict
      rules = rw (good, room)

      pub answer_refused : (r : Refusal) → ((o : Answer) → refused r.rule r.place ≡ model_verdict (model_in image) o)
          → (model_means (Err r) ≡ model_answer image buffer) × (buffer ≡ model_buffer image buffer)
      answer_refused r a = refusal r (rules ∙ sym (a _))

      module _ (a : (o : Answer) → o ≡ model_verdict (model_in image) o) where
        accepts : model_answer image buffer ≡ accepted ((model_in image).segments ∷ [])
        accepts = rules ∙ sym (a _)

        can_resolve : Resolvable (model_in image)
        can_resolve =
            let p = passes image (λ o. a o ∙ sym (then_good image good o)) in
            let l = layout image good in
            let n = counts image l in
            resolvable (model_in image) p.model_kept.kept4 p.model_kept.kept13 (omega (arith, n.types, l.types)) (omega (arith, n.properties, l.properties))

        module _ (s : ℕ) (e : s ≡ (model_in image).segments) where
          pub answer_accepted : model_means (Ok s) ≡ model_answer image buffer
          unfolding model_means
          answer_accepted = rw e (sym accepts)

          -- What is written is the resolution.
          pub written : {codes out : List ℕ} → Coded (model_in image) codes → out ≡ code_bytes codes s ++ drop (2 * s) buffer → out ≡ model_buffer image buffer
          unfolding model_buffer
          written {codes} c w = w ∙ rw (e, codes_resolution (model_in image) can_resolve codes c, accepts)
