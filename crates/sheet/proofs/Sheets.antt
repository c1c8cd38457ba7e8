-- The sheet of an image by the answer of the check. Assumes nothing.
use Prim.Native.Nat.{ℕ, zero, suc, ◌+◌, ◌*◌, ◌≤◌, ◌<◌}
use mathlib.Core.Path.{◌≡◌, refl, sym, ap, ◌∙◌}
use mathlib.Core.List.{List, [], ◌∷◌, ◌++◌, append-nil}
use mathlib.Core.Bool.{Bool, true, false}
use native.Mathlib.Nat.{add-zero}
use native.Mathlib.Omega.{arith}
use Rattle.std.proofs.Common.{Result, Ok, Err}
use lib.ListN.{length, drop, get_or}
use lib.Seq.{get_or-take, get_or-drop}
use borrow.Author.Tests.{le-ltb}
use Rattle.packed.specs.Bytes.{part}
use Rattle.packed.proofs.Laws.{two_bytes}
use Rattle.csdl.specs.Search.{tab}
use Rattle.csdl.specs.Model.{Model, segments_at}
use Rattle.csdl.specs.Image.{model_in, header, image1, buffer2}
use Rattle.csdl.specs.Path.{step_of_segment}
use Rattle.csdl.specs.Accepted.{ModelPasses}
use Rattle.csdl.specs.Verdict.{verdict, model_means, model_then, model_answer, model_buffer, resolution, step_code, bytes_of}
use Rattle.csdl.specs.Verdict.Answer.{accepted, refused}
use Rattle.csdl.specs.declared.Refusal.{Refusal}
use Rattle.csdl.proofs.Logic.{tab-length, tab-at}
use Rattle.csdl.proofs.Bounds.{segments-most}
use Rattle.csdl.proofs.Verdicts.{model_then_accepts}
use Rattle.demands.proofs.Blocks.{block_at}
use Rattle.sheet_lines.specs.Lines.{code_lines}
use Rattle.sheet.specs.Sheet.{mark_of, first_line, first_text, segment_lines, mark_text}

-- A buffer of 2,048 bytes never breaks rule 2.
module _ (image buffer : List ℕ) (room : 2048 ≤ length buffer) where
  bad : image1 image ≡ true → model_answer image buffer ≡ mark_of image
  unfolding mark_of model_answer model_then verdict
  bad e = rw e

  roomy : image1 image ≡ false → buffer2 image buffer ≡ false
  unfolding buffer2
  roomy e = let s = segments-most image e in le-ltb (length buffer) (2 * header image 8) (omega (arith, s.0, s.1))

  good : image1 image ≡ false → model_answer image buffer ≡ mark_of image
  unfolding mark_of model_answer model_then verdict
  good e = rw (e, roomy e)

  pub answer_is : model_answer image buffer ≡ mark_of image
  answer_is = go (image1 image) refl
    where
      go : (b : Bool) → image1 image ≡ b → model_answer image buffer ≡ mark_of image
      go true e = bad e
      go false e = good e

-- The code of a segment, by its two bytes.
module _ (m : Model) (rest : List ℕ) (g : ℕ) (h : g < m.segments) where
  abbrev code : ℕ → ℕ
  code k = step_code (step_of_segment m k)

  two : part (resolution m ++ rest) (2 * g) 2 ≡ bytes_of (code g)
  unfolding resolution
  two =
      let l = tab (λ (k : ℕ). k) 0 m.segments in
      let few : g < length l = omega (arith, tab-length (λ (k : ℕ). k) 0 m.segments) in
      block_at (λ k. bytes_of (code k)) 2 (λ k. refl) 0 l rest g few ∙ ap (λ (k : ℕ). bytes_of (code k)) (tab-at (λ (k : ℕ). k) 0 m.segments g h)

  code_of : 256 * get_or (resolution m ++ rest) (2 * g) 0 + get_or (resolution m ++ rest) (2 * g + 1) 0 ≡ code g
  code_of =
      let s = resolution m ++ rest in
      let high : get_or s (2 * g) 0 ≡ get_or (part s (2 * g) 2) 0 0 =
      sym (get_or-take 2 (drop (2 * g) s) 0 0 (omega arith) ∙ get_or-drop (2 * g) s 0 0 ∙ ap (λ (k : ℕ). get_or s k 0) (add-zero (2 * g))) in
      let low : get_or s (2 * g + 1) 0 ≡ get_or (part s (2 * g) 2) 1 0 = sym (get_or-take 2 (drop (2 * g) s) 1 0 (omega arith) ∙ get_or-drop (2 * g) s 1 0) in
      rw (high, low, two) (omega (arith, two_bytes (code g)))

pub lines_of : (m : Model) (rest : List ℕ) (n : ℕ) → n ≤ m.segments → code_lines (resolution m ++ rest) (segments_at m) n ≡ segment_lines m n
unfolding code_lines segment_lines
lines_of m rest zero h = refl
lines_of m rest (suc g) h = rw (lines_of m rest g (omega arith), code_of m rest g (omega arith))

module _ (image : List ℕ) (r : Result ℕ Refusal) (means : model_means r ≡ mark_of image) where
  pub said : first_line (model_means r) ≡ first_text image
  said = rw means

  module _ (x : Refusal) (e : r ≡ Err x) where
    pub refused-text : first_line (model_means r) ≡ mark_text image
    unfolding mark_text model_means
    refused-text = rw (← means, e) (sym (append-nil (first_line (refused x.rule x.place))))

  module _ (s : ℕ) (e : r ≡ Ok s) where
    is-accepted : mark_of image ≡ accepted (s ∷ [])
    unfolding model_means
    is-accepted = sym means ∙ rw e

    passed : ModelPasses image × (accepted ((model_in image).segments ∷ []) ≡ accepted (s ∷ []))
    unfolding mark_of
    passed = (model_then_accepts image (accepted ((model_in image).segments ∷ [])) (s ∷ [])).0 is-accepted

    -- Rule 1 is kept, and the number is that of the segments.
    pub keeps_1 : image1 image ≡ false
    keeps_1 = passed.0.kept1

    pub segments_are : s ≡ (model_in image).segments
    segments_are = let p = passed.1 in cc

    module _ (buffer codes : List ℕ) (room : 2048 ≤ length buffer) (w : codes ≡ model_buffer image buffer) where
      left : codes ≡ resolution (model_in image) ++ drop (2 * (model_in image).segments) buffer
      unfolding model_buffer
      left = w ∙ rw (answer_is image buffer room, is-accepted)

      pub accepted-text : (first : ℕ) → first ≡ segments_at (model_in image) → first_line (model_means r) ++ code_lines codes first s ≡ mark_text image
      unfolding mark_text
      accepted-text first f =
          rw (said, left, f, segments_are, lines_of (model_in image) (drop (2 * (model_in image).segments) buffer) (model_in image).segments (omega arith), is-accepted)
