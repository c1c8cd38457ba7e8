-- The tables of a later image: where each begins, and what the test of the whole image leaves.
use Prim.Native.Nat.{ℕ, zero, suc, ◌+◌, ◌*◌, ◌≤◌, ◌<◌}
use mathlib.Core.Path.{◌≡◌, refl, ap, ◌∙◌}
use mathlib.Core.List.{List, [], ◌∷◌}
use mathlib.Core.Bool.{false, ◌||◌}
use native.Mathlib.Numerals.{add-one}
use native.Mathlib.Omega.{arith}
use lib.ListN.{length, get_or}
use lib.Dec.{eqb, ltb}
use borrow.Author.Tests.{ltb-false, eqb-true, not-false}
use Rattle.csdl.specs.Search.{any_from}
use Rattle.csdl.specs.Image.{header, part_from}
use Rattle.csdl.specs.Later.{header_size, table_from, later_end, later1a, later1b, later1c, later1d, later_image1}
use Rattle.csdl.proofs.Logic.{or_no, any_none}

-- A part ends where the next begins.
part-suc : (count : ℕ → ℕ) (at i : ℕ) (sizes : List ℕ) (k : ℕ) → k < length sizes
    → part_from count at i sizes (suc k) ≡ part_from count at i sizes k + get_or sizes k 0 * count (i + k)
part-suc count at i [] k h = absurd (omega arith)
part-suc count at i (size ∷ sizes) zero h = let e : i + 0 ≡ i = omega arith in rw e
part-suc count at i (size ∷ sizes) (suc k) h =
    let e : i + suc k ≡ i + 1 + k = omega arith in
    rw e (part-suc count (at + size * count i) (i + 1) sizes k (omega arith))

module _ (sizes image : List ℕ) where
  pub table_first : table_from sizes image 0 ≡ header_size sizes
  unfolding table_from
  table_first = refl

  pub table_next : (k : ℕ) → k < length sizes → table_from sizes image (k + 1) ≡ table_from sizes image k + get_or sizes k 0 * header image (k + 1)
  unfolding table_from
  table_next k h =
      let e : 1 + k ≡ k + 1 = omega arith in
      ap (λ (j : ℕ). part_from (λ i. header image i) (header_size sizes) 1 sizes j) (add-one k)
      ∙ part-suc (λ i. header image i) (header_size sizes) 1 sizes k h
      ∙ ap (λ (j : ℕ). table_from sizes image k + get_or sizes k 0 * header image j) e

-- What an image that passes the test has: as many bytes as its header says, and counts within their limits.
pub record LaterSound (sizes image : List ℕ) : Type 0 where
  pub whole : length image ≡ later_end sizes image
  pub records : (k : ℕ) → k < length sizes → header image (k + 1) ≤ 1024
  pub name-bytes : header image (length sizes + 1) ≤ 4096

pub later_sound : (sizes image : List ℕ) → later_image1 sizes image ≡ false → LaterSound sizes image
unfolding later_image1
later_sound sizes image h =
    let d = or_no (later1a sizes image || later1b image || later1c sizes image) (later1d sizes image) h in
    let b = or_no (later1a sizes image || later1b image) (later1c sizes image) d.0 in
    let many = any_from (λ k. ltb 1024 (header image (k + 1))) 0 (length sizes) in
    let c = or_no many (ltb 4096 (header image (length sizes + 1))) b.1 in
    record {
      whole = eqb-true (length image) (later_end sizes image) (not-false (eqb (length image) (later_end sizes image)) d.1);
      records = λ k l. ltb-false 1024 (header image (k + 1)) (any_none (λ j. ltb 1024 (header image (j + 1))) 0 (length sizes) c.0 k (omega arith) (omega arith));
      name-bytes = ltb-false 4096 (header image (length sizes + 1)) c.1;
    }
