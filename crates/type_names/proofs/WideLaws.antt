-- Laws of sets of properties. Assumes nothing.
use Prim.Native.Nat.{ℕ, ◌+◌, ◌-◌, ◌*◌, ◌/◌, ◌%◌, ◌^◌, ◌≤◌, ◌<◌}
use mathlib.Core.Path.{◌≡◌, refl, sym, ap, ◌∙◌}
use mathlib.Core.Bool.{Bool, true, false, not, cond, ◌&&◌, ◌||◌, and-false, or-true, or-false, false≢true}
use mathlib.Core.List.{List, ◌++◌}
use native.Mathlib.Omega.{arith}
use lib.Dec.{eqb, ltb}
use lib.ListN.{length, get_or, set, take, drop, replicate, get_or-replicate, get_or-append}
use lib.Seq.{get_or-set_same, get_or-set_other, get_or-drop, get_or-append_right, ext_get_or}
use borrow.Rule.Slice.PartMut.{mid_of, post_of, put_mid, same_len_mid, take_put, drop_put}
use Rattle.std.proofs.lemmas.List.{get_or-take, length-take-le, length-drop}
use borrow.Author.Tests.{eq-eqb, ne_eqb, lt-ltb, le-ltb}
use Rattle.packed.specs.Bytes.{same}
use Rattle.packed.proofs.Laws.{same_sound, same_complete}
use Rattle.csdl.specs.Search.{any_from, tab}
use Rattle.csdl.proofs.Logic.{any_found, any_none, any_of, none_any, tab-length, tab-at, equal_or_not, below_or_not}
use Rattle.type_hierarchy.specs.Sets.{member, Members}
use Rattle.type_hierarchy.proofs.SetLaws.{member-none, bits_same}
use Rattle.type_names.specs.Wide.{wide, MembersWide, one_only, unlike_wide, with_row}

-- The empty set.
pub wide-none : (p : ℕ) → p < 512 → wide (replicate 8 0) 0 p ≡ false
unfolding wide
wide-none p h = let k : 0 + p / 64 < 8 = omega arith in rw (get_or-replicate {A = ℕ} 8 (0 + p / 64) 0 0 k) (member-none (p % 64))

same_digit : (p q : ℕ) → q / 64 ≡ p / 64 → eqb (p % 64) (q % 64) ≡ eqb p q
same_digit p q h = equal_or_not p q (λ z. rw (z, eq-eqb (q % 64) (q % 64) refl, eq-eqb q q refl)) (λ z. rw (ne_eqb p q z) (ne_eqb (p % 64) (q % 64) (λ y. z (omega (arith, y, h)))))

-- One number more, in the number of 64 bits that has it.
module _ (words : List ℕ) (p v : ℕ) (size : length words ≡ 8) (small : p < 512) (more : Members 64 v (λ i. member (get_or words (p / 64) 0) i || eqb (p % 64) i)) where
  pub wide_with : MembersWide (set words (p / 64) v) 0 (λ q. wide words 0 q || eqb p q)
  unfolding wide
  wide_with q h =
      let e : 0 + q / 64 ≡ q / 64 = omega arith in
      equal_or_not (q / 64) (p / 64)
      (λ z. rw (e, z, get_or-set_same words (p / 64) v 0 (rw size (omega arith)), more (q % 64) (omega arith), same_digit p q z))
      (λ z. rw (e, get_or-set_other words (p / 64) (q / 64) v 0 z, ne_eqb p q (λ y. z (omega (arith, y)))) (sym (or-false (member (get_or words (q / 64) 0) (q % 64)))))

-- The numbers below p that pass a test, and one more.
module _ (test : ℕ → Bool) (p q : ℕ) where
  pub below_with : test p ≡ true → (ltb q p && test q) || eqb p q ≡ ltb q (p + 1) && test q
  below_with t =
      equal_or_not p q
      (λ z. rw (← z, eq-eqb p p refl, lt-ltb p (p + 1) (omega arith), t) (or-true (ltb p p && true)))
      (λ z. rw (ne_eqb p q z, or-false (ltb q p && test q)) (below_or_not q p (λ l. rw (lt-ltb q p l, lt-ltb q (p + 1) (omega arith))) (λ l. rw (le-ltb q p l, le-ltb q (p + 1) (omega (arith, l, z))))))

  pub below_without : test p ≡ false → ltb q p && test q ≡ ltb q (p + 1) && test q
  below_without t =
      equal_or_not q p
      (λ z. rw (z, t) (and-false (ltb p p) ∙ sym (and-false (ltb p (p + 1)))))
      (λ z. below_or_not q p (λ l. rw (lt-ltb q p l, lt-ltb q (p + 1) (omega arith))) (λ l. rw (le-ltb q p l, le-ltb q (p + 1) (omega (arith, l, z)))))

  pub below_none : p ≡ 0 → ltb q p && test q ≡ false
  below_none e = rw (le-ltb q p (omega arith))

only-not : (a b : Bool) → one_only a b ≡ true → a ≡ b → ⊥
only-not true true e q = false≢true e
only-not true false e q = false≢true (sym q)
only-not false true e q = false≢true q
only-not false false e q = false≢true e

only_same : (a b : Bool) → one_only a b ≡ false → a ≡ b
only_same true true e = refl
only_same true false e = e
only_same false true e = sym e
only_same false false e = refl

only_one : (a b : Bool) → (a ≡ b → ⊥) → one_only a b ≡ true
only_one true true n = absurd (n refl)
only_one true false n = refl
only_one false true n = refl
only_one false false n = absurd (n refl)

only_none : (a b : Bool) → a ≡ b → one_only a b ≡ false
only_none true b e = rw (← e)
only_none false b e = sym e

-- A bit in which two numbers differ.
bit_unlike : (a b : ℕ) → a < 2 ^ 64 → b < 2 ^ 64 → (a ≡ b → ⊥) → (i : ℕ) × (i < 64) × (member a i ≡ member b i → ⊥)
bit_unlike a b h k n = go (any_from (λ i. one_only (member a i) (member b i)) 0 64) refl
  where
    go : (r : Bool) → any_from (λ i. one_only (member a i) (member b i)) 0 64 ≡ r → (i : ℕ) × (i < 64) × (member a i ≡ member b i → ⊥)
    go true e = let w = any_found (λ i. one_only (member a i) (member b i)) 0 64 e in (w.0, omega (arith, w.2), only-not _ _ w.3)
    go false e = absurd (n (bits_same a b h k (λ i l. only_same _ _ (any_none (λ i. one_only (member a i) (member b i)) 0 64 e i (omega arith) (omega arith)))))

-- What the answer says of two sets: some number is in one of them only, or none.
pub record Unlike (a b : List ℕ) (from : ℕ) (r : Bool) : Type 0 where
  pub some : r ≡ true → (p : ℕ) × (p < 512) × (wide a 0 p ≡ wide b from p → ⊥)
  pub none : r ≡ false → (p : ℕ) → p < 512 → wide a 0 p ≡ wide b from p

-- A number of the set, by the word that has it.
word-bit : (words : List ℕ) (from k i : ℕ) → i < 64 → wide words from (64 * k + i) ≡ member (get_or words (from + k) 0) i
unfolding wide
word-bit words from k i h =
    let d : (64 * k + i) / 64 ≡ k = omega arith in
    let r : (64 * k + i) % 64 ≡ i = omega arith in
    rw (d, r)

module _ (a b : List ℕ) (from : ℕ) where
  abbrev test : ℕ → Bool
  test p = one_only (wide a 0 p) (wide b from p)

  pub unlike_here : (k : ℕ) → k < 8 → get_or a k 0 < 2 ^ 64 → get_or b (from + k) 0 < 2 ^ 64 → (get_or a k 0 ≡ get_or b (from + k) 0 → ⊥) → true ≡ unlike_wide a b from
  unfolding unlike_wide
  unlike_here k h l m n =
      let w = bit_unlike (get_or a k 0) (get_or b (from + k) 0) l m n in
      let z : 0 + k ≡ k = omega arith in
      let x : wide a 0 (64 * k + w.0) ≡ member (get_or a k 0) w.0 = word-bit a 0 k w.0 w.1 ∙ rw z in
      sym (any_of test 0 512 (64 * k + w.0) (omega arith) (omega (arith, w.1)) (only_one _ _ (λ e. w.2 (sym x ∙ e ∙ word-bit b from k w.0 w.1))))

  pub unlike_none : ((j : ℕ) → j < 8 → get_or a j 0 ≡ get_or b (from + j) 0) → false ≡ unlike_wide a b from
  unfolding wide unlike_wide
  unlike_none f = sym (none_any test 0 512 (λ p i h. let z : 0 + p / 64 ≡ p / 64 = omega arith in only_none (wide a 0 p) (wide b from p) (rw (z, f (p / 64) (omega arith)))))

  -- What the comparison of the words tells.
  module _ (part : List ℕ) (sizes : length a ≡ 8) (size : length part ≡ 8) (same_words : (j : ℕ) → j < 8 → get_or part j 0 ≡ get_or b (from + j) 0)
      (fits_a : (j : ℕ) → get_or a j 0 < 2 ^ 64) (fits_b : (j : ℕ) → get_or b j 0 < 2 ^ 64) where
    pub unlike_parts : not (same a part) ≡ unlike_wide a b from
    unlike_parts = go (same a part) refl
      where
        agree : unlike_wide a b from ≡ false → (j : ℕ) → j < 8 → get_or a j 0 ≡ get_or b (from + j) 0
        agree e j h = equal_or_not (get_or a j 0) (get_or b (from + j) 0) (λ z. z) (λ n. absurd (false≢true (sym e ∙ sym (unlike_here j h (fits_a j) (fits_b (from + j)) n))))

        all_agree : same a part ≡ false → unlike_wide a b from ≡ false → ⊥
        all_agree q e = false≢true (sym q ∙ same_complete _ _ (ext_get_or 0 a part (sizes ∙ sym size) (λ j l. let h : j < 8 = omega (arith, l, sizes) in agree e j h ∙ sym (same_words j h))))

        differ : same a part ≡ false → (r : Bool) → unlike_wide a b from ≡ r → true ≡ unlike_wide a b from
        differ q true e = sym e
        differ q false e = absurd (all_agree q e)

        go : (r : Bool) → same a part ≡ r → not (same a part) ≡ unlike_wide a b from
        go true q = rw q (unlike_none (λ j h. ap (λ (l : List ℕ). get_or l j 0) (same_sound a part q) ∙ same_words j h))
        go false q = rw q (differ q (unlike_wide a b from) refl)

  pub unlike_sets : (r : Bool) → r ≡ unlike_wide a b from → Unlike a b from r
  unfolding unlike_wide
  unlike_sets r e = record {
    some = λ t. let w = any_found test 0 512 (sym e ∙ t) in (w.0, omega (arith, w.2), only-not _ _ w.3);
    none = λ t p h. only_same _ _ (any_none test 0 512 (sym e ∙ t) p (omega arith) (omega arith));
  }

-- ---- a row written
module _ (rows row : List ℕ) (t : ℕ) where
  abbrev entry : ℕ → ℕ
  entry i = cond (eqb (i / 8) t) (get_or row (i % 8) 0) (get_or rows i 0)

  pub row_written : (next : List ℕ) → length next ≡ 512 → ((j : ℕ) → j < 8 → get_or next (8 * t + j) 0 ≡ get_or row j 0) → ((i : ℕ) → (i / 8 ≡ t → ⊥) → get_or next i 0 ≡ get_or rows i 0) → next ≡ with_row rows row t
  unfolding with_row
  row_written next size done kept =
      ext_get_or 0 next (tab entry 0 512) (size ∙ sym (tab-length entry 0 512)) (λ i l. at i ∙ sym (tab-at entry 0 512 i (omega (arith, l, size))))
    where
      at : (i : ℕ) → get_or next i 0 ≡ entry i
      at i = equal_or_not (i / 8) t
          (λ z. let q : i ≡ 8 * t + i % 8 = omega (arith, z) in ap (λ (x : ℕ). get_or next x 0) q ∙ done (i % 8) (omega arith) ∙ rw (eq-eqb (i / 8) t z))
          (λ z. kept i z ∙ rw (ne_eqb (i / 8) t z))

  -- The words of the row put back in their place.
  pub row_put : (k : ℕ) → length rows ≡ 512 → length row ≡ 8 → t < 64 → k ≡ 8 → put_mid (8 * t) k rows row ≡ with_row rows row t
  row_put k size eight small e =
      row_written next (same_len_mid (8 * t) k rows row (eight ∙ sym mid) ∙ size) done
      (λ i n. below_or_not i (8 * t)
      (λ l. sym (get_or-take (8 * t) next i 0 l) ∙ ap (λ (x : List ℕ). get_or x i 0) (take_put (8 * t) k rows row start) ∙ get_or-take (8 * t) rows i 0 l)
      (λ l. let h : 8 * t + k + (i - (8 * t + k)) ≡ i = omega (arith, l, n, e) in
      ap (λ (x : ℕ). get_or next x 0) (sym h) ∙ sym (get_or-drop (8 * t + k) next (i - (8 * t + k)) 0) ∙ ap (λ (x : List ℕ). get_or x (i - (8 * t + k)) 0) after ∙ get_or-drop (8 * t + k) rows (i - (8 * t + k)) 0 ∙ ap (λ (x : ℕ). get_or rows x 0) h))
    where
      next : List ℕ
      next = put_mid (8 * t) k rows row

      start : 8 * t ≤ length rows
      start = omega (arith, size, small)

      mid : length (mid_of (8 * t) k rows) ≡ 8
      mid = length-take-le k (drop (8 * t) rows) (rw (length-drop (8 * t) rows) (omega (arith, size, small, e))) ∙ e

      after : drop (8 * t + k) next ≡ drop (8 * t + k) rows
      after =
          let z : 8 * t + k - 8 * t ≡ k = omega arith in
          rw z at (drop_put (8 * t) (8 * t + k) rows row (omega arith) (omega (arith, size, small, e)) (rw z (eight ∙ sym e)))

      done : (j : ℕ) → j < 8 → get_or next (8 * t + j) 0 ≡ get_or row j 0
      done j h =
          let d = length-take-le (8 * t) rows start in
          let z : 8 * t + j - length (take (8 * t) rows) ≡ j = omega (arith, d) in
          get_or-append_right (take (8 * t) rows) (row ++ post_of (8 * t) k rows) (8 * t + j) 0 (omega (arith, d)) ∙ ap (λ (x : ℕ). get_or (row ++ post_of (8 * t) k rows) x 0) z
          ∙ get_or-append row (post_of (8 * t) k rows) 0 j (omega (arith, eight, h))

  -- Row t is the set, and the others are as they were.
  pub record Replaced (next : List ℕ) : Type 0 where
    pub size : length next ≡ 512
    pub here : (p : ℕ) → p < 512 → wide next (8 * t) p ≡ wide row 0 p
    pub other : (u p : ℕ) → u < 64 → (u ≡ t → ⊥) → p < 512 → wide next (8 * u) p ≡ wide rows (8 * u) p

  pub replaced : (next : List ℕ) → t < 64 → next ≡ with_row rows row t → Replaced next
  unfolding wide with_row
  replaced next s e = record {
    size = ap (λ (l : List ℕ). length l) e ∙ tab-length entry 0 512;
    here = λ p l.
        let d : (8 * t + p / 64) / 8 ≡ t = omega arith in
        let m : (8 * t + p / 64) % 8 ≡ 0 + p / 64 = omega arith in
        ap (λ (x : ℕ). member x (p % 64)) (at (8 * t + p / 64) (omega arith) ∙ rw (eq-eqb ((8 * t + p / 64) / 8) t d, m));
    other = λ u p k n l.
        ap (λ (x : ℕ). member x (p % 64)) (at (8 * u + p / 64) (omega arith) ∙ rw (ne_eqb ((8 * u + p / 64) / 8) t (λ y. n (omega (arith, y, l)))));
  }
    where
      at : (i : ℕ) → i < 512 → get_or next i 0 ≡ entry i
      at i h = ap (λ (l : List ℕ). get_or l i 0) e ∙ tab-at entry 0 512 i h
