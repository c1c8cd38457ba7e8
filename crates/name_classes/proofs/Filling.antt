-- Properties put among the firsts one after the other. Assumes nothing.
use Prim.Native.Nat.{ℕ, suc, ◌+◌, ◌-◌, ◌≤◌, ◌<◌}
use mathlib.Core.Path.{◌≡◌, refl, sym, ap, ◌∙◌}
use mathlib.Core.List.{List}
use mathlib.Core.Bool.{Bool, true, false, cond, ◌&&◌, false≢true}
use native.Mathlib.Nat.{zero-add}
use native.Mathlib.Numerals.{add-one}
use native.Mathlib.Omega.{arith}
use lib.Dec.{ltb}
use lib.ListN.{length, get_or, set, length-set, replicate, length-replicate}
use lib.Seq.{get_or-set_same, get_or-set_other}
use Rattle.std.specs.Prelude.{None}
use Rattle.std.specs.Bool.{then_some}
use borrow.Author.Tests.{ltb-true, lt-ltb, le-ltb}
use Rattle.packed.specs.Bytes.{same}
use Rattle.packed.proofs.Laws.{same_sound, same_complete}
use Rattle.name_classes.specs.Order.{before}
use Rattle.csdl.specs.Search.{one_if, any_from, sum_from, count_from, found}
use Rattle.csdl.proofs.Logic.{any_found, any_of, not_so, sum_same, below_or_not, equal_or_not, count_next}
use Rattle.name_classes.specs.Classes.{is_first, Sorted, Stands, first_at, Inserted, Ranked}
use Rattle.name_classes.proofs.Before.{before_trans, before_neither, apart}
use Rattle.name_classes.proofs.Placed.{placed, stands_at}
use Rattle.name_classes.proofs.Counting.{sum_insert}
use Rattle.name_classes.proofs.Sorting.{entry_in, sorted_more}

-- ---- the property at a place, as the code asks for it
module _ (name : ℕ → List ℕ) (order : List ℕ) (at : ℕ) (x : List ℕ) where
  pub at_within : (p : ℕ) (b : Bool) → at < length order → p ≡ get_or order at 0 → b ≡ same (name p) x → then_some b p ≡ found (first_at name order (length order) at x)
  unfolding first_at
  at_within p b l g e = rw (lt-ltb at (length order) l, ← g, ← e) (by_test b)
    where
      by_test : (b : Bool) → then_some b p ≡ found (cond b (suc p) 0)
      by_test true = refl
      by_test false = refl

  pub at_past : length order ≤ at → None ≡ found (first_at name order (length order) at x)
  unfolding first_at
  at_past h = rw (le-ltb at (length order) h)

module _ (name : ℕ → List ℕ) (order : List ℕ) (firsts at : ℕ) (x : List ℕ) where
  none : (p : ℕ) → 0 ≡ suc p → ⊥
  none p q = omega arith

  pub record Found (h : ℕ) : Type 0 where
    pub below : at < firsts
    pub number : h - 1 ≡ get_or order at 0
    pub has : name (get_or order at 0) ≡ x

  pub at_found : (h : ℕ) → h ≡ first_at name order firsts at x → (h ≡ 0 → ⊥) → Found h
  unfolding first_at
  at_found h e n = go (ltb at firsts) (same (name (get_or order at 0)) x) refl refl e
    where
      go : (a b : Bool) → ltb at firsts ≡ a → same (name (get_or order at 0)) x ≡ b → h ≡ cond (a && b) (suc (get_or order at 0)) 0 → Found h
      go true true p q r = record { below = ltb-true at firsts p; number = omega (arith, r); has = same_sound _ _ q }
      go true false p q r = absurd (n r)
      go false b p q r = absurd (n r)

  pub at_none : (h : ℕ) → h ≡ first_at name order firsts at x → h ≡ 0 → at < firsts → same (name (get_or order at 0)) x ≡ false
  unfolding first_at
  at_none h e z l = go (same (name (get_or order at 0)) x) refl
    where
      go : (b : Bool) → same (name (get_or order at 0)) x ≡ b → same (name (get_or order at 0)) x ≡ false
      go true q = absurd (none (get_or order at 0) (sym z ∙ e ∙ rw (lt-ltb at firsts l, q)))
      go false q = q

module _ (name : ℕ → List ℕ) where
  -- One property more has a new name, or the name of one before it.
  count_new : (test : ℕ → Bool) (p : ℕ) → ((q : ℕ) → q < p → name q ≡ name p → ⊥)
      → count_from (λ q. is_first name q && test q) 0 (p + 1) ≡ count_from (λ q. is_first name q && test q) 0 p + one_if (test p)
  count_new test p h =
      let e : any_from (λ q. same (name q) (name p)) 0 p ≡ false = not_so _ (λ t. let w = any_found (λ q. same (name q) (name p)) 0 p t in h w.0 (omega (arith, w.2)) (same_sound _ _ w.3)) in
      count_next (λ q. is_first name q && test q) p ∙ rw e

  count_old : (test : ℕ → Bool) (p q : ℕ) → q < p → name q ≡ name p → count_from (λ k. is_first name k && test k) 0 (p + 1) ≡ count_from (λ k. is_first name k && test k) 0 p
  count_old test p q l h =
      let e : any_from (λ k. same (name k) (name p)) 0 p ≡ true = any_of (λ k. same (name k) (name p)) 0 p q (omega arith) (omega arith) (same_complete _ _ h) in
      count_next (λ k. is_first name k && test k) p ∙ rw e (omega arith)

  pub ranked-start : (v : ℕ) → Ranked name 0 0 (replicate 1793 v)
  unfolding sum_from
  ranked-start v = record {
    size = length-replicate {A = ℕ} 1793 v;
    most = omega arith;
    counted = λ test. refl;
    sorted = λ i j h k. absurd (omega arith);
    below = λ i h. absurd (omega arith);
    first = λ i h. absurd (omega arith);
    stands = λ q h. absurd (omega arith);
  }

  module _ (p firsts : ℕ) (index : List ℕ) (f : Ranked name p firsts index) (room : p < 512) where
    -- The entries when entry 512 + p is v.
    module _ (list : List ℕ) (v : ℕ) (size : length list ≡ 1793) where
      old : (q : ℕ) → (q ≡ 512 + p → ⊥) → get_or (set list (512 + p) v) q 0 ≡ get_or list q 0
      old q h = get_or-set_other list (512 + p) q v 0 h

      low : (i : ℕ) → i < 512 → get_or (set list (512 + p) v) i 0 ≡ get_or list i 0
      low i h = old i (λ y. omega (arith, y, h))

      new : get_or (set list (512 + p) v) (512 + p) 0 ≡ v
      new = get_or-set_same list (512 + p) v 0 (rw size (omega arith))

    pub ranked_old : (at h : ℕ) → h ≡ first_at name index firsts at (name p) → (h ≡ 0 → ⊥) → Ranked name (p + 1) firsts (set index (512 + p) h)
    ranked_old at h e n =
        let w = at_found name index firsts at (name p) h e n in
        let lows : (i : ℕ) → i < firsts → get_or (set index (512 + p) h) i 0 ≡ get_or index i 0 = (λ i l. low index h f.size i (omega (arith, l, f.most))) in
        record {
          size = length-set index (512 + p) h ∙ f.size;
          most = omega (arith, f.most);
          counted = λ test. count_old test p (get_or index at 0) (f.below at w.below) w.has ∙ f.counted test ∙ sym (sum_same _ _ 0 firsts (λ i a l. rw (lows i (omega (arith, l)))));
          sorted = λ i j l m. rw (lows i (omega arith), lows j m) (f.sorted i j l m);
          below = λ i l. rw (lows i l) (omega (arith, f.below i l));
          first = λ i l. rw (lows i l) (f.first i l);
          stands = λ q l. stands_at name _ _ q (equal_or_not q p
              (λ z. (at, w.below, rw (z, new index h f.size, lows at w.below) (omega (arith, n, w.number)), rw (z, lows at w.below) w.has))
              (λ m. let s = placed name p firsts index f q (omega (arith, l, m)) in (s.0, s.1, rw (old index h f.size (512 + q) (λ y. m (omega (arith, y))), lows s.0 s.1) s.2, rw (lows s.0 s.1) s.3)));
        }

    module _ (at h : ℕ) (e : h ≡ first_at name index firsts at (name p)) (z : h ≡ 0) (s : Stands name index firsts (name p) at) (next : List ℕ) (n : Inserted index firsts at p next) where
      -- What stood from the place on comes behind the new name.
      behind_here : at < firsts → before (name p) (name (get_or index at 0)) ≡ true
      behind_here l = go (before (name p) (name (get_or index at 0))) refl
        where
          go : (b : Bool) → before (name p) (name (get_or index at 0)) ≡ b → b ≡ true
          go true q = refl
          go false q =
              absurd (false≢true (sym (at_none name index firsts at (name p) h e z l)
              ∙ same_complete _ _ (before_neither (name (get_or index at 0)) (name p) (s.back at (omega arith) l) q)))

      behind : (i : ℕ) → at ≤ i → i < firsts → before (name p) (name (get_or index i 0)) ≡ true
      behind i l m = equal_or_not i at
          (λ y. rw y (behind_here (omega (arith, y, m))))
          (λ y. before_trans (name p) (name (get_or index at 0)) (name (get_or index i 0)) (behind_here (omega (arith, l, m))) (f.sorted at i (omega (arith, l, y)) m))

      -- So no head has the new name, and no property before p.
      fresh : (i : ℕ) → i < firsts → name (get_or index i 0) ≡ name p → ⊥
      fresh i l q = below_or_not i at (λ m. apart _ _ (s.front i m) q) (λ m. apart _ _ (behind i m l) (sym q))

      unnamed : (q : ℕ) → q < p → name q ≡ name p → ⊥
      unnamed q l y = let w = placed name p firsts index f q l in fresh w.0 w.1 (w.3 ∙ y)

      last : List ℕ
      last = set next (512 + p) (p + 1)

      kept : (j : ℕ) → j < firsts + 1 → get_or last j 0 ≡ get_or next j 0
      unfolding last
      kept j m = low next (p + 1) (n.size ∙ f.size) j (omega (arith, m, f.most))

      -- An entry is an old one in front, the new one, or an old one behind.
      entry : {A : Type 0} (j : ℕ) → j < firsts + 1 → (j < at → get_or last j 0 ≡ get_or index j 0 → A) → (j ≡ at → get_or last j 0 ≡ p → A) → (at < j → get_or last j 0 ≡ get_or index (j - 1) 0 → A) → A
      entry j m a b c = let k = kept j m in entry_in index firsts at p next n j m (λ l u. a l (k ∙ u)) (λ l u. b l (k ∙ u)) (λ l u. c l (k ∙ u))

      ordered : Sorted name last (firsts + 1)
      ordered i j l m = rw (kept i (omega arith), kept j m) (sorted_more index firsts at p next n name f.sorted s.most s.front behind i j l m)

      in_front : (i : ℕ) → i < at → get_or last i 0 ≡ get_or index i 0
      unfolding last
      in_front i h = low next (p + 1) (n.size ∙ f.size) i (omega (arith, h, s.most, f.most)) ∙ n.front i h

      moved_on : (i : ℕ) → at ≤ i → i < firsts → get_or last (suc i) 0 ≡ get_or index i 0
      unfolding last
      moved_on i h l = low next (p + 1) (n.size ∙ f.size) (suc i) (omega (arith, l, f.most)) ∙ n.back i h l

      place : (i : ℕ) → i < firsts → (k : ℕ) × (k < firsts + 1) × (get_or last k 0 ≡ get_or index i 0)
      place i l = below_or_not i at (λ h. (i, omega arith, in_front i h)) (λ h. (suc i, omega arith, moved_on i h l))

      new_place : get_or last at 0 ≡ p
      unfolding last
      new_place = low next (p + 1) (n.size ∙ f.size) at (omega (arith, s.most, f.most)) ∙ n.here

      new_entry : get_or last (512 + p) 0 ≡ p + 1
      unfolding last
      new_entry = new next (p + 1) (n.size ∙ f.size)

      old_entry : (q : ℕ) → q < p → get_or last (512 + q) 0 ≡ get_or index (512 + q) 0
      unfolding last
      old_entry q l = old next (p + 1) (n.size ∙ f.size) (512 + q) (λ y. omega (arith, y, l)) ∙ n.rest (512 + q) (omega (arith, f.most))

      sized : length last ≡ 1793
      unfolding last
      sized = length-set next (512 + p) (p + 1) ∙ n.size ∙ f.size

      one-counted : (test : ℕ → Bool) → count_from (λ i. test (get_or last i 0)) 0 (firsts + 1) ≡ count_from (λ i. test (get_or index i 0)) 0 firsts + one_if (test p)
      one-counted test =
          rw (add-one firsts)
          (sum_insert (λ i. one_if (test (get_or index i 0))) (λ i. one_if (test (get_or last i 0))) (one_if (test p)) 0 at firsts s.most
          (λ i a l. rw (in_front i (omega (arith, l)))) (rw (zero-add at, new_place)) (λ i a l. rw (moved_on i (omega (arith, a)) (omega (arith, l)))))

      new_ranked : Ranked name (p + 1) (firsts + 1) last
      new_ranked = record {
        size = sized;
        most = omega (arith, f.most);
        counted = λ test. count_new test p unnamed ∙ ap (λ (k : ℕ). k + one_if (test p)) (f.counted test) ∙ sym (one-counted test);
        sorted = ordered;
        below = λ i l. entry i l (λ x u. rw u (omega (arith, f.below i (omega (arith, x, s.most))))) (λ x u. rw u (omega arith)) (λ x u. rw u (omega (arith, f.below (i - 1) (omega (arith, x, l)))));
        first = λ i l. entry i l (λ x u. rw u (f.first i (omega (arith, x, s.most)))) (λ x u. rw u unnamed) (λ x u. rw u (f.first (i - 1) (omega (arith, x, l))));
        stands = λ q l. stands_at name _ _ q (equal_or_not q p
            (λ y. (at, omega (arith, s.most), rw (y, new_entry, new_place) (add-one p), rw (y, new_place)))
            (λ m. let w = placed name p firsts index f q (omega (arith, l, m)) in let k = place w.0 w.1 in (k.0, k.1, rw (old_entry q (omega (arith, l, m)), k.2) w.2, rw k.2 w.3)));
      }

      pub ranked_new : Ranked name (p + 1) (firsts + 1) (set next (512 + p) (p + 1))
      unfolding last
      ranked_new = new_ranked

  -- The number of names put into its entry.
  pub ranked_end : (n firsts : ℕ) (index : List ℕ) → n ≤ 512 → Ranked name n firsts index → Ranked name n (get_or (set index 1536 firsts) 1536 0) (set index 1536 firsts)
  ranked_end n firsts index few f =
      let e : get_or (set index 1536 firsts) 1536 0 ≡ firsts = get_or-set_same index 1536 firsts 0 (rw f.size (omega arith)) in
      let low : (i : ℕ) → i < 1536 → get_or (set index 1536 firsts) i 0 ≡ get_or index i 0 = (λ i h. get_or-set_other index 1536 i firsts 0 (λ y. omega (arith, y, h))) in
      let lows : (i : ℕ) → i < firsts → get_or (set index 1536 firsts) i 0 ≡ get_or index i 0 = (λ i l. low i (omega (arith, l, f.most))) in
      rw e record {
        size = length-set index 1536 firsts ∙ f.size;
        most = f.most;
        counted = λ test. f.counted test ∙ sym (sum_same _ _ 0 firsts (λ i a l. rw (lows i (omega (arith, l)))));
        sorted = λ i j l m. rw (lows i (omega arith), lows j m) (f.sorted i j l m);
        below = λ i l. rw (lows i l) (f.below i l);
        first = λ i l. rw (lows i l) (f.first i l);
        stands = λ q l. let w = placed name n firsts index f q l in stands_at name _ _ q (w.0, w.1, rw (low (512 + q) (omega (arith, l)), lows w.0 w.1) w.2, rw (lows w.0 w.1) w.3);
      }
