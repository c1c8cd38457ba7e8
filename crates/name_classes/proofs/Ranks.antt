-- What the ranks of the names tell. Assumes nothing.
use Prim.Native.Nat.{ℕ, suc, ◌+◌, ◌≤◌, ◌<◌}
use mathlib.Core.Path.{◌≡◌, refl, sym, ap, ◌∙◌}
use mathlib.Core.List.{List}
use mathlib.Core.Bool.{Bool, true, false, false≢true, and-true}
use native.Mathlib.Omega.{arith}
use lib.Dec.{eqb}
use lib.ListN.{length, get_or, take}
use Rattle.std.proofs.lemmas.List.{get_or-take, length-take-le}
use borrow.Author.Tests.{eq-eqb, eqb-true}
use Rattle.packed.specs.Bytes.{same}
use Rattle.packed.proofs.Laws.{same_sound, same_complete}
use Rattle.csdl.specs.Search.{first_from, one_if}
use Rattle.csdl.proofs.Logic.{not_so, first-is, none_first, sum_same, below_or_not, equal_or_not}
use Rattle.name_classes.specs.Order.{before}
use Rattle.name_classes.specs.Classes.{is_first, name_count, name_rank, Sorted, Stands, first_at, Ranked}
use Rattle.name_classes.proofs.Before.{before_trans, before_self, apart}
use Rattle.name_classes.proofs.Placed.{Placed, placed, stands_at}
use Rattle.name_classes.proofs.Counting.{count-front}
use Rattle.name_classes.proofs.Filling.{Found, at_found, at_none}

differ : (a b : List ℕ) → (a ≡ b → ⊥) → same a b ≡ false
differ a b n = not_so _ (λ y. n (same_sound a b y))

-- First properties of one name stand at one place.
one_place : (name : ℕ → List ℕ) (order : List ℕ) (firsts : ℕ) → Sorted name order firsts → (i j : ℕ) → i < firsts → j < firsts → name (get_or order i 0) ≡ name (get_or order j 0) → i ≡ j
one_place name order firsts sorted i j h k e = equal_or_not i j (λ z. z) (λ z. below_or_not i j (λ l. absurd (apart _ _ (sorted i j l k) e)) (λ l. absurd (apart _ _ (sorted j i (omega (arith, l, z)) h) (sym e))))

module _ (name : ℕ → List ℕ) (n firsts : ℕ) (index : List ℕ) (f : Ranked name n firsts index) where
  pub small : (p : ℕ) → p < n → get_or index (512 + p) 0 ≤ n
  small p h = let w = placed name n firsts index f p h in rw w.2 (omega (arith, f.below w.0 w.1))

  pub entry_low : n ≤ 512 → (p : ℕ) → p < n → get_or index (512 + p) 0 < 513
  entry_low few p h = omega (arith, small p h)

  -- The entries of the order, as a list of their own.
  pub whole : n ≤ 512 → firsts ≤ length index
  whole few = omega (arith, f.size, f.most)

  pub low_entries : n ≤ 512 → (i : ℕ) → i < length (take firsts index) → get_or (take firsts index) i 0 < 512
  low_entries few i l = let h : i < firsts = omega (arith, l, length-take-le firsts index (whole few)) in rw (get_or-take firsts index i 0 h) (omega (arith, f.below i h))

  -- Two properties have the same entry exactly when they have the same name.
  pub same_class : (p q : ℕ) → p < n → q < n → eqb (get_or index (512 + p) 0) (get_or index (512 + q) 0) ≡ same (name p) (name q)
  same_class p q h k = go (same (name p) (name q)) refl
    where
      a : Placed name index firsts p
      a = placed name n firsts index f p h

      b : Placed name index firsts q
      b = placed name n firsts index f q k

      go : (r : Bool) → same (name p) (name q) ≡ r → eqb (get_or index (512 + p) 0) (get_or index (512 + q) 0) ≡ r
      go true e =
          let z = one_place name index firsts f.sorted a.0 b.0 a.1 b.1 (a.3 ∙ same_sound _ _ e ∙ sym b.3) in
          eq-eqb _ _ (a.2 ∙ ap (λ (i : ℕ). suc (get_or index i 0)) z ∙ sym b.2)
      go false e = not_so _ (λ y.
          let z : get_or index a.0 0 ≡ get_or index b.0 0 = equal (sym a.2 ∙ eqb-true _ _ y ∙ b.2) in
          false≢true (sym e ∙ same_complete _ _ (sym a.3 ∙ ap name z ∙ b.3)))
        where
          equal : suc (get_or index a.0 0) ≡ suc (get_or index b.0 0) → get_or index a.0 0 ≡ get_or index b.0 0
          equal y = omega arith

  -- An entry of the order is the first that has its name.
  pub place_leads : (i : ℕ) → i < firsts → (x : List ℕ) → name (get_or index i 0) ≡ x → first_from (λ q. same (name q) x) 0 n ≡ suc (get_or index i 0)
  place_leads i h x e =
      first-is (λ q. same (name q) x) 0 n (get_or index i 0) (omega arith) (omega (arith, f.below i h)) (same_complete _ _ e)
      (λ j a b. differ (name j) x (λ y. f.first i h j b (y ∙ sym e)))

  pub entry_first : (p : ℕ) → p < n → get_or index (512 + p) 0 ≡ first_from (λ q. same (name q) (name p)) 0 n
  entry_first p h = let w = placed name n firsts index f p h in w.2 ∙ sym (place_leads w.0 w.1 (name p) w.3)

  -- There are as many names as entries; the entry at a place is the first property whose name has so many names before it.
  pub firsts_count : firsts ≡ name_count name n
  firsts_count = sym (sum_same _ _ 0 n (λ p a l. ap one_if (sym (and-true (is_first name p)))) ∙ f.counted (λ p. true) ∙ count-front (λ i. true) firsts firsts (omega arith) (λ i l. refl) (λ i l m. absurd (omega arith)))

  rank_of : (i : ℕ) → i < firsts → name_rank name n (name (get_or index i 0)) ≡ i
  rank_of i l =
      f.counted (λ p. before (name p) (name (get_or index i 0)))
      ∙ count-front (λ j. before (name (get_or index j 0)) (name (get_or index i 0))) firsts i (omega arith) (λ j k. f.sorted j i k l)
      (λ j k m. equal_or_not j i (λ z. rw z (before_self (name (get_or index i 0)))) (λ z. not_so _ (λ t. false≢true (sym (before_self (name (get_or index i 0))) ∙ before_trans _ _ _ (f.sorted i j (omega (arith, k, z)) m) t))))

  pub place-first : (i : ℕ) → i < firsts → suc (get_or index i 0) ≡ first_from (λ p. eqb (name_rank name n (name p)) i) 0 n
  place-first i l =
      sym (first-is (λ p. eqb (name_rank name n (name p)) i) 0 n (get_or index i 0) (omega arith) (omega (arith, f.below i l)) (eq-eqb _ _ (rank_of i l))
      (λ q a h. not_so _ (λ t.
      let w = placed name n firsts index f q (omega (arith, h, f.below i l)) in
      let z : w.0 ≡ i = sym (rank_of w.0 w.1) ∙ ap (λ (x : List ℕ). name_rank name n x) w.3 ∙ eqb-true _ _ t in
      f.first i l q h (sym w.3 ∙ ap (λ (k : ℕ). name (get_or index k 0)) z))))

  -- What the search for a name gives.
  module _ (x : List ℕ) (at r : ℕ) (s : Stands name index firsts x at) (e : r ≡ first_at name index firsts at x) where
    absent : r ≡ 0 → (i : ℕ) → i < firsts → name (get_or index i 0) ≡ x → ⊥
    absent z i h q = below_or_not i at (λ l. apart _ _ (s.front i l) q) (λ l. equal_or_not i at
        (λ y. here y)
        (λ y. behind (omega (arith, l, y))))
      where
        here : i ≡ at → ⊥
        here y = false≢true (sym (at_none name index firsts at x r e z (omega (arith, y, h))) ∙ same_complete _ _ (ap (λ (k : ℕ). name (get_or index k 0)) (sym y) ∙ q))

        behind : at < i → ⊥
        behind l = false≢true (sym (s.back at (omega arith) (omega arith)) ∙ ap (λ (y : List ℕ). before (name (get_or index at 0)) y) (sym q) ∙ f.sorted at i l h)

    pub search_first : r ≡ first_from (λ q. same (name q) x) 0 n
    search_first = equal_or_not r 0
        (λ z. z ∙ sym (none_first (λ q. same (name q) x) 0 n (λ q a b. differ (name q) x (λ y. let w = placed name n firsts index f q (omega (arith, b)) in absent z w.0 w.1 (w.3 ∙ y)))))
        (λ z. let w = at_found name index firsts at x r e z in found w (sym (place_leads at w.below x w.has)) z)
      where
        found : Found name index firsts at x r → suc (get_or index at 0) ≡ first_from (λ q. same (name q) x) 0 n → (r ≡ 0 → ⊥) → r ≡ first_from (λ q. same (name q) x) 0 n
        found w y z = let g : r ≡ suc (get_or index at 0) = omega (arith, w.number, z) in g ∙ y

-- The ranks in a list that has the same entries.
pub ranked-kept : (name : ℕ → List ℕ) (n : ℕ) (old index : List ℕ) → n ≤ 512 → length index ≡ 1793 → get_or index 1536 0 ≡ get_or old 1536 0 → ((i : ℕ) → i < 1024 → get_or index i 0 ≡ get_or old i 0)
    → Ranked name n (get_or old 1536 0) old → Ranked name n (get_or index 1536 0) index
ranked-kept name n old index few size e low f =
    let lows : (i : ℕ) → i < get_or old 1536 0 → get_or index i 0 ≡ get_or old i 0 = (λ i l. low i (omega (arith, l, f.most))) in
    rw e record {
      size = size;
      most = f.most;
      counted = λ test. f.counted test ∙ sym (sum_same _ _ 0 (get_or old 1536 0) (λ i a l. rw (lows i (omega (arith, l)))));
      sorted = λ i j l m. rw (lows i (omega arith), lows j m) (f.sorted i j l m);
      below = λ i l. rw (lows i l) (f.below i l);
      first = λ i l. rw (lows i l) (f.first i l);
      stands = λ q l. let w = placed name n (get_or old 1536 0) old f q l in stands_at name _ _ q (w.0, w.1, rw (low (512 + q) (omega (arith, l)), lows w.0 w.1) w.2, rw (lows w.0 w.1) w.3);
    }
