-- Arrays that are changed over a run of places, one place a turn. Assumes nothing.
use Prim.Native.Nat.{ℕ, zero, suc, ◌+◌, ◌-◌, ◌≤◌, ◌<◌, min}
use mathlib.Core.Path.{◌≡◌, refl, sym, ap, ◌∙◌}
use mathlib.Core.Bool.{Bool, true, false, cond, ◌&&◌, and-false}
use mathlib.Core.List.{List}
use native.Mathlib.Omega.{arith}
use lib.Dec.{eqb, ltb, leb}
use native.Mathlib.Nat.{sub-zero}
use native.Mathlib.Numerals.{add-one}
use lib.ListN.{length, get_or, set, length-set, replicate, length-replicate}
use lib.Seq.{get_or-set_same, get_or-set_other, ext_get_or}
use borrow.Author.Tests.{eqb-true, eqb-false, ltb-true, ltb-false, leb-true, lt-ltb, le-ltb, le-leb}
use Rattle.csdl.specs.Search.{first_from, sum_from, count_from, one_if, tab}
use Rattle.csdl.specs.declared.Run.{Run}
use Rattle.csdl.specs.Model.{in_run}
use Rattle.csdl.proofs.Logic.{tab-length, tab-at}
use Rattle.instance_runs.specs.Tables.{Tabulates, changed, left_by, to_two}
use Rattle.csdl.proofs.Loops.{one_more, none_left}

-- An array that has f at each of its places is the table of f, and the other way round.
module _ (f : ℕ → ℕ) (n : ℕ) (array : List ℕ) where
  pub is_table : Tabulates f n array → array ≡ tab f 0 n
  is_table h =
      ext_get_or 0 array (tab f 0 n) (h.size ∙ sym (tab-length f 0 n)) (λ k l. h.at k (omega (arith, h.size)) ∙ sym (tab-at f 0 n k (omega (arith, h.size))))

  pub tabulates : array ≡ tab f 0 n → Tabulates f n array
  tabulates e = record {
    size = ap (λ (l : List ℕ). length l) e ∙ tab-length f 0 n;
    at = λ k h. ap (λ (l : List ℕ). get_or l k 0) e ∙ tab-at f 0 n k h;
  }

pub tabulates-same : {f : ℕ → ℕ} {n : ℕ} {l : List ℕ} (g : ℕ → ℕ) → Tabulates f n l → ((k : ℕ) → f k ≡ g k) → Tabulates g n l
tabulates-same g h e = record { size = h.size; at = λ k l. h.at k l ∙ e k }

-- What an array holds after a change, place by place.
record Changed (g : ℕ → ℕ) (r : Run) (before after : List ℕ) : Type 0 where
  pub size : length after ≡ length before
  pub at : (k : ℕ) → k < length before → get_or after k 0 ≡ cond (in_run r k) (g (get_or before k 0)) (get_or before k 0)

changes : (g : ℕ → ℕ) (r : Run) (before after : List ℕ) → after ≡ changed g r before → Changed g r before after
unfolding changed
changes g r before after e = let h = tabulates _ _ after e in record { size = h.size; at = h.at }

-- Two tests that are the same, by what they say.
ltb-same : (w k l : ℕ) → (w < k → w < l) → (k ≤ w → l ≤ w) → ltb w k ≡ ltb w l
ltb-same w k l f g = go (ltb w k) refl
  where
    go : (b : Bool) → ltb w k ≡ b → ltb w k ≡ ltb w l
    go true e = e ∙ sym (lt-ltb w l (f (ltb-true w k e)))
    go false e = e ∙ sym (le-ltb w l (g (ltb-false w k e)))

-- w is of the places from a up to k, without k.
abbrev span : ℕ → ℕ → ℕ → Bool
span a k w = leb a w && ltb w k

span_same : (a k l w : ℕ) → (a ≤ w → ltb w k ≡ ltb w l) → span a k w ≡ span a l w
span_same a k l w f = go (leb a w) refl
  where
    go : (b : Bool) → leb a w ≡ b → span a k w ≡ span a l w
    go true e = ap (λ (x : Bool). leb a w && x) (f (leb-true a w e))
    go false e = rw e

span_none : (a w : ℕ) → span a a w ≡ false
span_none a w = go (leb a w) refl
  where
    go : (b : Bool) → leb a w ≡ b → span a a w ≡ false
    go true e = rw (le-ltb w a (leb-true a w e)) (and-false (leb a w))
    go false e = rw e

-- The array after g was applied to the places from `first` up to k.
pub record Partly (g : ℕ → ℕ) (first k : ℕ) (before after : List ℕ) : Type 0 where
  pub size : length after ≡ length before
  pub at : (w : ℕ) → w < length before → get_or after w 0 ≡ cond (span first k w) (g (get_or before w 0)) (get_or before w 0)

pub partly_start : (g : ℕ → ℕ) (first : ℕ) (before : List ℕ) → Partly g first first before before
partly_start g first before = record { size = refl; at = λ w h. rw (span_none first w) }

pub partly_more : (g : ℕ → ℕ) (first k y : ℕ) (before after : List ℕ) → Partly g first k before after → first ≤ k → k < length before
    → y ≡ g (get_or after k 0)
    → Partly g first (k + 1) before (set after k y)
partly_more g first k y before after p f h e =
    record { size = length-set after k y ∙ p.size; at = λ w l. go w l (eqb w k) refl }
  where
    here : y ≡ g (get_or before k 0)
    here = e ∙ ap g (p.at k h ∙ rw (le-ltb k k (omega arith), and-false (leb first k)))

    go : (w : ℕ) → w < length before → (b : Bool) → eqb w k ≡ b
        → get_or (set after k y) w 0 ≡ cond (span first (k + 1) w) (g (get_or before w 0)) (get_or before w 0)
    go w l true q =
        let z : w ≡ k = eqb-true w k q in
        rw (z, get_or-set_same after k y 0 (omega (arith, p.size)), le-leb first k f, lt-ltb k (k + 1) (omega arith)) here
    go w l false q =
        let n : w ≡ k → ⊥ = eqb-false w k q in
        rw (get_or-set_other after k w y 0 n, span_same first (k + 1) k w (λ i. ltb-same w (k + 1) k (λ j. omega (arith, n)) (λ j. omega arith))) (p.at w l)

pub partly_all : (g : ℕ → ℕ) (first count k : ℕ) (before after : List ℕ) → Partly g first k before after → k ≤ first + count
    → min (first + count) (length before) ≤ k
    → after ≡ changed g (record { first = first; count = count }) before
unfolding changed
partly_all g first count k before after p f e =
    is_table _ _ after
    (record {
      size = p.size;
      at =
          λ w l.
          p.at w l
          ∙ rw (span_same first k (first + count) w (λ i. ltb-same w k (first + count) (λ j. omega arith) (λ j. omega arith)));
    })

-- ---- going through the runs from the last to the first
pub zeros : (n w : ℕ) → ◌≡◌ {A = ℕ} (get_or (replicate n 0) w 0) 0
zeros zero w = refl
zeros (suc n) zero = refl
zeros (suc n) (suc w) = zeros n w

-- What the runs from v on, of n, leave at place k.
unfoldable pub left_in : (ℕ → Run) → (ℕ → ℕ → ℕ) → ℕ → ℕ → ℕ → ℕ
left_in run g n v k = left_by run g k v (n - v)

module _ (run : ℕ → Run) (g : ℕ → ℕ → ℕ) (n m : ℕ) where
  pub left-none : (v : ℕ) → n ≤ v → Tabulates (left_in run g n v) m (replicate m 0)
  unfolding left_in left_by
  left-none v h = record { size = length-replicate m 0; at = λ k l. zeros m k ∙ rw (none_left n v h) }

  -- Run u, the one before v, is r.
  pub left_down : (u v : ℕ) (r : Run) → v ≡ u + 1 → u < n → (r.first ≡ (run u).first) × (r.count ≡ (run u).count) → (before after : List ℕ)
      → Tabulates (left_in run g n v) m before → after ≡ changed (λ x. g u x) r before
      → Tabulates (left_in run g n u) m after
  unfolding left_in left_by
  left_down u v r e h p before after i made =
      let c = changes _ _ before after made in
      record { size = c.size ∙ i.size; at = λ k l. c.at k (omega (arith, i.size)) ∙ rw (i.at k l, p.0, p.1, one_more n u h, e) }

  pub left-all : (v : ℕ) (l : List ℕ) → v ≤ 0 → Tabulates (left_in run g n v) m l → Tabulates (λ k. left_by run g k 0 n) m l
  unfolding left_in
  left-all v l h i = let z : v ≡ 0 = omega arith in record { size = i.size; at = λ k b. i.at k b ∙ rw (z, sub-zero n) }

-- What is left where each run leaves its number plus 1, and where each adds one, up to 2.
module _ (run : ℕ → Run) (k : ℕ) where
  pub first-left : (n i : ℕ) → left_by run (λ v x. v + 1) k i n ≡ first_from (λ u. in_run (run u) k) i n
  unfolding left_by first_from
  first-left zero i = refl
  first-left (suc n) i = rw (first-left n (i + 1), add-one i)

  pub count_left : (n i : ℕ) → left_by run (λ v x. to_two (x + 1)) k i n ≡ to_two (count_from (λ u. in_run (run u) k) i n)
  unfolding left_by sum_from
  count_left zero i = refl
  count_left (suc n) i = rw (count_left n (i + 1)) (go (in_run (run i) k) (count_from (λ u. in_run (run u) k) (i + 1) n))
    where
      go : (t : Bool) (s : ℕ) → cond t (to_two (to_two s + 1)) (to_two s) ≡ to_two (one_if t + s)
      go true s = omega arith
      go false s = omega arith
