-- Laws of rows of bits. Assumes nothing.
use Prim.Native.Nat.{ℕ, suc, ◌+◌, ◌-◌, ◌*◌, ◌/◌, ◌%◌, ◌≤◌, ◌<◌}
use mathlib.Core.Path.{◌≡◌, refl, sym, ◌∙◌}
use mathlib.Core.Bool.{Bool, true, false, cond, ◌&&◌, ◌||◌, or-false}
use mathlib.Core.List.{List}
use native.Mathlib.Nat.{sub-zero}
use native.Mathlib.Omega.{arith}
use lib.Bits.{bit_or}
use lib.Dec.{eqb, ltb}
use lib.ListN.{length, get_or, set, length-set, replicate, length-replicate}
use lib.Seq.{get_or-set_same, get_or-set_other}
use borrow.Author.Tests.{eqb-true, eqb-false, eq-eqb, ne_eqb, ltb-true, ltb-false}
use mathlib.Core.Logic.{⊎_elim}
use Rattle.csdl.specs.Search.{any_from}
use Rattle.csdl.proofs.Logic.{not_so, and_cases, or_cases, or_no, equal_or_not}
use Rattle.type_hierarchy.specs.Sets.{member, Members}
use Rattle.type_hierarchy.proofs.SetLaws.{member-none, member-or}
use Rattle.instance_runs.proofs.Fills.{zeros}
use Rattle.instance_containment.specs.Graph.{step_in}
use Rattle.instance_containment.specs.Rows.{in_row, with_step, Steps, Passed}

pub none_in : (v w : ℕ) → in_row (replicate 1024 0) v w ≡ false
unfolding in_row
none_in v w = rw (zeros 1024 (4 * v + w / 64)) (member-none (w % 64))

-- A number plus 1, of at most 256 numbers.
pub no_number : (x : ℕ) → (eqb x 0 || ltb 256 x) ≡ true → (v : ℕ) → v < 256 → x ≡ suc v → ⊥
no_number x e v h q = ⊎_elim (λ p. let z : x ≡ 0 = eqb-true x 0 p in omega (arith, z, q)) (λ p. let l : 256 < x = ltb-true 256 x p in omega (arith, l, q)) (or_cases (eqb x 0) (ltb 256 x) e)

pub a_number : (x : ℕ) → (eqb x 0 || ltb 256 x) ≡ false → (0 < x) × (x ≤ 256)
a_number x e =
    let p = or_no (eqb x 0) (ltb 256 x) e in
    let z : x ≡ 0 → ⊥ = eqb-false x 0 p.0 in
    (omega (arith, z), ltb-false 256 x p.1)

module _ (rows : List ℕ) (size : length rows ≡ 1024) where
  pub no_step : (from to : ℕ) → ((v w : ℕ) → v < 256 → w < 256 → from ≡ suc v → to ≡ suc w → ⊥) → Steps (with_step rows from to) rows
  no_step from to n = record { size = size; row = λ v w h l. rw (none v w h l) }
    where
      none : (v w : ℕ) → v < 256 → w < 256 → eqb to (suc w) && eqb from (suc v) ≡ false
      none v w h l =
          not_so (eqb to (suc w) && eqb from (suc v))
          (λ e. let p = and_cases (eqb to (suc w)) (eqb from (suc v)) e in n v w h l (eqb-true from (suc v) p.1) (eqb-true to (suc w) p.0))

  module _ (from to x : ℕ) (f : 0 < from) (g : from ≤ 256) (t : 0 < to) (u : to ≤ 256)
      (more : Members 64 x (λ i. member (get_or rows (4 * (from - 1) + (to - 1) / 64) 0) i || eqb ((to - 1) % 64) i)) where
    same_bit : (v w : ℕ) → 4 * v + w / 64 ≡ 4 * (from - 1) + (to - 1) / 64 → w < 256 → (eqb to (suc w) && eqb from (suc v)) ≡ eqb ((to - 1) % 64) (w % 64)
    same_bit v w e l =
        let z : from ≡ suc v = omega (arith, e, l, f, t, u) in
        rw (eq-eqb from (suc v) z)
        (equal_or_not to (suc w)
        (λ q. let r : (to - 1) % 64 ≡ w % 64 = omega (arith, q) in rw (eq-eqb to (suc w) q, eq-eqb ((to - 1) % 64) (w % 64) r))
        (λ q. rw (ne_eqb to (suc w) q) (sym (ne_eqb ((to - 1) % 64) (w % 64) (λ r. q (omega (arith, r, e, z, t)))))))

    pub with_step_lem : Steps (with_step rows from to) (set rows (4 * (from - 1) + (to - 1) / 64) x)
    unfolding in_row
    with_step_lem = record { size = length-set rows (4 * (from - 1) + (to - 1) / 64) x ∙ size; row = λ v w h l. at v w h l }
      where
        at : (v w : ℕ) → v < 256 → w < 256
            → member (get_or (set rows (4 * (from - 1) + (to - 1) / 64) x) (4 * v + w / 64) 0) (w % 64)
            ≡ (eqb to (suc w) && eqb from (suc v) || member (get_or rows (4 * v + w / 64) 0) (w % 64))
        at v w h l =
            equal_or_not (4 * v + w / 64) (4 * (from - 1) + (to - 1) / 64)
            (λ e. rw (same_bit v w e l, e, get_or-set_same rows (4 * (from - 1) + (to - 1) / 64) x 0 (omega (arith, f, g, t, u, size)), more (w % 64) (omega arith)) (turned (member (get_or rows (4 * (from - 1) + (to - 1) / 64) 0) (w % 64)) (eqb ((to - 1) % 64) (w % 64))))
            (λ e. rw (get_or-set_other rows (4 * (from - 1) + (to - 1) / 64) (4 * v + w / 64) x 0 e, apart v w e))
          where
            turned : (p q : Bool) → p || q ≡ q || p
            turned true true = refl
            turned true false = refl
            turned false true = refl
            turned false false = refl

            apart : (v w : ℕ) → (4 * v + w / 64 ≡ 4 * (from - 1) + (to - 1) / 64 → ⊥) → eqb to (suc w) && eqb from (suc v) ≡ false
            apart v w e =
                not_so (eqb to (suc w) && eqb from (suc v))
                (λ q. let p = and_cases (eqb to (suc w)) (eqb from (suc v)) q in
                let a : from ≡ suc v = eqb-true from (suc v) p.1 in
                let b : to ≡ suc w = eqb-true to (suc w) p.0 in
                e (omega (arith, a, b)))

-- Row v takes in row c, one number of 64 bits a turn.
module _ (v c : ℕ) (before : List ℕ) where
  pub record Joining (rows : List ℕ) (j : ℕ) : Type 0 where
    pub size : length rows ≡ 1024
    pub done : (i : ℕ) → i < j → get_or rows (4 * v + i) 0 ≡ bit_or (get_or before (4 * v + i) 0) (get_or before (4 * c + i) 0)
    pub still : (i : ℕ) → j ≤ i → get_or rows (4 * v + i) 0 ≡ get_or before (4 * v + i) 0
    pub kept : (i : ℕ) → (i / 4 ≡ v → ⊥) → get_or rows i 0 ≡ get_or before i 0

  pub joining_start : length before ≡ 1024 → Joining before 0
  joining_start s = record { size = s; done = λ i h. absurd (omega arith); still = λ i h. refl; kept = λ i h. refl }

  module _ (rows : List ℕ) (j : ℕ) (p : Joining rows j) (few : j < 4) (low : v < 256) where
    -- row c has not changed yet from j on
    other_row : get_or rows (4 * c + j) 0 ≡ get_or before (4 * c + j) 0
    other_row =
        equal_or_not c v (λ e. rw e (p.still j (omega arith)))
        (λ e. p.kept (4 * c + j) (λ q. e (omega (arith, q, few))))

    pub joining_more : Joining (set rows (4 * v + j) (bit_or (get_or rows (4 * v + j) 0) (get_or rows (4 * c + j) 0))) (j + 1)
    joining_more = record {
      size = length-set rows (4 * v + j) (bit_or (get_or rows (4 * v + j) 0) (get_or rows (4 * c + j) 0)) ∙ p.size;
      done = λ i h. equal_or_not i j
          (λ e. rw (e, get_or-set_same rows (4 * v + j) (bit_or (get_or rows (4 * v + j) 0) (get_or rows (4 * c + j) 0)) 0 (omega (arith, p.size, few, low)), p.still j (omega arith), other_row))
          (λ e. get_or-set_other rows (4 * v + j) (4 * v + i) (bit_or (get_or rows (4 * v + j) 0) (get_or rows (4 * c + j) 0)) 0 (λ q. e (omega (arith, q))) ∙ p.done i (omega (arith, h, e)));
      still = λ i h. get_or-set_other rows (4 * v + j) (4 * v + i) (bit_or (get_or rows (4 * v + j) 0) (get_or rows (4 * c + j) 0)) 0 (λ q. let z : 4 * v + i ≡ 4 * v + j = q in omega (arith, z, h)) ∙ p.still i (omega arith);
      kept = λ i h. get_or-set_other rows (4 * v + j) i (bit_or (get_or rows (4 * v + j) 0) (get_or rows (4 * c + j) 0)) 0 (λ q. h (omega (arith, q, few))) ∙ p.kept i h;
    }

  pub joined : (rows : List ℕ) (j : ℕ) → 4 ≤ j → in_row before v c ≡ true → Joining rows j → Passed v c before rows
  unfolding in_row
  joined rows j h e p = record {
    size = p.size;
    here = λ w l. rw (p.done (w / 64) (omega (arith, h, l)), member-or (get_or before (4 * v + w / 64) 0) (get_or before (4 * c + w / 64) 0) (w % 64), e);
    other = λ u w n l. rw (p.kept (4 * u + w / 64) (λ q. n (omega (arith, q, l))));
  }

  pub not_joined : length before ≡ 1024 → in_row before v c ≡ false → Passed v c before before
  not_joined s e = record { size = s; here = λ w l. rw e (sym (or-false (in_row before v w))); other = λ u w n l. refl }

-- The steps through the items from k on, of c.
unfoldable pub steps_from : (ℕ → ℕ) → (ℕ → ℕ) → ℕ → ℕ → ℕ → ℕ → Bool
steps_from from to c k v w = any_from (λ i. eqb (to i) (suc w) && eqb (from i) (suc v)) k (c - k)

module _ (from to : ℕ → ℕ) (c : ℕ) where
  pub from_start : Steps (steps_from from to c c) (replicate 1024 0)
  unfolding steps_from any_from
  from_start = record { size = length-replicate {A = ℕ} 1024 0; row = λ v w h l. let z : c - c ≡ 0 = omega arith in none_in v w ∙ rw z }

  pub from_more : (k j f t : ℕ) (rows next : List ℕ) → j ≡ k + 1 → k < c → f ≡ from k → t ≡ to k → Steps (steps_from from to c j) rows → Steps (with_step rows f t) next
      → Steps (steps_from from to c k) next
  unfolding steps_from any_from
  from_more k j f t rows next z h p q s n =
      record { size = n.size; row = λ v w a b. n.row v w a b ∙ rw (s.row v w a b, p, q, z, one) (first (eqb (to k) (suc w) && eqb (from k) (suc v)) _) }
    where
      one : c - k ≡ suc (c - (k + 1))
      one = omega arith

      first : (x y : Bool) → x || y ≡ cond x true y
      first true y = refl
      first false y = refl

  pub from_end_lem : (k : ℕ) (rows : List ℕ) → k ≤ 0 → Steps (steps_from from to c k) rows → Steps (step_in from to c) rows
  unfolding steps_from step_in
  from_end_lem k rows h s = let z : k ≡ 0 = omega arith in record { size = s.size; row = λ v w a b. s.row v w a b ∙ rw (z, sub-zero c) }
