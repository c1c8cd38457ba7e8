-- First properties in the order of their names. Assumes nothing.
use Prim.Native.Nat.{ℕ, suc, ◌+◌, ◌-◌, ◌≤◌, ◌<◌}
use mathlib.Core.Path.{◌≡◌, refl, ◌∙◌}
use mathlib.Core.List.{List}
use mathlib.Core.Bool.{true, false}
use native.Mathlib.Omega.{arith}
use lib.ListN.{length, get_or, set, take, length-set}
use lib.Seq.{get_or-set_same, get_or-set_other}
use Rattle.std.proofs.lemmas.List.{get_or_default, get_or-take, length-take-le}
use Rattle.std.specs.List.{CopiedTo, SameBelow, SameFrom}
use Rattle.std.specs.List.Sorted.{IsPartitionedBy, IsPartitionPoint}
use borrow.Author.Tests.{eq-eqb, ne_eqb, lt-ltb, le-ltb, le-leb, lt-leb}
use Rattle.csdl.proofs.Logic.{equal_or_not, below_or_not}
use Rattle.name_classes.specs.Order.{before}
use Rattle.name_classes.specs.Classes.{Sorted, Stands, first_at, Inserted, entry_after}
use Rattle.name_classes.proofs.Before.{before_trans}

-- ---- the first entries as a list of their own, and what `partition_point` answers over it
module _ (name : ℕ → List ℕ) (order : List ℕ) (firsts : ℕ) (whole : firsts ≤ length order) where
  part_size : length (take firsts order) ≡ firsts
  part_size = length-take-le firsts order whole

  pub part_same : (i : ℕ) → i < firsts → get_or (take firsts order) i 0 ≡ get_or order i 0
  part_same i h = get_or-take firsts order i 0 h

  pub sorted_part : Sorted name order firsts → Sorted name (take firsts order) (length (take firsts order))
  sorted_part sorted i j l h = let m : j < firsts = omega (arith, h, part_size) in rw (part_same i (omega arith), part_same j m) (sorted i j l m)

  pub stands_part : (x : List ℕ) (at : ℕ) → Stands name (take firsts order) (length (take firsts order)) x at → Stands name order firsts x at
  stands_part x at s = record {
    most = omega (arith, s.most, part_size);
    front = λ i l. rw (← part_same i (omega (arith, l, s.most, part_size))) (s.front i l);
    back = λ i l m. rw (← part_same i m) (s.back i l (omega (arith, m, part_size)));
  }

  pub first_at_part : (x : List ℕ) (at : ℕ) → first_at name (take firsts order) (length (take firsts order)) at x ≡ first_at name order firsts at x
  unfolding first_at
  first_at_part x at = rw part_size (below_or_not at firsts (λ l. rw (part_same at l) refl) (λ l. rw (le-ltb at firsts l)))

module _ (name : ℕ → List ℕ) (order : List ℕ) (sorted : Sorted name order (length order)) (x : List ℕ) where
  pub parted : IsPartitionedBy (λ p. before (name p) x) order
  parted i j d l h e =
      equal_or_not i j
      (λ z. rw z e)
      (λ n. let a = get_or_default order i d 0 (omega arith) in let b = get_or_default order j d 0 h in
      rw a (before_trans (name (get_or order i 0)) (name (get_or order j 0)) x (sorted i j (omega (arith, l, n)) h) (rw b at e)))

  pub stands : (at : ℕ) → at ≤ length order → IsPartitionPoint (λ p. before (name p) x ≡ true) (λ p. before (name p) x ≡ false) order at → Stands name order (length order) x at
  stands at most point = record { most = most; front = λ i l. point.0 i 0 (omega arith) l; back = λ i l m. point.1 i 0 l m }

-- ---- making room, by a copy of what stands from the place on
pub inserted : (order next : List ℕ) (firsts at p : ℕ) → at ≤ firsts → firsts < length order → length next ≡ length order → CopiedTo order next at (at + 1) (firsts - at)
    → SameBelow order next (at + 1) → SameFrom order next (at + 1 + (firsts - at)) → Inserted order firsts at p (set next at p)
inserted order next firsts at p most few size copied below from = record {
  size = length-set next at p ∙ size;
  front = λ i l. get_or-set_other next at i p 0 (λ y. omega (arith, y, l)) ∙ below i 0 (omega arith);
  here = get_or-set_same next at p 0 (rw size (omega arith));
  back = λ i l m. let e : at + (suc i - (at + 1)) ≡ i = omega arith in
      get_or-set_other next at (suc i) p 0 (λ y. omega (arith, y, l)) ∙ rw e at (copied (suc i) 0 (omega arith) (omega arith));
  rest = λ i l. get_or-set_other next at i p 0 (λ y. omega (arith, y, l, most)) ∙ from i 0 (omega arith);
}

-- ---- an order that has one more
module _ (order : List ℕ) (firsts at p : ℕ) (next : List ℕ) (n : Inserted order firsts at p next) where
  -- An entry is an old one in front, the new one, or an old one behind.
  pub entry_in : {A : Type 0} (j : ℕ) → j < firsts + 1 → (j < at → get_or next j 0 ≡ get_or order j 0 → A) → (j ≡ at → get_or next j 0 ≡ p → A)
      → (at < j → get_or next j 0 ≡ get_or order (j - 1) 0 → A) → A
  entry_in j m a b c =
      below_or_not j at (λ l. a l (n.front j l))
      (λ l. equal_or_not j at (λ z. b z (rw z n.here))
      (λ d. let g : at < j = omega (arith, l, d) in let h : suc (j - 1) ≡ j = omega arith in c g (rw h at (n.back (j - 1) (omega arith) (omega arith)))))

  -- It stays in order where the old ones in front come before the new one, and it before those behind.
  pub sorted_more : (name : ℕ → List ℕ) → Sorted name order firsts → at ≤ firsts → ((i : ℕ) → i < at → before (name (get_or order i 0)) (name p) ≡ true)
      → ((i : ℕ) → at ≤ i → i < firsts → before (name p) (name (get_or order i 0)) ≡ true) → Sorted name next (firsts + 1)
  sorted_more name sorted most front behind i j l m =
      entry_in j m
      (λ x u. entry_in i (omega arith)
      (λ y v. rw (u, v) (sorted i j l (omega arith)))
      (λ y v. absurd (omega arith))
      (λ y v. absurd (omega arith)))
      (λ x u. entry_in i (omega arith)
      (λ y v. rw (u, v) (front i y))
      (λ y v. absurd (omega arith))
      (λ y v. absurd (omega arith)))
      (λ x u. entry_in i (omega arith)
      (λ y v. rw (u, v) (sorted i (j - 1) (omega arith) (omega arith)))
      (λ y v. rw (u, v) (behind (j - 1) (omega arith) (omega arith)))
      (λ y v. rw (u, v) (sorted (i - 1) (j - 1) (omega arith) (omega arith))))

  -- Each entry, by its number.
  pub entry-is : (i : ℕ) → get_or next i 0 ≡ entry_after order firsts at p i
  entry-is i =
      equal_or_not i at
      (λ z. rw (eq-eqb i at z, z) n.here)
      (λ d. rw (ne_eqb i at d) (below_or_not i at
      (λ l. rw (le-ltb at i (omega arith)) (n.front i l))
      (λ g. let l : at < i = omega (arith, d) in rw (lt-ltb at i l) (below_or_not firsts i
      (λ h. rw (lt-leb i firsts h) (n.rest i h))
      (λ h. let s : suc (i - 1) ≡ i = omega arith in rw (le-leb i firsts h) (rw s at (n.back (i - 1) (omega arith) (omega arith))))))))
