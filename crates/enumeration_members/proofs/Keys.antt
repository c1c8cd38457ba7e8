-- The members that the check has been at in the order of their types and names: where a member stands, and one more. Assumes nothing.
use Prim.Native.Nat.{ℕ, suc, ◌+◌, ◌-◌, ◌≤◌, ◌<◌}
use mathlib.Core.Path.{◌≡◌, refl, sym, ap, ◌∙◌}
use mathlib.Core.List.{List}
use mathlib.Core.Bool.{Bool, true, false, false≢true}
use native.Mathlib.Omega.{arith}
use lib.ListN.{get_or, replicate, length-replicate}
use Rattle.packed.specs.Bytes.{same}
use Rattle.packed.proofs.Laws.{same_sound, same_complete}
use Rattle.csdl.specs.Members.{Members, same_member, member31a}
use Rattle.csdl.proofs.Logic.{not_so, any_of, any_none, none_any, equal_or_not, below_or_not}
use Rattle.name_classes.specs.Order.{before}
use Rattle.name_classes.specs.Classes.{Stands, Inserted}
use Rattle.name_classes.proofs.Before.{before_neither, apart}
use Rattle.name_classes.proofs.Sorting.{entry_in, sorted_more}
use Rattle.enumeration_members.specs.Earlier.{member_key, Ordered}

-- No member yet.
pub ordered_none : (e : Members) (v : ℕ) → Ordered e 0 (replicate 1024 v)
ordered_none e v =
    record {
      size = length-replicate {A = ℕ} 1024 v;
      sorted = λ i j h k. absurd (omega arith);
      below = λ i h. absurd (omega arith);
      holds = λ r h. absurd (omega arith);
    }

module _ (e : Members) (n at : ℕ) (order : List ℕ) (f : Ordered e n order) (s : Stands (λ r. member_key e r) order n (member_key e n) at) where
  -- Members of one type and name have one key.
  one_key : (r : ℕ) → same_member e n r ≡ true → member_key e r ≡ member_key e n
  unfolding same_member same
  one_key r h = same_sound (member_key e r) (member_key e n) h

  key_same : (r : ℕ) → member_key e r ≡ member_key e n → same_member e n r ≡ true
  unfolding same_member same
  key_same r h = same_complete (member_key e r) (member_key e n) h

  -- An entry of the member's key stands at the place.
  at_place : (i : ℕ) → i < n → member_key e (get_or order i 0) ≡ member_key e n → i ≡ at
  at_place i l q = equal_or_not i at (λ z. z) (λ d. absurd (below_or_not i at (λ h. apart _ _ (s.front i h) q) (λ h. behind (omega (arith, h, d)))))
    where
      behind : at < i → ⊥
      behind h = false≢true (sym (s.back at (omega arith) (omega arith)) ∙ ap (λ (x : List ℕ). before (member_key e (get_or order at 0)) x) (sym q) ∙ f.sorted at i h l)

  no_member : ((i : ℕ) → i < n → i ≡ at → same_member e n (get_or order i 0) ≡ false) → false ≡ member31a e n
  unfolding member31a
  no_member h = sym (none_any (λ r. same_member e n r) 0 n (λ r a b. not_so _ (λ t. refute r (omega (arith, b)) t)))
    where
      refute : (r : ℕ) → r < n → same_member e n r ≡ true → ⊥
      refute r l t =
          let w = f.holds r l in
          let u : same_member e n (get_or order w.0 0) ≡ true = rw w.2 t in
          false≢true (sym (h w.0 w.1 (at_place w.0 w.1 (one_key (get_or order w.0 0) u))) ∙ u)

  -- What the code asks at the place.
  pub repeated-here : (b : Bool) → at < n → b ≡ same_member e n (get_or order at 0) → b ≡ member31a e n
  unfolding member31a
  repeated-here true l q = sym (any_of (λ r. same_member e n r) 0 n (get_or order at 0) (omega arith) (omega (arith, f.below at l)) (sym q))
  repeated-here false l q = no_member (λ i h z. rw z (sym q))

  pub repeated_past : n ≤ at → false ≡ member31a e n
  repeated_past l = no_member (λ i h z. absurd (omega (arith, h, z, l)))

  -- One member more, whose name no earlier one of its type has.
  module _ (new : member31a e n ≡ false) (next : List ℕ) (w : Inserted order n at n next) where
    fresh : (i : ℕ) → i < n → member_key e (get_or order i 0) ≡ member_key e n → ⊥
    unfolding member31a
    fresh i l q = false≢true (sym (any_none (λ r. same_member e n r) 0 n new (get_or order i 0) (omega arith) (omega (arith, f.below i l))) ∙ key_same (get_or order i 0) q)

    behind : (i : ℕ) → at ≤ i → i < n → before (member_key e n) (member_key e (get_or order i 0)) ≡ true
    behind i h l = go (before (member_key e n) (member_key e (get_or order i 0))) refl
      where
        go : (b : Bool) → before (member_key e n) (member_key e (get_or order i 0)) ≡ b → b ≡ true
        go true q = refl
        go false q = absurd (fresh i l (before_neither _ _ (s.back i h l) q))

    holds : (r : ℕ) → r < n + 1 → (i : ℕ) × (i < n + 1) × (get_or next i 0 ≡ r)
    holds r l =
        equal_or_not r n (λ z. (at, omega (arith, s.most), w.here ∙ sym z))
        (λ d. let h = f.holds r (omega (arith, d)) in
        below_or_not h.0 at (λ b. (h.0, omega (arith, h.1), w.front h.0 b ∙ h.2)) (λ b. (suc h.0, omega (arith, h.1), w.back h.0 b h.1 ∙ h.2)))

    pub ordered_next : Ordered e (n + 1) next
    ordered_next =
        record {
          size = w.size ∙ f.size;
          sorted = sorted_more order n at n next w (λ r. member_key e r) f.sorted s.most s.front behind;
          below = λ i l. entry_in order n at n next w i l
              (λ x u. rw u (omega (arith, f.below i (omega (arith, x, s.most)))))
              (λ x u. rw u (omega arith))
              (λ x u. rw u (omega (arith, f.below (i - 1) (omega arith))));
          holds = holds;
        }
