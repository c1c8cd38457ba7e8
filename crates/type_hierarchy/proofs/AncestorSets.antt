-- The ancestors of a type, gathered on one climb, as the code takes its steps: b is what `next` gives at t. Assumes nothing.
use Prim.Native.Nat.{ℕ, zero, suc, ◌+◌, ◌*◌, ◌-◌, ◌^◌, ◌≤◌, ◌<◌}
use mathlib.Core.Path.{◌≡◌, refl, sym, ◌∙◌}
use mathlib.Core.List.{List}
use mathlib.Core.Bool.{Bool, true, false, cond, ◌||◌, or-false}
use native.Mathlib.Omega.{arith}
use borrow.Author.Tests.{ne_eqb, lt-ltb, le-ltb}
use lib.Dec.{eqb, ltb}
use lib.ListN.{length, get_or, set, replicate}
use Rattle.packed.proofs.Laws.{field_lt}
use Rattle.csdl.specs.Search.{tab}
use Rattle.csdl.specs.Tables.{type_base, type_count}
use Rattle.csdl.specs.Climb.{climb}
use Rattle.csdl.proofs.Climbing.{climb_test}
use Rattle.csdl.proofs.Logic.{less_one, tab-length, tab-at, tab_past, below_or_not}
use Rattle.type_hierarchy.specs.Sets.{member, set_of, Members}
use Rattle.type_hierarchy.specs.AncestorSets.{rows_to, ancestors_of}
use Rattle.type_hierarchy.proofs.SetLaws.{member-none, member-set, holds-set}
use Rattle.type_hierarchy.proofs.Tables.{tab-more}
use Rattle.type_hierarchy.proofs.Climb.{climb-none}
use Rattle.type_hierarchy.proofs.Past.{base_past}

or_again : (s x r : Bool) → (s || x) || r ≡ s || (x || r)
or_again true x r = refl
or_again false x r = refl

-- The climb takes a set with it.
module _ (next : ℕ → ℕ) (set t : ℕ) where
  pub with_out : (left : ℕ) → left ≡ 0 → Members 64 set (λ a. member set a || climb next left a t)
  unfolding climb
  with_out left h = λ a l. rw h (sym (or-false (member set a)))

  module _ (b : ℕ) (e : b ≡ next t) where
    pub with_none : (left : ℕ) → b ≡ 0 → Members 64 set (λ a. member set a || climb next left a t)
    unfolding climb
    with_none zero h = λ a l. sym (or-false (member set a))
    with_none (suc n) h = λ a l. rw (← e, h) (sym (or-false (member set a)))

    pub with_up : (left s r : ℕ) → (left ≡ 0 → ⊥) → (b ≡ 0 → ⊥) → Members 64 s (λ a. member set a || eqb (b - 1) a) → Members 64 r (λ a. member s a || climb next (left - 1) a (b - 1)) → Members 64 r (λ a. member set a || climb next left a t)
    unfolding climb
    with_up zero s r p n q w = absurd (p refl)
    with_up (suc k) s r p n q w =
        λ a l. let i : member r a ≡ member s a || climb next k a (b - 1) = rw less_one at (w a l) in
        rw (i, q a l, climb_test next k t a, ← e, ne_eqb b 0 n) (or_again (member set a) (eqb (b - 1) a) (climb next k a (b - 1)))

-- A climb over the bases as they were read is one over the bases; it starts with no set.
module _ (f g : ℕ → ℕ) (e : (u : ℕ) → f u ≡ g u) where
  climb-same : (left a t : ℕ) → climb f left a t ≡ climb g left a t
  unfolding climb
  climb-same zero a t = refl
  climb-same (suc l) a t = rw (climb_test f l t a, climb_test g l t a, e t, climb-same l a (g t - 1))

  module _ (left t r : ℕ) where
    pub alone : Members 64 r (λ a. member 0 a || climb f left a t) → Members 64 r (λ a. climb g left a t)
    alone w = λ a l. w a l ∙ rw (member-none a, climb-same left a t)

-- The sets, filled one after the other.
module _ (test : ℕ → ℕ → Bool) where
  pub rows_start : replicate {A = ℕ} 64 0 ≡ rows_to test 0
  unfolding rows_to tab
  rows_start = refl

  pub rows_more : (n r : ℕ) → n < 64 → r < 2 ^ 64 → Members 64 r (λ a. test n a) → set (rows_to test n) n r ≡ rows_to test (n + 1)
  unfolding rows_to
  rows_more n r small fits is = tab-more (λ t. set_of (λ a. test t a) 64) 64 n r small (holds-set r (λ a. test n a) fits is)

  pub rows_size : (n : ℕ) → length (rows_to test n) ≡ 64
  unfolding rows_to
  rows_size n = tab-length (λ t. cond (ltb t n) (set_of (λ a. test t a) 64) 0) 0 64

  pub rows_row : (n t : ℕ) → n ≤ 64 → t < n → Members 64 (get_or (rows_to test n) t 0) (λ a. test t a)
  unfolding rows_to
  rows_row n t h l =
      rw (tab-at (λ u. cond (ltb u n) (set_of (λ a. test u a) 64) 0) 0 64 t (omega arith), lt-ltb t n l) (λ a k. member-set (λ b. test t b) 64 a k)

module _ (types : List ℕ) (t : ℕ) where
  pub ancestors_row : t < type_count types → length types ≤ 384 → Members 64 (get_or (ancestors_of types) t 0) (λ a. climb (λ u. type_base types u) (type_count types) a t)
  ancestors_row l few = rows_row (λ t a. climb (λ u. type_base types u) (type_count types) a t) (type_count types) t (omega (arith, few)) l

  pub ancestors_past : 64 ≤ t → length types ≤ 384 → Members 64 0 (λ a. climb (λ u. type_base types u) (type_count types) a t)
  ancestors_past l few = λ a h. member-none a ∙ climb-none (λ u. type_base types u) t 0 (sym (base_past types t (omega (arith, l, few)))) a (type_count types) refl

-- The bases, read one after the other.
abbrev pub bases_to : List ℕ → ℕ → List ℕ
bases_to types n = tab (λ t. cond (ltb t n) (type_base types t) 0) 0 128

module _ (types : List ℕ) where
  pub bases_start : replicate {A = ℕ} 128 0 ≡ bases_to types 0
  unfolding tab
  bases_start = refl

  pub bases_most : (bases : List ℕ) → ((t : ℕ) → get_or bases t 0 ≡ type_base types t) → (t : ℕ) → get_or bases t 0 ≤ 128
  bases_most bases e t = omega (arith, e t, field_lt types (48 * t + 10) 7)

  pub bases_end : (n t : ℕ) → length types ≤ 6 * n → length types ≤ 384 → get_or (bases_to types n) t 0 ≡ type_base types t
  bases_end n t all few =
      below_or_not t 128
      (λ k. tab-at (λ t. cond (ltb t n) (type_base types t) 0) 0 128 t k ∙ below_or_not t n (λ l. rw (lt-ltb t n l)) (λ l. rw (le-ltb t n l) (sym (base_past types t (omega (arith, l, all))))))
      (λ k. tab_past (λ t. cond (ltb t n) (type_base types t) 0) 0 0 128 t k ∙ sym (base_past types t (omega (arith, k, few))))
