-- Laws of sets as numbers.
use Prim.Native.Nat.{ℕ, zero, suc, ◌+◌, ◌*◌, ◌/◌, ◌%◌, ◌^◌, ◌<◌}
use mathlib.Core.Path.{◌≡◌, refl, sym, ◌∙◌}
use mathlib.Core.Bool.{Bool, true, false, not, ◌&&◌, ◌||◌, and-true, and-false, or-false}
use native.Mathlib.Nat.{pow-suc, one-mul, zero-mul, zero-div, div-one, div-eq_of_lt, mul-mod_left, not-suc-le-zero, pow-zero, mod-one, mod-eq_of_lt}
use native.Mathlib.Numerals.{add-one}
use native.Mathlib.Omega.{arith}
use borrow.Author.Count.{below_more}
use borrow.Author.Tests.{eq-eqb, ne_eqb}
use lib.Dec.{eqb, eqb-zero-suc, eqb-suc-zero, eqb-suc-suc}
use lib.Bits.{bit_and, bit_or, and_shr, and_mod, and_le_l, or_shr, or_mod, or_shifted, or_shifted_r}
use lib.Pow.{shl_exact, shr-shr, mod-pow-add}
use Rattle.csdl.specs.Search.{any_from, one_if}
use Rattle.csdl.proofs.Logic.{any_found, any_none, true-false}
use Rattle.type_hierarchy.specs.Sets.{member, set_of, Members}

digit_or : (x y : ℕ) → x < 2 → y < 2 → eqb (bit_or x y) 1 ≡ eqb x 1 || eqb y 1
digit_or zero y h k = refl
digit_or (suc zero) zero h k = refl
digit_or (suc zero) (suc zero) h k = refl
digit_or (suc zero) (suc (suc y)) h k = absurd (omega arith)
digit_or (suc (suc x)) y h k = absurd (omega arith)

-- Two sets together.
pub member-or : (a b t : ℕ) → member (bit_or a b) t ≡ member a t || member b t
unfolding member
member-or a b t = rw (or_shr a b t, or_mod (a / 2 ^ t) (b / 2 ^ t) 1) (digit_or (a / 2 ^ t % 2) (b / 2 ^ t % 2) (omega arith) (omega arith))

digit_and : (x y : ℕ) → x < 2 → y < 2 → eqb (bit_and x y) 1 ≡ eqb x 1 && eqb y 1
digit_and zero y h k = refl
digit_and (suc zero) zero h k = refl
digit_and (suc zero) (suc zero) h k = refl
digit_and (suc zero) (suc (suc y)) h k = absurd (omega arith)
digit_and (suc (suc x)) y h k = absurd (omega arith)

-- What two sets have in common.
member-and : (a b t : ℕ) → member (bit_and a b) t ≡ member a t && member b t
unfolding member
member-and a b t = rw (and_shr a b t, and_mod (a / 2 ^ t) (b / 2 ^ t) 1) (digit_and (a / 2 ^ t % 2) (b / 2 ^ t % 2) (omega arith) (omega arith))

pub member-none : (t : ℕ) → member 0 t ≡ false
unfolding member
member-none t = rw (zero-div (2 ^ t))

-- A number below 2 ^ t has no bit t.
pub member_past : (x t : ℕ) → x < 2 ^ t → member x t ≡ false
unfolding member
member_past x t h = rw (div-eq_of_lt h)

half_shift : (x t : ℕ) → x / 2 ^ suc t ≡ x / 2 / 2 ^ t
half_shift x t = let e : 1 + t ≡ suc t = omega arith in rw (shr-shr x 1 t, e)

-- The set of one number.
pub member-one : (x t : ℕ) → member (2 ^ x) t ≡ eqb x t
unfolding member
member-one zero zero = refl
member-one zero (suc t) = rw (half_shift 1 t, zero-div (2 ^ t), eqb-zero-suc t)
member-one (suc x) zero = rw (pow-suc 2 x, div-one, mul-mod_left (2 ^ x) 2, eqb-suc-zero x)
member-one (suc x) (suc t) =
    let e : 2 ^ suc x / 2 ≡ 2 ^ x = rw (pow-suc 2 x) (omega arith) in
    rw (half_shift (2 ^ suc x) t, e, eqb-suc-suc x t) (member-one x t)

set-more-lt : (b : Bool) (p s : ℕ) → s < p → one_if b * p + s < p * 2
set-more-lt true p s h = omega arith
set-more-lt false p s h = omega arith

pub set-lt : (test : ℕ → Bool) (n : ℕ) → set_of test n < 2 ^ n
unfolding set_of
set-lt test zero = omega arith
set-lt test (suc n) = rw pow-suc (set-more-lt (test n) (2 ^ n) (set_of test n) (set-lt test n))

member-one_if : (b : Bool) (n t : ℕ) → member (one_if b * 2 ^ n) t ≡ b && eqb n t
member-one_if true n t = rw (one-mul (2 ^ n)) (member-one n t)
member-one_if false n t = rw (zero-mul (2 ^ n)) (member-none t)

set-suc : (test : ℕ → Bool) (n t : ℕ) → member (set_of test (suc n)) t ≡ (test n && eqb n t) || member (set_of test n) t
unfolding set_of
set-suc test n t =
    rw (← or_shifted (one_if (test n)) n (set_of test n) (set-lt test n), member-or (one_if (test n) * 2 ^ n) (set_of test n) t, member-one_if (test n) n t)

-- What the set has.
pub member-set : (test : ℕ → Bool) (n t : ℕ) → t < n → member (set_of test n) t ≡ test t
member-set test zero t h = absurd (not-suc-le-zero h)
member-set test (suc n) t h =
    below_more (λ k. member (set_of test (suc n)) k ≡ test k) n
    (λ k l. set-suc test n k ∙ rw (ne_eqb n k (λ e. omega arith), and-false (test n)) (member-set test n k l))
    (set-suc test n n ∙ rw (eq-eqb n n refl, and-true (test n), member_past (set_of test n) n (set-lt test n)) (or-false (test n)))
    t (omega arith)

one_if_lt : (b : Bool) → one_if b < 2
one_if_lt true = omega arith
one_if_lt false = omega arith

-- The code's next set: one number more, behind the others.
pub set-start : (test : ℕ → Bool) → ◌≡◌ {A = ℕ} 0 (set_of test 0)
unfolding set_of
set-start test = refl

pub set_next : (test : ℕ → Bool) (n : ℕ) (b : Bool) (s m : ℕ) → n < 64 → s ≡ set_of test n → b ≡ test n → m ≡ one_if b
    → bit_or s ((m * 2 ^ n) % 2 ^ 64) ≡ set_of test (n + 1)
unfolding set_of
set_next test n b s m h e q d =
    rw (d, q, e, shl_exact {a = one_if (test n)} 1 n 64 (one_if_lt (test n)) (omega arith), add-one n)
    (or_shifted_r (one_if (test n)) n (set_of test n) (set-lt test n))

pub set_same : (f g : ℕ → Bool) (n : ℕ) → ((k : ℕ) → k < n → f k ≡ g k) → set_of f n ≡ set_of g n
unfolding set_of
set_same f g zero all = refl
set_same f g (suc n) all = rw (all n (omega arith), set_same f g n (λ k h. all k (omega arith)))

-- ---- a number of 64 bits is the set of its bits
digit : (x : ℕ) → x < 2 → one_if (eqb x 1) ≡ x
digit zero h = refl
digit (suc zero) h = refl
digit (suc (suc x)) h = absurd (omega arith)

low-set : (a n : ℕ) → set_of (λ i. member a i) n ≡ a % 2 ^ n
unfolding set_of member
low-set a zero = rw (pow-zero, mod-one)
low-set a (suc n) =
    let one : suc n ≡ 1 + n = omega arith in
    rw (digit (a / 2 ^ n % 2) (omega arith), low-set a n, one) (sym (mod-pow-add a 1 n))

pub holds-set : (a : ℕ) (test : ℕ → Bool) → a < 2 ^ 64 → Members 64 a test → a ≡ set_of test 64
holds-set a test h e = sym (mod-eq_of_lt h) ∙ sym (low-set a 64) ∙ set_same (λ i. member a i) test 64 e

-- So two that have the same bits are equal.
pub bits_same : (a b : ℕ) → a < 2 ^ 64 → b < 2 ^ 64 → ((i : ℕ) → i < 64 → member a i ≡ member b i) → a ≡ b
bits_same a b h k e = holds-set a (λ i. member b i) h e ∙ sym (holds-set b (λ i. member b i) k (λ i l. refl))

and-lt_l : (a b : ℕ) → a < 2 ^ 64 → bit_and a b < 2 ^ 64
and-lt_l a b h = omega (arith, h, and_le_l a b)

-- Two sets meet where not every number of both is missing in one.
pub meet_any : (a b : ℕ) → a < 2 ^ 64 → not (eqb (bit_and a b) 0) ≡ any_from (λ t. member a t && member b t) 0 64
meet_any a b h = go (any_from (λ t. member a t && member b t) 0 64) refl
  where
    go : (x : Bool) → any_from (λ t. member a t && member b t) 0 64 ≡ x → not (eqb (bit_and a b) 0) ≡ any_from (λ t. member a t && member b t) 0 64
    go true e =
        let w = any_found (λ t. member a t && member b t) 0 64 e in
        let some : bit_and a b ≡ 0 → ⊥ = λ z. true-false (member (bit_and a b) w.0) (member-and a b w.0 ∙ w.3) (rw z (member-none w.0)) in
        rw (ne_eqb (bit_and a b) 0 some, e)
    go false e =
        let none = any_none (λ t. member a t && member b t) 0 64 e in
        let z : bit_and a b ≡ 0 = bits_same (bit_and a b) 0 (and-lt_l a b h) (omega arith) (λ i l. member-and a b i ∙ none i (omega arith) l ∙ sym (member-none i)) in
        rw (eq-eqb (bit_and a b) 0 z, e)
