-- Laws of lists: of each element, of no number twice, sums over a list.
use Prim.Native.Nat.{ℕ, zero, suc, ◌+◌, ◌≤◌, ◌<◌, zero-le}
use mathlib.Core.Path.{◌≡◌, refl, sym, ap, ◌∙◌, subst}
use mathlib.Core.List.{List, [], ◌∷◌, ◌++◌, append-nil, append_assoc, Memᴰ}
use mathlib.Core.Bool.{Bool, true, false}
use native.Mathlib.Omega.{arith}
use lib.ListN.{length, get_or}
use lib.Dec.{eqb}
use borrow.Author.Tests.{eqb-true, eq-eqb, ne_eqb}
use Rattle.csdl.specs.Search.{one_if, sum_from, tab, flat, all}
use Rattle.csdl.proofs.Logic.{but, but_one}
use Rattle.soundness.specs.Lists.{All, Distinct}
use Rattle.soundness.specs.Lists.All.{none, both}

-- Each element.
pub all_map : {A : Type 0} {P Q : A → Type 0} {l : List A} → ((x : A) → P x → Q x) → All P l → All Q l
all_map f none = none
all_map f (both {x} p h) = both (f x p) (all_map f h)

pub all_two : {A : Type 0} {P Q R : A → Type 0} {l : List A} → ((x : A) → P x → Q x → R x) → All P l → All Q l → All R l
all_two f none none = none
all_two f (both {x} p h) (both q k) = both (f x p q) (all_two f h k)

pub all_append : {A : Type 0} {P : A → Type 0} {a b : List A} → All P a → All P b → All P (a ++ b)
all_append none k = k
all_append (both p h) k = both p (all_append h k)

pub all-flat : {A B : Type 0} {Q : B → Type 0} (f : A → List B) {l : List A} → All (λ x. All Q (f x)) l → All Q (flat f l)
unfolding flat
all-flat f none = none
all-flat f (both p h) = all_append p (all-flat f h)

pub all_true : {A : Type 0} (f : A → Bool) {l : List A} → All (λ x. f x ≡ true) l → all f l ≡ true
unfolding all
all_true f none = refl
all_true f (both p h) = rw p (all_true f h)

pub all-tab : {A : Type 0} (P : A → Type 0) (f : ℕ → A) (i n : ℕ) → ((k : ℕ) → i ≤ k → k < i + n → P (f k)) → All P (tab f i n)
unfolding tab
all-tab P f i zero h = none
all-tab P f i (suc n) h = both (h i (omega arith) (omega arith)) (all-tab P f (i + 1) n (λ k a b. h k (omega arith) (omega arith)))

pub all_head : {A : Type 0} {P : A → Type 0} {x : A} {l : List A} → All P (x ∷ l) → P x
all_head (both p h) = p

pub all-member : {A : Type 0} {P : A → Type 0} {x : A} {l : List A} → All P l → Memᴰ x l → P x
all-member {A = A} {P = P} none x4 = elim x4 [ ]
all-member {P = P} (both p h) (Memᴰ.head e) = subst P (sym e) p
all-member (both p h) (Memᴰ.tail d) = all-member h d

pub all_get_d : {A : Type 0} {P : A → Type 0} (d : A) {l : List A} → P d → All P l → (k : ℕ) → P (get_or l k d)
all_get_d d q none k = q
all_get_d d q (both p h) zero = p
all_get_d d q (both p h) (suc k) = all_get_d d q h k

-- Lists put in the place of elements.
pub flat-one : {A B : Type 0} (f : A → List B) (x : A) → flat f (x ∷ []) ≡ f x
unfolding flat
flat-one f x = append-nil (f x)

pub flat-none : {A B : Type 0} (f : A → List B) → ((y : A) → f y ≡ []) → (l : List A) → flat f l ≡ []
unfolding flat
flat-none f h [] = refl
flat-none f h (x ∷ l) = rw (h x, flat-none f h l)

pub flat_append : {A B : Type 0} (f : A → List B) (a b : List A) → flat f (a ++ b) ≡ flat f a ++ flat f b
unfolding flat
flat_append f [] b = refl
flat_append f (x ∷ a) b = ap (λ (l : List _). f x ++ l) (flat_append f a b) ∙ sym (append_assoc (f x) (flat f a) (flat f b))

-- Two lists that have no number in common.
pub distinct_append : {P Q : ℕ → Type 0} → ((x y : ℕ) → P x → Q y → x ≡ y → ⊥) → {a b : List ℕ} → All P a → All Q b → Distinct a → Distinct b →
    Distinct (a ++ b)
unfolding Distinct
distinct_append far none k d e = e
distinct_append far (both {x} p h) k d e = (all_append d.0 (all_map (λ y q. far x y p q) k), distinct_append far h k d.1 e)

-- Sums of f over the elements.
unfoldable pub sum : (ℕ → ℕ) → List ℕ → ℕ
sum f [] = 0
sum f (x ∷ l) = f x + sum f l

pub sum_append : (f : ℕ → ℕ) (a b : List ℕ) → sum f (a ++ b) ≡ sum f a + sum f b
unfolding sum
sum_append f [] b = omega arith
sum_append f (x ∷ a) b = omega (arith, sum_append f a b)

pub sum_length : (l : List ℕ) → sum (λ k. 1) l ≡ length l
unfolding sum
sum_length [] = refl
sum_length (x ∷ l) = omega (arith, sum_length l)

-- Sums over the n numbers from i on.
pub sum_add : (f g : ℕ → ℕ) (i n : ℕ) → sum_from (λ k. f k + g k) i n ≡ sum_from f i n + sum_from g i n
unfolding sum_from
sum_add f g i zero = refl
sum_add f g i (suc n) = omega (arith, sum_add f g (i + 1) n)

pub sum_ones : (i n : ℕ) → sum_from (λ k. 1) i n ≡ n
unfolding sum_from
sum_ones i zero = refl
sum_ones i (suc n) = omega (arith, sum_ones (i + 1) n)

sum_zeros : (i n : ℕ) → sum_from (λ k. 0) i n ≡ 0
unfolding sum_from
sum_zeros i zero = refl
sum_zeros i (suc n) = omega (arith, sum_zeros (i + 1) n)

pub sum_swap : (g : ℕ → ℕ → ℕ) (i n j c : ℕ) → sum_from (λ s. sum_from (λ k. g s k) j c) i n ≡ sum_from (λ k. sum_from (λ s. g s k) i n) j c
unfolding sum_from
sum_swap g i zero j c = sym (sum_zeros j c)
sum_swap g i (suc n) j c = ap (λ (z : ℕ). sum_from (λ k. g i k) j c + z) (sum_swap g (i + 1) n j c) ∙ sym
    (sum_add (λ k. g i k) (λ k. sum_from (λ s. g s k) (i + 1) n) j c)

-- Over a list without y, the sum of f is that of f, but 0 at y.
but_sum : (f : ℕ → ℕ) (y : ℕ) {l : List ℕ} → All (λ x. y ≡ x → ⊥) l → sum f l ≡ sum (but f y) l
unfolding sum
but_sum f y none = refl
but_sum f y (both {x} p h) = rw (ne_eqb x y (λ e. p (sym e)), but_sum f y h)

-- Numbers below n, none twice, add up to no more than all of them.
bound_sum : (n : ℕ) (f : ℕ → ℕ) {l : List ℕ} → All (λ x. x < n) l → Distinct l → sum f l ≤ sum_from f 0 n
unfolding sum Distinct
bound_sum n f none d = zero-le
bound_sum n f (both {x} p h) d = omega (arith, but_sum f x d.0, bound_sum n (but f x) h d.1, but_one f x 0 n zero-le (omega arith))

pub sum_bound : (f : ℕ → ℕ) (n : ℕ) {l : List ℕ} → All (λ x. x < n) l → Distinct l → sum f l ≤ sum_from f 0 n
sum_bound f n h d = bound_sum n f h d

-- Two lists with the same numbers, each as often: every sum over them agrees.
abbrev pub Alike : List ℕ → List ℕ → Type 0
Alike a b = (f : ℕ → ℕ) → sum f a ≡ sum f b

-- How often x stands in a list.
abbrev times : ℕ → ℕ → ℕ
times x y = one_if (eqb x y)

absent : (x : ℕ) {l : List ℕ} → All (λ y. x ≡ y → ⊥) l → sum (times x) l ≡ 0
unfolding sum
absent x none = refl
absent x (both {x = y} p h) = rw (ne_eqb x y p, absent x h)

absent_all : (x : ℕ) (l : List ℕ) → sum (times x) l ≡ 0 → All (λ y. x ≡ y → ⊥) l
unfolding sum
absent_all x [] e = none
absent_all x (y ∷ l) e = both (λ q. let z : times x y ≡ 1 = rw (eq-eqb x y q) in omega arith) (absent_all x l (omega arith))

often : (x : ℕ) (l : List ℕ) → Distinct l → sum (times x) l ≤ 1
unfolding sum Distinct
often x [] d = omega arith
often x (y ∷ l) d = go (eqb x y) refl (often x l d.1)
  where
    go : (b : Bool) → eqb x y ≡ b → sum (times x) l ≤ 1 → one_if (eqb x y) + sum (times x) l ≤ 1
    go true q rest = let e : x ≡ y = eqb-true x y q in let z : sum (times x) l ≡ 0 = rw e (absent y d.0) in rw (q, z) (omega arith)
    go false q rest = rw q (omega arith)

distinct_of : (l : List ℕ) → ((x : ℕ) → sum (times x) l ≤ 1) → Distinct l
unfolding sum Distinct
distinct_of [] h = tt
distinct_of (x ∷ l) h =
    let z : times x x ≡ 1 = rw (eq-eqb x x refl) in
    (absent_all x l (omega (arith, h x)), distinct_of l (λ y. omega (arith, h y)))

pub alike_distinct : (a b : List ℕ) → Alike a b → Distinct a → Distinct b
alike_distinct a b h d = distinct_of b (λ x. omega (arith, h (times x), often x a d))

pub alike-length : (a b : List ℕ) → Alike a b → length a ≡ length b
alike-length a b h = sym (sum_length a) ∙ h (λ k. 1) ∙ sum_length b
