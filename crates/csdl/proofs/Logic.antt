-- Laws of Booleans, of tests, and of the searches, counts and lists of specs/Search.
use Prim.Native.Nat.{ℕ, zero, suc, ◌+◌, ◌-◌, ◌≤◌, ◌<◌, zero-le}
use mathlib.Core.Path.{◌≡◌, refl, sym, ap, ap₂, ◌∙◌, subst}
use mathlib.Core.List.{◌∷◌}
use mathlib.Core.Bool.{Bool, true, false, false≢true, cond, ◌&&◌, ◌||◌}
use mathlib.Core.Logic.{◌⊎◌, inl, inr, ⊎_elim}
use native.Mathlib.Nat.{eq-or-lt_of_le}
use native.Mathlib.Numerals.{add-one}
use native.Mathlib.Omega.{arith}
use lib.ListN.{length, get_or}
use lib.Dec.{eqb, ltb, leb}
use borrow.Author.Tests.{eqb-true, eqb-false, ne_eqb, leb-true, le-leb, ltb-true, ltb-false, lt-ltb}
use Rattle.csdl.specs.Search.{first_from, any_from, one_if, sum_from, count_from, tab}
use Rattle.csdl.specs.declared.Run.{Run}
use Rattle.csdl.specs.Model.{in_run}

-- Booleans.
pub true-false : {A : Type 0} (b : Bool) → b ≡ true → b ≡ false → A
true-false b e f = absurd (false≢true (sym f ∙ e))

pub less_one : (n : ℕ) → suc n - 1 ≡ n
less_one n = omega arith

pub not_so : (b : Bool) → (b ≡ true → ⊥) → b ≡ false
not_so true h = absurd (h refl)
not_so false h = refl

-- Two that follow from each other.
pub bool_iff : (a b : Bool) → (a ≡ true → b ≡ true) → (b ≡ true → a ≡ true) → a ≡ b
bool_iff true b f g = sym (f refl)
bool_iff false true f g = g refl
bool_iff false false f g = refl

-- A number below another, or not; equal, or not.
pub below_or_not : {A : Type 0} (q m : ℕ) → (q < m → A) → (m ≤ q → A) → A
below_or_not {A = A} q m f g = go (ltb q m) refl
  where
    go : (b : Bool) → ltb q m ≡ b → A
    go true e = f (ltb-true q m e)
    go false e = g (ltb-false q m e)

pub equal_or_not : {A : Type 0} (q m : ℕ) → (q ≡ m → A) → ((q ≡ m → ⊥) → A) → A
equal_or_not {A = A} q m f g = go (eqb q m) refl
  where
    go : (b : Bool) → eqb q m ≡ b → A
    go true e = f (eqb-true q m e)
    go false e = g (eqb-false q m e)

pub or_cases : (a b : Bool) → (a || b) ≡ true → (a ≡ true) ⊎ (b ≡ true)
or_cases true b e = inl refl
or_cases false b e = inr e

pub or_left : (a b : Bool) → a ≡ true → (a || b) ≡ true
or_left a b e = rw e

pub or_right : (a b : Bool) → b ≡ true → (a || b) ≡ true
or_right true b e = refl
or_right false b e = e

pub or_no : (a b : Bool) → (a || b) ≡ false → (a ≡ false) × (b ≡ false)
or_no true b e = absurd (false≢true (sym e))
or_no false b e = (refl, e)

pub or-none : (a b : Bool) → a ≡ false → b ≡ false → (a || b) ≡ false
or-none a b e f = rw (e, f)

pub and_cases : (a b : Bool) → (a && b) ≡ true → (a ≡ true) × (b ≡ true)
and_cases true b e = (refl, e)
and_cases false b e = absurd (false≢true e)

pub and_both : (a b : Bool) → a ≡ true → b ≡ true → (a && b) ≡ true
and_both a b e f = rw (e, f)

pub and_no : (a b : Bool) → (a && b) ≡ false → a ≡ true → b ≡ false
and_no true b e h = e
and_no false b e h = absurd (false≢true h)

-- A number of a run.
pub run_in : (r : Run) (k : ℕ) → in_run r k ≡ true → (r.first ≤ k) × (k < r.first + r.count)
run_in r k e =
    let c = and_cases (leb r.first k) (ltb k (r.first + r.count)) e in
    (leb-true r.first k c.0, ltb-true k (r.first + r.count) c.1)

pub in_run_lem : (r : Run) (k : ℕ) → r.first ≤ k → k < r.first + r.count → in_run r k ≡ true
in_run_lem r k a b = and_both (leb r.first k) (ltb k (r.first + r.count)) (le-leb r.first k a) (lt-ltb k (r.first + r.count) b)

-- Each of the n numbers from i on: what holds of i and of the rest holds of all.
abbrev pub Among : ℕ → ℕ → (ℕ → Type 0) → Type 0
Among i n P = (k : ℕ) → i ≤ k → k < i + n → P k

pub among_suc : (P : ℕ → Type 0) (i n : ℕ) → P i → Among (i + 1) n P → Among i (suc n) P
among_suc P i n here rest k a b = ⊎_elim (λ e. subst P e here) (λ h. rest k (omega arith) (omega arith)) (eq-or-lt_of_le a)

-- A search for one: what is found passes; what passes is found; where none is found none passes, and the other way round.
pub any_found : (test : ℕ → Bool) (i n : ℕ) → any_from test i n ≡ true → (k : ℕ) × (i ≤ k) × (k < i + n) × (test k ≡ true)
unfolding any_from
any_found test i zero e = absurd (false≢true e)
any_found test i (suc n) e = go (any_found test (i + 1) n) (test i) refl
  where
    go : (any_from test (i + 1) n ≡ true → (k : ℕ) × (i + 1 ≤ k) × (k < i + 1 + n) × (test k ≡ true)) → (b : Bool) → test i ≡ b
        → (k : ℕ) × (i ≤ k) × (k < i + suc n) × (test k ≡ true)
    go rest true q = (i, omega arith, omega arith, q)
    go rest false q = let w = rest (rw q at e) in (w.0, omega arith, omega arith, w.3)

pub any_none : (test : ℕ → Bool) (i n : ℕ) → any_from test i n ≡ false → Among i n (λ k. test k ≡ false)
unfolding any_from
any_none test i zero e = λ k a b. absurd (omega arith)
any_none test i (suc n) e = go (any_none test (i + 1) n) (test i) refl
  where
    go : (any_from test (i + 1) n ≡ false → Among (i + 1) n (λ k. test k ≡ false)) → (b : Bool) → test i ≡ b → Among i (suc n) (λ k. test k ≡ false)
    go rest true q = absurd (false≢true (sym (rw q at e)))
    go rest false q = among_suc (λ k. test k ≡ false) i n q (rest (rw q at e))

pub any_of : (test : ℕ → Bool) (i n k : ℕ) → i ≤ k → k < i + n → test k ≡ true → any_from test i n ≡ true
any_of test i n k a b e = go (any_from test i n) refl
  where
    go : (c : Bool) → any_from test i n ≡ c → any_from test i n ≡ true
    go true q = q
    go false q = true-false (test k) e (any_none test i n q k a b)

pub none_any : (test : ℕ → Bool) (i n : ℕ) → Among i n (λ k. test k ≡ false) → any_from test i n ≡ false
none_any test i n h = not_so (any_from test i n) (λ e. let w = any_found test i n e in true-false (test w.0) w.3 (h w.0 w.1 w.2))

pub any_same : (test other : ℕ → Bool) (i n : ℕ) → Among i n (λ k. test k ≡ other k) → any_from test i n ≡ any_from other i n
unfolding any_from
any_same test other i zero e = refl
any_same test other i (suc n) e = rw (e i (omega arith) (omega arith), any_same test other (i + 1) n (λ k a b. e k (omega arith) (omega arith)))

-- A search for the first: the answer k is among the numbers, passes, and none before it does.
pub first_found : (test : ℕ → Bool) (i n k : ℕ) → first_from test i n ≡ suc k
    → (i ≤ k) × (k < i + n) × (test k ≡ true) × ((j : ℕ) → i ≤ j → j < k → test j ≡ false)
unfolding first_from
first_found test i zero k e = absurd (omega arith)
first_found test i (suc n) k e = go (first_found test (i + 1) n k) (test i) refl
  where
    go : (first_from test (i + 1) n ≡ suc k → (i + 1 ≤ k) × (k < i + 1 + n) × (test k ≡ true) × ((j : ℕ) → i + 1 ≤ j → j < k → test j ≡ false))
        → (b : Bool) → test i ≡ b → (i ≤ k) × (k < i + suc n) × (test k ≡ true) × ((j : ℕ) → i ≤ j → j < k → test j ≡ false)
    go rest true q =
        let z : suc i ≡ suc k = rw q at e in
        let h : i ≡ k = omega arith in
        (omega arith, omega arith, rw (← h) q, λ j a b. absurd (omega arith))
    go rest false q =
        let w = rest (rw q at e) in
        (omega arith, omega arith, w.2, λ j a b. ⊎_elim (λ z. rw (← z) q) (λ h. w.3 j (omega arith) b) (eq-or-lt_of_le a))

pub first-none : (test : ℕ → Bool) (i n : ℕ) → first_from test i n ≡ 0 → Among i n (λ k. test k ≡ false)
unfolding first_from
first-none test i zero e = λ k a b. absurd (omega arith)
first-none test i (suc n) e = go (first-none test (i + 1) n) (test i) refl
  where
    go : (first_from test (i + 1) n ≡ 0 → Among (i + 1) n (λ k. test k ≡ false)) → (b : Bool) → test i ≡ b → Among i (suc n) (λ k. test k ≡ false)
    go rest true q = absurd (let z : suc i ≡ 0 = rw q at e in omega arith)
    go rest false q = among_suc (λ k. test k ≡ false) i n q (rest (rw q at e))

pub first_of : (test : ℕ → Bool) (i n k : ℕ) → i ≤ k → k < i + n → test k ≡ true → (p : ℕ) × (first_from test i n ≡ suc p)
first_of test i n k a b e = go (first_from test i n) refl
  where
    go : (f : ℕ) → first_from test i n ≡ f → (p : ℕ) × (first_from test i n ≡ suc p)
    go zero q = true-false (test k) e (first-none test i n q k a b)
    go (suc p) q = (p, q)

pub none_first : (test : ℕ → Bool) (i n : ℕ) → Among i n (λ k. test k ≡ false) → first_from test i n ≡ 0
none_first test i n h = go (first_from test i n) refl
  where
    go : (f : ℕ) → first_from test i n ≡ f → first_from test i n ≡ 0
    go zero q = q
    go (suc p) q = let w = first_found test i n p q in true-false (test p) w.2 (h p w.0 w.1)

pub first-same : (test other : ℕ → Bool) (i n : ℕ) → Among i n (λ k. test k ≡ other k) → first_from test i n ≡ first_from other i n
unfolding first_from
first-same test other i zero e = refl
first-same test other i (suc n) e = rw (e i (omega arith) (omega arith), first-same test other (i + 1) n (λ k a b. e k (omega arith) (omega arith)))

-- What is found is no further than the end.
pub first-le : (test : ℕ → Bool) (i n : ℕ) → first_from test i n ≤ i + n
unfolding first_from
first-le test i zero = omega arith
first-le test i (suc n) = pick (test i) (first-le test (i + 1) n)
  where
    pick : (b : Bool) → first_from test (i + 1) n ≤ i + 1 + n → cond b (suc i) (first_from test (i + 1) n) ≤ i + suc n
    pick true h = omega arith
    pick false h = omega arith

-- The lowest that passes is the one that is found.
pub first-is : (test : ℕ → Bool) (i n k : ℕ) → i ≤ k → k < i + n → test k ≡ true → ((j : ℕ) → i ≤ j → j < k → test j ≡ false) → first_from test i n ≡ suc k
unfolding first_from
first-is test i zero k a b e h = absurd (omega arith)
first-is test i (suc n) k a b e h =
    ⊎_elim (λ z. let q : test i ≡ true = rw z e in rw q (ap suc z))
    (λ l. rw (h i (omega arith) l) (first-is test (i + 1) n k (omega arith) (omega arith) e (λ j c d. h j (omega arith) d)))
    (eq-or-lt_of_le a)

-- Sums.
pub sum_same : (f g : ℕ → ℕ) (i n : ℕ) → Among i n (λ k. f k ≡ g k) → sum_from f i n ≡ sum_from g i n
unfolding sum_from
sum_same f g i zero e = refl
sum_same f g i (suc n) e = ap₂ ◌+◌ (e i (omega arith) (omega arith)) (sum_same f g (i + 1) n (λ k a b. e k (omega arith) (omega arith)))

pub count_same : (test other : ℕ → Bool) (i n : ℕ) → Among i n (λ k. test k ≡ other k) → count_from test i n ≡ count_from other i n
count_same test other i n e = sum_same (λ k. one_if (test k)) (λ k. one_if (other k)) i n (λ k a b. ap one_if (e k a b))

-- One term more at the end.
pub sum_suc : (f : ℕ → ℕ) (i n : ℕ) → sum_from f i (suc n) ≡ sum_from f i n + f (i + n)
unfolding sum_from
sum_suc f i zero = let e : i + 0 ≡ i = omega arith in omega (arith, ap f e)
sum_suc f i (suc n) =
    let e : i + 1 + n ≡ i + suc n = omega arith in
    let s : sum_from f (i + 1) (suc n) ≡ sum_from f (i + 1) n + f (i + suc n) = rw e at (sum_suc f (i + 1) n) in
    omega arith

pub count-suc : (test : ℕ → Bool) (n : ℕ) → count_from test 0 (suc n) ≡ count_from test 0 n + one_if (test n)
count-suc test n = let e : 0 + n ≡ n = omega arith in sum_suc (λ k. one_if (test k)) 0 n ∙ ap (λ (x : ℕ). count_from test 0 n + one_if (test x)) e

pub count_next : (test : ℕ → Bool) (n : ℕ) → count_from test 0 (n + 1) ≡ count_from test 0 n + one_if (test n)
count_next test n = rw (add-one n) (count-suc test n)

-- f, but 0 at y.
abbrev pub but : (ℕ → ℕ) → ℕ → ℕ → ℕ
but f y k = cond (eqb k y) 0 (f k)

but_skip : (f : ℕ → ℕ) (y i n : ℕ) → y < i → sum_from (but f y) i n ≡ sum_from f i n
but_skip f y i n h = sum_same (but f y) f i n (λ k a b. rw (ne_eqb k y (λ e. omega arith)))

pub but_one : (f : ℕ → ℕ) (y i n : ℕ) → i ≤ y → y < i + n → sum_from (but f y) i n + f y ≡ sum_from f i n
unfolding sum_from
but_one f y i zero h l = absurd (omega arith)
but_one f y i (suc n) h l = go (but_one f y (i + 1) n) (eqb i y) refl
  where
    go : (i + 1 ≤ y → y < i + 1 + n → sum_from (but f y) (i + 1) n + f y ≡ sum_from f (i + 1) n)
        → (b : Bool) → eqb i y ≡ b → cond (eqb i y) 0 (f i) + sum_from (but f y) (i + 1) n + f y ≡ f i + sum_from f (i + 1) n
    go rest true q = let e : i ≡ y = eqb-true i y q in let z : f i ≡ f y = ap f e in rw q (omega (arith, but_skip f y (i + 1) n (omega arith)))
    go rest false q = let d : i ≡ y → ⊥ = eqb-false i y q in rw q (omega (arith, rest (omega arith) (omega arith)))

pub term_le : (f : ℕ → ℕ) (y i n : ℕ) → i ≤ y → y < i + n → f y ≤ sum_from f i n
term_le f y i n h l = omega (arith, but_one f y i n h l)

-- Two terms at different numbers add up to no more than the sum.
pub two_terms_le : (f : ℕ → ℕ) (x y i n : ℕ) → i ≤ x → x < i + n → i ≤ y → y < i + n → (x ≡ y → ⊥) → f x + f y ≤ sum_from f i n
two_terms_le f x y i n hx lx hy ly d =
    let e : but f y x ≡ f x = rw (ne_eqb x y d) in
    omega (arith, but_one f y i n hy ly, term_le (but f y) x i n hx lx)

-- Counts: two that pass count 2 or more, so where at most one passes they are the same; where the count is not 0 one passes.
pub two_found : (test : ℕ → Bool) (i n x y : ℕ) → i ≤ x → x < i + n → i ≤ y → y < i + n → (x ≡ y → ⊥) → test x ≡ true → test y ≡ true → 2 ≤ count_from test i n
two_found test i n x y hx lx hy ly d ex ey =
    let a : one_if (test x) ≡ 1 = rw ex in
    let b : one_if (test y) ≡ 1 = rw ey in
    omega (arith, two_terms_le (λ k. one_if (test k)) x y i n hx lx hy ly d)

pub at_most_one : (test : ℕ → Bool) (n x y : ℕ) → count_from test 0 n ≤ 1 → x < n → y < n → test x ≡ true → test y ≡ true → x ≡ y
at_most_one test n x y e lx ly ex ey = go (eqb x y) refl
  where
    go : (b : Bool) → eqb x y ≡ b → x ≡ y
    go true q = eqb-true x y q
    go false q = absurd (omega (arith, two_found test 0 n x y zero-le (omega arith) zero-le (omega arith) (eqb-false x y q) ex ey))

pub some_found : (test : ℕ → Bool) (i n : ℕ) → 0 < count_from test i n → (k : ℕ) × (i ≤ k) × (k < i + n) × (test k ≡ true)
unfolding sum_from
some_found test i zero h = absurd (omega arith)
some_found test i (suc n) h = go (some_found test (i + 1) n) (test i) refl
  where
    go : (0 < count_from test (i + 1) n → (k : ℕ) × (i + 1 ≤ k) × (k < i + 1 + n) × (test k ≡ true)) → (b : Bool) → test i ≡ b
        → (k : ℕ) × (i ≤ k) × (k < i + suc n) × (test k ≡ true)
    go rest true q = (i, omega arith, omega arith, q)
    go rest false q = let z : one_if (test i) ≡ 0 = rw q in let w = rest (omega arith) in (w.0, omega arith, omega arith, w.3)

-- A count over 1: two different ones pass.
pub two_of : (test : ℕ → Bool) (i n : ℕ) → 1 < count_from test i n → (x y : ℕ) × (i ≤ x) × (x < y) × (y < i + n) × (test x ≡ true) × (test y ≡ true)
unfolding sum_from
two_of test i zero h = absurd (omega arith)
two_of test i (suc n) h = go (two_of test (i + 1) n) (some_found test (i + 1) n) (test i) refl
  where
    go : (1 < count_from test (i + 1) n → (x y : ℕ) × (i + 1 ≤ x) × (x < y) × (y < i + 1 + n) × (test x ≡ true) × (test y ≡ true))
        → (0 < count_from test (i + 1) n → (k : ℕ) × (i + 1 ≤ k) × (k < i + 1 + n) × (test k ≡ true))
        → (b : Bool) → test i ≡ b → (x y : ℕ) × (i ≤ x) × (x < y) × (y < i + suc n) × (test x ≡ true) × (test y ≡ true)
    go rest one true q = let z : one_if (test i) ≡ 1 = rw q in let w = one (omega arith) in (i, w.0, omega arith, omega arith, omega arith, q, w.3)
    go rest one false q = let z : one_if (test i) ≡ 0 = rw q in let w = rest (omega arith) in (w.0, w.1, omega arith, w.3, omega arith, w.5, w.6)

-- A list of f at numbers: its length, its elements, two that agree.
pub tab-length : {A : Type 0} (f : ℕ → A) (i n : ℕ) → length (tab f i n) ≡ n
unfolding tab
tab-length f i zero = refl
tab-length f i (suc n) = ap suc (tab-length f (i + 1) n)

pub tab_get_d : {A : Type 0} (f : ℕ → A) (d : A) (i n k : ℕ) → k < n → get_or (tab f i n) k d ≡ f (i + k)
unfolding tab
tab_get_d f d i zero k h = absurd (omega arith)
tab_get_d f d i (suc n) zero h = let e : i + 0 ≡ i = omega arith in rw e
tab_get_d f d i (suc n) (suc k) h = let e : i + suc k ≡ i + 1 + k = omega arith in rw e (tab_get_d f d (i + 1) n k (omega arith))

pub tab-at : {A : Type 0} (f : ℕ → A) (d : A) (n k : ℕ) → k < n → get_or (tab f 0 n) k d ≡ f k
tab-at f d n k h = let e : 0 + k ≡ k = omega arith in tab_get_d f d 0 n k h ∙ ap f e

pub tab_past : {A : Type 0} (f : ℕ → A) (d : A) (i n k : ℕ) → n ≤ k → get_or (tab f i n) k d ≡ d
unfolding tab
tab_past f d i zero k h = refl
tab_past f d i (suc n) zero h = absurd (omega arith)
tab_past f d i (suc n) (suc k) h = tab_past f d (i + 1) n k (omega arith)

pub tab-same : {A : Type 0} (f g : ℕ → A) (i n : ℕ) → Among i n (λ k. f k ≡ g k) → tab f i n ≡ tab g i n
unfolding tab
tab-same f g i zero e = refl
tab-same f g i (suc n) e = ap₂ ◌∷◌ (e i (omega arith) (omega arith)) (tab-same f g (i + 1) n (λ k a b. e k (omega arith) (omega arith)))

-- A test that makes the whole true is false where the whole is.
pub off : (whole part : Bool) → (part ≡ true → whole ≡ true) → whole ≡ false → part ≡ false
off whole part f h = not_so part (λ e. true-false whole (f e) h)
