-- Searches and counts over numbers, and lists made of them. Every loop of the definitions is one of these.
use Rattle.std.specs.Prelude.{ℕ, zero, suc, ◌+◌, List, [], ◌∷◌, ◌++◌, Bool, true, false, cond, not, ◌&&◌, ◌||◌, Option, Some, None}

-- The first of the n numbers from i on that passes the test, plus 1; 0 where none does.
unfoldable pub first_from : (ℕ → Bool) → ℕ → ℕ → ℕ
first_from test i zero = 0
first_from test i (suc n) = let rest = first_from test (i + 1) n in cond (test i) (suc i) rest

-- Some of the n numbers from i on passes the test.
unfoldable pub any_from : (ℕ → Bool) → ℕ → ℕ → Bool
any_from test i zero = false
any_from test i (suc n) = let rest = any_from test (i + 1) n in cond (test i) true rest

-- 1 for true, 0 for false.
abbrev pub one_if : Bool → ℕ
one_if true = 1
one_if false = 0

-- The sum of f over the n numbers from i on.
unfoldable pub sum_from : (ℕ → ℕ) → ℕ → ℕ → ℕ
sum_from f i zero = 0
sum_from f i (suc n) = f i + sum_from f (i + 1) n

-- How many of the n numbers from i on pass the test.
abbrev pub count_from : (ℕ → Bool) → ℕ → ℕ → ℕ
count_from test i n = sum_from (λ k. one_if (test k)) i n

-- f at the n numbers from i on, as a list.
unfoldable pub tab : {A : Type 0} → (ℕ → A) → ℕ → ℕ → List A
tab f i zero = []
tab f i (suc n) = f i ∷ tab f (i + 1) n

-- Each element replaced by a list, in order.
unfoldable pub flat : {A B : Type 0} → (A → List B) → List A → List B
flat f [] = []
flat f (x ∷ l) = f x ++ flat f l

-- Every element passes the test; some element does.
unfoldable pub all : {A : Type 0} → (A → Bool) → List A → Bool
all test [] = true
all test (x ∷ l) = test x && all test l

unfoldable pub some : {A : Type 0} → (A → Bool) → List A → Bool
some test [] = false
some test (x ∷ l) = test x || some test l

-- The sum of f over the elements.
unfoldable pub sum_of : {A : Type 0} → (A → ℕ) → List A → ℕ
sum_of f [] = 0
sum_of f (x ∷ l) = f x + sum_of f l

-- All elements but the last.
unfoldable pub but_last : {A : Type 0} → List A → List A
but_last [] = []
but_last (x ∷ []) = []
but_last (x ∷ (y ∷ l)) = x ∷ but_last (y ∷ l)

-- The last element, or d where there is none.
unfoldable pub last_or : {A : Type 0} → A → List A → A
last_or d [] = d
last_or d (x ∷ l) = last_or x l

-- There is no element; there is a last one, and it does not pass the test.
unfoldable pub is_empty : {A : Type 0} → List A → Bool
is_empty [] = true
is_empty (x ∷ l) = false

unfoldable pub last_fails : {A : Type 0} → (A → Bool) → List A → Bool
last_fails test [] = false
last_fails test (x ∷ l) = not (test (last_or x l))

-- A partial answer is 0 for none, else a number plus 1. What f makes of the number; d for none.
abbrev pub if_found : {A : Type 0} → A → (ℕ → A) → ℕ → A
if_found d f zero = d
if_found d f (suc k) = f k

-- The same as an option, as the code answers it.
abbrev pub found : ℕ → Option ℕ
found zero = None
found (suc k) = Some k

-- A record that was found (0 for none, else its number plus 1), as a place (0 for none, else the place plus 1): the table's records start at
-- place `first`.
abbrev pub place_found : ℕ → ℕ → ℕ
place_found first zero = 0
place_found first (suc k) = first + suc k

-- The first of two partial answers.
abbrev pub or_else : ℕ → ℕ → ℕ
or_else zero r = r
or_else (suc p) r = suc p
