-- A path resolved: a code for each segment, how many segments resolve, and the type reference at the end.
use Rattle.std.specs.Prelude.{ℕ, zero, suc, ◌+◌, ◌-◌, ◌≤◌, ◌<◌, ◌≡◌, List, Bool, true, cond, not, ◌&&◌, ◌||◌, eqb, ltb, leb, length, get_or}
use Rattle.csdl.specs.Search.{tab, any_from, count_from}
use Rattle.csdl.specs.Model.{Model}
use Rattle.csdl.specs.Path.{Step, Segment, segment_at, step_at, resolves, end_of}
use Rattle.csdl.specs.Path.Step.{nothing}
use Rattle.csdl.specs.Verdict.{step_code}

-- The first k segments of the path that starts at segment `first`.
abbrev pub prefix : Model → ℕ → ℕ → List Segment
prefix m first k = tab (λ g. segment_at m g) first k

-- What segment number k of the path from type `start` resolves to, and its code.
unfoldable pub step_no : Model → ℕ → ℕ → ℕ → Step
step_no m start first k = step_at m (end_of m start (prefix m first k)) (segment_at m (first + k))

unfoldable pub code_at : Model → ℕ → ℕ → ℕ → ℕ
code_at m start first k = step_code (step_no m start first k)

-- Tests of a code: no property, which under rule 14 is a cast; a property that passes the test; a property that does not. The property of
-- a code, 0 where it is none.
abbrev pub cast_code : ℕ → Bool
cast_code c = leb 32768 c

abbrev pub is_code : (ℕ → Bool) → ℕ → Bool
is_code test c = ltb c 32768 && test c

abbrev pub other_code : (ℕ → Bool) → ℕ → Bool
other_code test c = ltb c 32768 && not (test c)

abbrev pub number_of : ℕ → ℕ
number_of c = cond (ltb c 32768) c 0

-- The last of n codes; that of nothing where there is none.
unfoldable pub last_code : List ℕ → ℕ → ℕ
last_code codes n = cond (eqb n 0) (step_code nothing) (get_or codes (n - 1) 0)

-- The type reference that a code moves to, and the one at the end of n codes, from type `start` on.
unfoldable pub code_to : Model → ℕ → ℕ
code_to m c = cond (ltb c 32768) (m.type_ref c) (c - 32768)

unfoldable pub code_end : Model → ℕ → List ℕ → ℕ → ℕ
code_end m start codes n = cond (eqb n 0) start (code_to m (get_or codes (n - 1) 0))

-- Where the last name of n codes stands, which casts may follow: 0 for none, else its number plus 1.
unfoldable pub last_name : List ℕ → ℕ → ℕ
last_name codes zero = 0
last_name codes (suc n) = let rest = last_name codes n in cond (cast_code (get_or codes n 0)) rest (suc n)

-- The form of a binding's path up to its last name: none, or it does not pass the test, or an earlier name passes the other test.
unfoldable pub form_of : (ℕ → Bool) → (ℕ → Bool) → List ℕ → ℕ → Bool
form_of test across codes zero = true
form_of test across codes (suc j) = not (test (get_or codes j 0)) || any_from (λ k. is_code across (get_or codes k 0)) 0 j

-- The codes of the first n segments, and zeros up to 16; how many segments resolve before the first that does not.
unfoldable pub codes_to : Model → ℕ → ℕ → ℕ → List ℕ
codes_to m start first n = tab (λ k. cond (ltb k n) (code_at m start first k) 0) 0 16

unfoldable pub resolved_count : Model → ℕ → ℕ → ℕ → ℕ
resolved_count m start first n = count_from (λ k. resolves m start (prefix m first (k + 1))) 0 n

-- The path of `count` segments from `first` on, from type `start`: the codes of its segments, how many of them resolve before the
-- first that does not, and the type reference at its end.
pub record ResolvedTo (m : Model) (start first count : ℕ) (codes : List ℕ) (taken end : ℕ) : Type 0 where
  pub size : length codes ≡ 16
  pub code : (k : ℕ) → k < count → get_or codes k 0 ≡ code_at m start first k
  pub rest : (k : ℕ) → count ≤ k → k < 16 → get_or codes k 0 ≡ 0
  pub most : taken ≤ count
  pub reach : (k : ℕ) → k ≤ count → resolves m start (prefix m first k) ≡ leb k taken
  pub goal : end ≡ end_of m start (prefix m first count)
