-- The tests that the rules put to the steps of a path, over the codes of the path.
use Rattle.std.specs.Prelude.{ℕ, ◌-◌, ◌<◌, ◌≡◌, List, Bool, ◌||◌, get_or}
use Rattle.csdl.specs.Search.{any_from}
use Rattle.path_resolution.specs.Resolution.{is_code, last_code}

-- What a closure returns for a property, by its `post`, is what the test says of it.
abbrev pub Tests : (ℕ → Bool → Type 0) → (ℕ → Bool) → Type 0
Tests post test = (p : ℕ) (b : Bool) → p < 32768 → post p b → b ≡ test p

-- One of the first n codes is that of a property that passes.
abbrev pub any_code : (ℕ → Bool) → List ℕ → ℕ → Bool
any_code test codes n = any_from (λ k. is_code test (get_or codes k 0)) 0 n

-- Of n codes one before the last passes the first test, or the last passes the second.
abbrev pub step_or_end : (ℕ → Bool) → (ℕ → Bool) → List ℕ → ℕ → Bool
step_or_end step end codes n = any_code step codes (n - 1) || is_code end (last_code codes n)
