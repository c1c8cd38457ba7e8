-- How near an answer is on a climb.
use Rattle.std.specs.Prelude.{ℕ, zero, suc, eqb}
use Rattle.csdl.specs.Search.{one_if, if_found}

-- l where there is an answer, else r.
abbrev pub left_or : ℕ → ℕ → ℕ → ℕ
left_or zero l r = r
left_or (suc o) l r = l

-- How many of the numbers are left where the climb from t first meets one with an answer, that one among them; 0 where it meets none.
unfoldable pub left_at : (ℕ → ℕ) → (ℕ → ℕ) → ℕ → ℕ → ℕ
left_at own next zero t = 0
left_at own next (suc left) t = left_or (own t) (suc left) (if_found 0 (λ b. left_at own next left b) (next t))

-- The number w alone has an answer.
abbrev pub only : ℕ → ℕ → ℕ
only w t = one_if (eqb w t)
