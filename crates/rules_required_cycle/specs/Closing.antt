-- 64 sets whose rows have gone through one number more, and through all.
use Rattle.std.specs.Prelude.{ℕ, ◌<◌, ◌≡◌, List, ◌&&◌, ◌||◌}
use Rattle.csdl.specs.Climb.{reaches}
use Rattle.type_hierarchy.specs.Sets.{step_of}

-- The rows below n went through c: each that had c has got what row c had.
abbrev pub Through : ℕ → ℕ → List ℕ → List ℕ → Type 0
Through n c before after = (a b : ℕ) → a < n → b < 64 → step_of after a b ≡ (step_of before a b || (step_of before a c && step_of before c b))

-- The rows below n have what their numbers reach through numbers below n.
abbrev pub Closed : ℕ → List ℕ → List ℕ → Type 0
Closed n before after = (a b : ℕ) → a < n → b < n → step_of after a b ≡ reaches (step_of before) n a b
