-- The steps that a type has by its own properties.
use Rattle.std.specs.Prelude.{ℕ, ◌<◌, List, Bool, ◌&&◌, eqb, get_or}
use Rattle.csdl.specs.Search.{any_from}
use Rattle.csdl.specs.Model.{Model}
use Rattle.csdl.specs.Properties.{required}
use Rattle.type_hierarchy.specs.Sets.{Members}

-- p is required, leads to u, and is of type t.
unfoldable pub own_step : Model → ℕ → ℕ → ℕ → Bool
own_step m t u p = required m p && eqb (m.type_ref p) u && eqb (m.owner p) t

-- Row t has the steps that the first n properties give to t.
abbrev pub Owned : Model → ℕ → List ℕ → Type 0
Owned m n rows = (t : ℕ) → t < 64 → Members 64 (get_or rows t 0) (λ u. any_from (λ p. own_step m t u p) 0 n)
