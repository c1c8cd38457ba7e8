-- Rule 16, of the codes of a constraint's paths and their last properties.
use Rattle.std.specs.Prelude.{ℕ, List, Bool, not, ◌||◌, get_or}
use Rattle.csdl.specs.Search.{any_from}
use Rattle.csdl.specs.declared.Run.{Run}
use Rattle.csdl.specs.Model.{Model}
use Rattle.csdl.specs.Paths.{constraint_step, other_shape, other_nullable}
use Rattle.path_resolution.specs.Resolution.{cast_code, last_code, number_of}
use Rattle.path_resolution.specs.Coded.{run_of}
use Rattle.path_steps.specs.Steps.{step_or_end}

-- 16a, 16e, 16f
unfoldable pub constraint_ends : Model → ℕ → ℕ → ℕ → Bool
constraint_ends m p d r = not (m.navigation p) || m.collection p || other_shape m d r || other_nullable m p d r

-- 16b to 16d, of the n codes of a path.
unfoldable pub constraint_codes : Model → List ℕ → ℕ → Bool
constraint_codes m codes n = any_from (λ k. cast_code (get_or codes k 0)) 0 n || step_or_end (λ p. not (constraint_step m p)) (λ p. m.navigation p) codes n || cast_code (last_code codes n)

-- The same of a path, by the codes of all segments; its last property.
unfoldable pub constraint_fails : Model → List ℕ → Run → Bool
constraint_fails m codes p = constraint_codes m (run_of codes p.first p.count) p.count

unfoldable pub constraint_end : List ℕ → Run → ℕ
constraint_end codes p = number_of (last_code (run_of codes p.first p.count) p.count)

-- Rule 16 of constraint c, by the codes of all segments.
unfoldable pub constraint_coded : Model → List ℕ → ℕ → Bool
constraint_coded m codes c =
    constraint_fails m codes (m.dependent c) || constraint_fails m codes (m.principal c)
    || constraint_ends m (m.constrained c) (constraint_end codes (m.dependent c)) (constraint_end codes (m.principal c))
