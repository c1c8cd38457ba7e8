-- Rule 17, out of the codes of all segments, of a property p and the property q that its partner path leads to.
use Rattle.std.specs.Prelude.{ℕ, ◌-◌, List, Bool, cond, not, ◌&&◌, ◌||◌, eqb}
use Rattle.csdl.specs.Search.{any_from}
use Rattle.csdl.specs.Model.{Model, present}
use Rattle.csdl.specs.Find.{ancestor_or_self, top}
use Rattle.csdl.specs.Path.{path_of}
use Rattle.csdl.specs.declared.PathKind.TheVariants.{Partner}
use Rattle.path_resolution.specs.Resolution.{is_code, number_of, last_code}
use Rattle.path_steps.specs.Steps.{any_code}
use Rattle.rules_bindings.specs.Runs.{path_run}

-- The code of the last step of the partner path of p; that of nothing where it has none.
unfoldable pub partner_last : Model → List ℕ → ℕ → ℕ
partner_last m codes p = last_code (path_run m codes Partner p) (path_of m Partner p).count

-- 17a, 17b, of the n codes of a path.
unfoldable pub partner_codes : Model → List ℕ → ℕ → Bool
partner_codes m codes n = not (is_code (λ p. m.navigation p) (last_code codes n)) || any_code (λ p. m.navigation p) codes (n - 1)

-- 17d
unfoldable pub other_partner : Model → List ℕ → ℕ → ℕ → Bool
other_partner m codes p q = present (m.partner q) && not (is_code (λ x. eqb x p) (partner_last m codes q))

-- 17e
unfoldable pub contained_partner : Model → ℕ → ℕ → Bool
contained_partner m p q = m.contains p && cond (eqb (top m (m.owner p)) (top m (m.type_ref p))) (not (m.nullable q)) (m.nullable q)

-- 17f
unfoldable pub other_contains : Model → List ℕ → ℕ → ℕ → Bool
other_contains m codes p q = not (eqb q p) && present (m.partner q) && ancestor_or_self m (m.owner q) (m.owner p) && is_code (λ x. m.contains x) (partner_last m codes q)

unfoldable pub shared_containment : Model → List ℕ → ℕ → ℕ → Bool
shared_containment m codes p q = m.contains q && any_from (λ x. other_contains m codes p x) 0 m.properties

-- 17c to 17f
unfoldable pub partner_ends : Model → List ℕ → ℕ → ℕ → Bool
partner_ends m codes p q = not (ancestor_or_self m (m.type_ref q) (m.owner p)) || other_partner m codes p q || contained_partner m p q || shared_containment m codes p q

-- Rule 17 of property p.
unfoldable pub partner_coded : Model → List ℕ → ℕ → Bool
partner_coded m codes p =
    present (m.partner p) && (partner_codes m (path_run m codes Partner p) (path_of m Partner p).count || partner_ends m codes p (number_of (partner_last m codes p)))
