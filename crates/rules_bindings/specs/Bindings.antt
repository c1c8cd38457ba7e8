-- Rule 19, out of the codes of all segments.
use Rattle.std.specs.Prelude.{ℕ, ◌+◌, ◌-◌, ◌*◌, List, Bool, cond, not, ◌&&◌, ◌||◌, eqb, ltb, get_or}
use Rattle.csdl.specs.Search.{any_from}
use Rattle.csdl.specs.Model.{Model}
use Rattle.csdl.specs.Find.{ancestor_or_self, contain_step}
use Rattle.csdl.specs.Path.{path_of}
use Rattle.csdl.specs.declared.PathKind.TheVariants.{Binding, Target}
use Rattle.csdl.specs.Paths.{non_containment, target_step, binding19e}
use Rattle.path_resolution.specs.Resolution.{cast_code, last_name, form_of}
use Rattle.path_steps.specs.Steps.{step_or_end}
use Rattle.rules_bindings.specs.Runs.{path_run, run_end}

-- 19a to 19c, of the n codes of a path.
unfoldable pub binding_codes : Model → List ℕ → ℕ → Bool
binding_codes m codes n = form_of (λ p. non_containment m p) (λ p. non_containment m p) codes (last_name codes n)

-- The class of a code: for a property the first that has its name, plus 1, by the index of the names; a cast is its own.
unfoldable pub class_of : List ℕ → ℕ → ℕ
class_of index c = cond (ltb c 512) (get_or index (512 + c) 0) c

abbrev pub class_at : Model → List ℕ → List ℕ → ℕ → ℕ → ℕ
class_at m index codes b k = class_of index (get_or codes ((m.binding_path b).first + k) 0)

-- 19d, of two bindings: the same child, as many segments, and no segment of another class.
unfoldable pub again_bound : Model → List ℕ → List ℕ → ℕ → ℕ → Bool
again_bound m index codes j b =
    eqb (m.binding_child j) (m.binding_child b)
    && eqb (m.binding_path j).count (m.binding_path b).count
    && not (any_from (λ k. not (eqb (class_at m index codes j k) (class_at m index codes b k))) 0 (m.binding_path b).count)

unfoldable pub binding_again : Model → List ℕ → List ℕ → ℕ → Bool
binding_again m index codes b = any_from (λ j. again_bound m index codes j b) 0 b

-- Binding b by its child, the number of its segments, and the class of the last: bindings whose fingerprints differ are not alike.
unfoldable pub binding_fingerprint : Model → List ℕ → List ℕ → ℕ → ℕ
binding_fingerprint m index codes b =
    let n = (m.binding_path b).count in
    (m.binding_child b * 16 + n) * 4294967296 + cond (eqb n 0) 0 (class_at m index codes b (n - 1))

-- 19f, 19g, of the n codes of a target path.
unfoldable pub target_codes : Model → List ℕ → ℕ → Bool
target_codes m codes n = any_from (λ k. cast_code (get_or codes k 0)) 0 n || step_or_end (λ p. not (target_step m p)) (λ p. not (contain_step m p)) codes n

-- 19h, of the types at the ends of the two paths.
unfoldable pub ends_apart : Model → ℕ → ℕ → Bool
ends_apart m a b = not (ancestor_or_self m a b) && not (ancestor_or_self m b a)

-- 19a to 19c, and 19f, 19g, of the paths of binding b.
abbrev pub path_fails : Model → List ℕ → ℕ → Bool
path_fails m codes b = binding_codes m (path_run m codes Binding b) (path_of m Binding b).count

abbrev pub target_fails : Model → List ℕ → ℕ → Bool
target_fails m codes b = target_codes m (path_run m codes Target b) (path_of m Target b).count

-- 19a to 19c, 19e to 19h of binding b.
unfoldable pub binding_paths_fail : Model → List ℕ → ℕ → Bool
binding_paths_fail m codes b =
    path_fails m codes b
    || binding19e m b
    || target_fails m codes b
    || ends_apart m (run_end m codes Binding b) (run_end m codes Target b)

-- Rule 19 of binding b.
unfoldable pub binding_coded : Model → List ℕ → List ℕ → ℕ → Bool
binding_coded m index codes b =
    path_fails m codes b
    || binding_again m index codes b
    || binding19e m b
    || target_fails m codes b
    || ends_apart m (run_end m codes Binding b) (run_end m codes Target b)
