-- The verdict over the rules, one rule a step. Assumes nothing.
use Prim.Native.Nat.{ℕ, zero, suc, ◌≤◌, ◌<◌}
use mathlib.Core.Path.{◌≡◌, refl, sym, ◌∙◌}
use mathlib.Core.Bool.{Bool}
use Rattle.std.proofs.Common.{List, [], ◌∷◌, Option, Some, None, Result, Ok, Err}
use native.Mathlib.Omega.{arith}
use Rattle.csdl.specs.Accepted.{Kept}
use Rattle.csdl.specs.Model.{Model, places}
use Rattle.csdl.specs.Search.{first_from, found}
use Rattle.csdl.specs.Verdict.{Answer, Stage, broken_at, refuse, verdict}
use Rattle.csdl.specs.Verdict.Answer.{refused}
use Rattle.csdl.specs.Verdict.Stage.{each}
use Rattle.csdl.specs.declared.Record.{Record}
use Rattle.csdl.specs.declared.Refusal.{Refusal}
use Rattle.csdl.proofs.Logic.{first-none}
use Rattle.model_rules.specs.Stages.{lowest_place, refusal}

module _ (n rule : ℕ) (test : ℕ → Bool) (rest : List Stage) (o : Answer) where
  pub kept_next : refusal rule (found (first_from test 0 n)) ≡ Ok tt → verdict n (each rule test ∷ rest) o ≡ verdict n rest o
  unfolding verdict
  kept_next = go (first_from test 0 n) where
    go : (x : ℕ) → refusal rule (found x) ≡ Ok tt → refuse rule x (verdict n rest o) ≡ verdict n rest o
    go zero e = refl
    go (suc k) e = cc

  pub broken_here : (r : Refusal) → refusal rule (found (first_from test 0 n)) ≡ Err r → verdict n (each rule test ∷ rest) o ≡ refused r.rule r.place
  unfolding verdict
  broken_here r = go (first_from test 0 n) where
    go : (x : ℕ) → refusal rule (found x) ≡ Err r → refuse rule x (verdict n rest o) ≡ refused r.rule r.place
    go zero e = cc
    go (suc k) e = cc

pub none_left : (n : ℕ) (o : Answer) → verdict n [] o ≡ o
unfolding verdict
none_left n o = refl

pub ruleset steps = (kept_next, broken_here, none_left)

-- A rule that refuses nowhere is unbroken.
pub kept_by : (number : ℕ) {x : Option ℕ} {r : Result (Unit {0}) Refusal} (m : Model) (rule : Model → Record → Bool)
    → x ≡ found (lowest_place m rule) → r ≡ refusal number x → r ≡ Ok tt → Kept m rule
unfolding lowest_place
kept_by number m rule e f g place h =
    first-none (broken_at m rule) 0 (places m) (none (first_from (broken_at m rule) 0 (places m)) (cc (e, f, g))) place (omega arith) (omega arith)
  where
    none : (x : ℕ) → refusal number (found x) ≡ Ok tt → x ≡ 0
    none zero e = refl
    none (suc k) e = cc
