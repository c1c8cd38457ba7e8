use Prim.Native.Nat.{ℕ}
use mathlib.Core.Path.{◌≡◌, refl}
use mathlib.Core.Bool.{Bool, false, ◌&&◌}
use Rattle.csdl.specs.Properties.{same_name}
use Rattle.model_image.specs.Read.{model_read}
use Rattle.lookup.proofs.Looking.{remaining}
use Rattle.rules_redeclaration.proofs.Along.{Searched}
use Rattle.rules_redeclaration.proofs.Tests.{and_only}
use Rattle.rules_redeclaration.proofs.first_alike_that.Given as goal

abbrev pub invariant-loop-at : goal.invariant-loop-at
invariant-loop-at g l = Searched l.lookup l.p (λ q. false) (λ q h. refl) l.at × ((passes : ℕ → Bool) → ((q : ℕ) (b : Bool) → goal.F-post g l.test q b → b ≡ passes q)
    → Searched l.lookup l.p (λ q. passes q && same_name (model_read l.lookup.hierarchy.model) l.p q) (λ q h. and_only (passes q) _ h) l.at)

abbrev pub decreases-loop-at : goal.decreases-loop-at
decreases-loop-at g l = remaining (model_read l.lookup.hierarchy.model).properties l.at
