-- From the rules that a model keeps to what the codes rest on. Assumes nothing.
use Prim.Native.Nat.{◌≤◌}
use native.Mathlib.Omega.{arith}
use Rattle.csdl.specs.Model.{Model}
use Rattle.csdl.specs.Form.{rule4}
use Rattle.csdl.specs.Paths.{rule13}
use Rattle.csdl.specs.Accepted.{Kept}
use Rattle.csdl.proofs.Numbers.{numbers_fit}
use Rattle.csdl.proofs.Places.{of_segment}
use Rattle.rules_segments.specs.Kept.{Resolvable}

module _ (m : Model) (kept4 : Kept m rule4) (kept13 : Kept m rule13) where
  pub resolvable : m.types ≤ 32768 → m.properties ≤ 32768 → Resolvable m
  resolvable few-types few = record {
    in_table = (numbers_fit m kept4).path-there;
    once = λ g h. of_segment m rule13 kept13 g h;
    casts_small = λ g h e. omega (arith, (numbers_fit m kept4).cast-there g h e);
    few = few;
  }
