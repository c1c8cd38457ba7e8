-- Rule 19, asked in two tests. Assumes nothing.
use Prim.Native.Nat.{ℕ}
use mathlib.Core.Path.{◌≡◌, refl}
use mathlib.Core.List.{List}
use mathlib.Core.Bool.{Bool, true, false, ◌||◌}
use Rattle.csdl.specs.Model.{Model}
use Rattle.csdl.specs.declared.PathKind.TheVariants.{Binding, Target}
use Rattle.csdl.specs.Paths.{binding19e}
use Rattle.rules_bindings.specs.Runs.{run_end}
use Rattle.rules_bindings.specs.Bindings.{binding_again, ends_apart, path_fails, target_fails, binding_paths_fail, binding_coded}

or_last : (a d e t x : Bool) → (a || e || t || x || d) ≡ (a || d || e || t || x)
or_last true d e t x = refl
or_last false true true t x = refl
or_last false true false true x = refl
or_last false true false false true = refl
or_last false true false false false = refl
or_last false false true t x = refl
or_last false false false true x = refl
or_last false false false false true = refl
or_last false false false false false = refl

pub binding_split : (m : Model) (index codes : List ℕ) (b : ℕ) → (binding_paths_fail m codes b || binding_again m index codes b) ≡ binding_coded m index codes b
unfolding binding_paths_fail binding_coded
binding_split m index codes b =
    or_last (path_fails m codes b) (binding_again m index codes b) (binding19e m b) (target_fails m codes b) (ends_apart m (run_end m codes Binding b) (run_end m codes Target b))
