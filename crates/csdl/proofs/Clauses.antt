-- Laws of single clauses: a test of a number that may be none, the two clauses of rule 14 together, the list of the kinds of path.
use Prim.Native.Nat.{ℕ, zero, suc, ◌-◌}
use mathlib.Core.Path.{◌≡◌, refl}
use mathlib.Core.Bool.{Bool, true, false, not, ◌&&◌, ◌||◌}
use native.Mathlib.Omega.{arith}
use lib.Dec.{eqb, eqb-suc-zero}
use Rattle.csdl.specs.Search.{some, if_found}
use Rattle.csdl.specs.Model.{Model}
use Rattle.csdl.specs.Path.{kinds}
use Rattle.csdl.specs.declared.PathKind.{PathKind}
use Rattle.csdl.specs.declared.PathKind.TheVariants.{Partner, Key, Dependent, Principal, Binding, Target}
use Rattle.csdl.specs.Paths.{unresolved, segment14}
use Rattle.csdl.proofs.Logic.{or_no}

-- A test of a number that may be none: it is there, and passes.
pub if_found_lem : (test : ℕ → Bool) (n : ℕ) → if_found false test n ≡ (not (eqb n 0) && test (n - 1))
if_found_lem test zero = refl
if_found_lem test (suc k) = let o : suc k - 1 ≡ k = omega arith in rw (eqb-suc-zero k, o)

-- Rule 14 is broken at the segments that do not resolve, names and casts.
pub rule14-is : (m : Model) (g : ℕ) → segment14 m g ≡ unresolved m g
unfolding segment14
rule14-is m g = either (m.is_cast g) (unresolved m g)
  where
    either : (c u : Bool) → (not c && u || c && u) ≡ u
    either true u = refl
    either false true = refl
    either false false = refl

-- The list of kinds is complete: a test that no kind of it passes is passed by none.
pub no_kind : (test : PathKind → Bool) → some test kinds ≡ false → (w : PathKind) → test w ≡ false
unfolding some
no_kind test e Partner = (or_no (test Partner) _ e).0
no_kind test e Key = (or_no (test Key) _ (or_no (test Partner) _ e).1).0
no_kind test e Dependent = (or_no (test Dependent) _ (or_no (test Key) _ (or_no (test Partner) _ e).1).1).0
no_kind test e Principal = (or_no (test Principal) _ (or_no (test Dependent) _ (or_no (test Key) _ (or_no (test Partner) _ e).1).1).1).0
no_kind test e Binding =
    (or_no (test Binding) _ (or_no (test Principal) _ (or_no (test Dependent) _ (or_no (test Key) _ (or_no (test Partner) _ e).1).1).1).1).0
no_kind test e Target =
    (or_no (test Target) _
    (or_no (test Binding) _ (or_no (test Principal) _ (or_no (test Dependent) _ (or_no (test Key) _ (or_no (test Partner) _ e).1).1).1).1).1).0
