use Prim.Native.Nat.{ℕ}
use mathlib.Core.Path.{◌≡◌, ap, ◌∙◌}
use mathlib.Core.List.{List}
use lib.ListN.{length}
use native.Mathlib.Omega.{arith}
use Rattle.model_image.specs.Read.{model_read}
use Rattle.csdl.specs.Model.{model_of}
use Rattle.csdl.proofs.Logic.{tab-length}
use Rattle.type_hierarchy.proofs.Tables.{tab-more}
use Rattle.type_hierarchy.proofs.AncestorSets.{bases_start, bases_end}
use borrow.Author.Rules.{rules}
use Rattle.type_hierarchy.proofs.ancestors.bases_of.Goals as goal

pub loop-t-init : goal.loop-t-init
loop-t-init c = (search rules, search rules, bases_start _)

pub bounds-bases-t : goal.bounds-bases-t
bounds-bases-t c = let e : length c.loop-t.bases ≡ 128 = ap (λ (x : List ℕ). length x) c.loop-t.invariant.2 ∙ tab-length _ 0 128 in omega (arith, e)

pub loop-t-preserved : goal.loop-t-preserved
unfolding model_read model_of
loop-t-preserved c = (omega arith, omega arith, rw c.loop-t.invariant.2 (tab-more _ 128 c.loop-t.t _ (omega arith) c.type_base.ensures.0))

pub returns : goal.returns
unfolding model_read model_of
returns c = λ t. rw c.loop-t.invariant.2 (bases_end _ c.loop-t.t t (omega (arith, c.type_count-t-end.ensures.0)) c.args.model.now.few_types)
