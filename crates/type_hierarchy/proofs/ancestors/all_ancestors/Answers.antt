use Prim.Native.Nat.{ℕ}
use mathlib.Core.Path.{◌≡◌, ap, ◌∙◌}
use mathlib.Core.List.{List}
use lib.ListN.{length}
use native.Mathlib.Omega.{arith}
use Rattle.model_image.specs.Read.{model_read}
use Rattle.csdl.specs.Model.{model_of}
use Rattle.type_hierarchy.proofs.AncestorSets.{alone, rows_start, rows_more, rows_size, bases_most}
use borrow.Author.Rules.{rules}
use Rattle.type_hierarchy.proofs.ancestors.all_ancestors.Goals as goal

pub loop-t-init : goal.loop-t-init
loop-t-init c = (search rules, search rules, rows_start _)

pub with_above-requires : goal.with_above-requires
unfolding model_read model_of
with_above-requires c = (search rules, bases_most _ c.bases_of-bases.result c.bases_of-bases.ensures)

pub bounds-ancestors-t : goal.bounds-ancestors-t
bounds-ancestors-t c = let e : length c.loop-t.ancestors ≡ 64 = ap (λ (x : List ℕ). length x) c.loop-t.invariant.2 ∙ rows_size _ _ in omega (arith, e)

pub loop-t-preserved : goal.loop-t-preserved
unfolding model_read model_of
loop-t-preserved c = (omega arith, omega arith, rw c.loop-t.invariant.2 (rows_more _ c.loop-t.t _ (omega arith) (omega arith) (alone _ _ c.bases_of-bases.ensures _ _ _ c.with_above.ensures)))

pub returns : goal.returns
unfolding model_read model_of
returns c = let e : c.loop-t.t ≡ c.type_count-count.result = omega arith in rw (← c.type_count-count.ensures.0) (rw e at c.loop-t.invariant.2)
