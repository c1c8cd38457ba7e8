use native.Mathlib.Omega.{arith}
use Rattle.model_image.specs.Read.{model_read}
use Rattle.csdl.specs.Model.{model_of}
use Rattle.csdl.specs.Find.{ancestor}
use Rattle.type_hierarchy.proofs.AncestorSets.{alone, bases_most, ancestors_past}
use borrow.Author.Rules.{rules}
use Rattle.type_hierarchy.proofs.ancestors.ancestors_of.Goals as goal

pub with_above-requires : goal.with_above-requires
unfolding model_read model_of
with_above-requires c = (search rules, bases_most _ c.bases_of-bases.result c.bases_of-bases.ensures)

pub returns-then-t-lt64 : goal.returns-then-t-lt64
unfolding model_read model_of ancestor
returns-then-t-lt64 c = rw (← c.type_count.ensures.0) (alone _ _ c.bases_of-bases.ensures _ _ _ c.with_above.ensures)

pub returns : goal.returns
unfolding model_read model_of ancestor
returns c = ancestors_past c.args.model.now.types.now c.args.t (omega arith) c.args.model.now.few_types
