use Prim.Native.Nat.{◌<◌}
use Rattle.csdl.specs.Tables.{type_count}
use Rattle.model_image.specs.Read.{model_read}
use Rattle.csdl.specs.Model.{model_of}
use Rattle.csdl.specs.Find.{ancestor}
use Rattle.type_hierarchy.proofs.AncestorSets.{ancestors_row}
use Rattle.type_hierarchy.proofs.hierarchy.Hierarchy.ancestors_at.Goals as goal

pub returns-then-t-type_count : goal.returns-then-t-type_count
unfolding model_read model_of ancestor
returns-then-t-type_count c =
    let types = c.args.self.now.model.types.now in
    let there : c.args.t < type_count types = rw (← c.type_count.ensures.0) c.if-t-type_count.true in
    rw c.args.self.now.ancestors_are (ancestors_row types c.args.t there c.args.self.now.model.few_types)
