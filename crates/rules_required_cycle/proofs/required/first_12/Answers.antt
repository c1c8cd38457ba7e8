use mathlib.Core.Path.{◌∙◌}
use Rattle.std.proofs.Common.{rules, tests, arith}
use Rattle.model_image.specs.Read.{model_read}
use Rattle.type_hierarchy.specs.Sets.{step_of}
use Rattle.csdl.proofs.Chains.{first_by_find}
use Rattle.rules_required_cycle.proofs.Steps.{first_cyclic}
use Rattle.rules_required_cycle.proofs.required.first_12.Goals as goal

pub returns : goal.returns
returns c =
    first_by_find _ (λ t. step_of c.close_rows.new.rows t t) _ c.type_count-count.ensures.0 c.find.ensures.ran (λ x b q k. search (rules, tests))
    ∙ first_cyclic (model_read c.args.hierarchy.now.model) c.step_rows-rows.result c.close_rows.new.rows _ c.type_count-count.ensures.0 (omega arith) c.step_rows-rows.ensures c.close_rows.ensures
