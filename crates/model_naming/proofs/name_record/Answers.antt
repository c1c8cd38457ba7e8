use mathlib.Core.Path.{◌∙◌}
use Rattle.model_naming.proofs.Names.{name-bytes}
use Rattle.model_naming.proofs.name_record.Goals as goal

pub returns : goal.returns
returns c = let e = rw (c.name_place-name.ensures.0, c.name_place-name.ensures.1) at c.part_of.ensures in record {
  result_value = e;
  result_value_2 = e ∙ name-bytes _ _;
}
