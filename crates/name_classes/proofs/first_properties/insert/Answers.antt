use Rattle.name_classes.proofs.Sorting.{inserted, entry-is}
use Rattle.name_classes.proofs.first_properties.insert.Goals as goal

pub returns : goal.returns
returns c = let n = inserted _ _ _ _ c.args.p c.requires.0 c.requires.1 c.copy_within.ensures.len c.copy_within.ensures.by_index.0 c.copy_within.ensures.by_index.1 c.copy_within.ensures.by_index.2 in record {
  inserted = n;
  by_index = entry-is _ _ _ _ _ n;
}
