use Rattle.packed.specs.Field.{flag_of}
use Rattle.packed.proofs.flag.Goals as goal

pub returns : goal.returns
unfolding flag_of
returns c = rw c.field.ensures.value
