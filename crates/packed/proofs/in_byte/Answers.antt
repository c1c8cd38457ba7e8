use lib.Bits.{and_mask}
use Rattle.packed.proofs.in_byte.Goals as goal

pub returns : goal.returns
returns c = and_mask c.args.k 3
