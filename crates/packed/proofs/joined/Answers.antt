use lib.Bits.{or_shifted}
use lib.Pow.{shl_exact}
use Rattle.packed.proofs.joined.Goals as goal

pub returns : goal.returns
returns c = rw (shl_exact c.args.k c.args.n 64 c.requires.2 c.requires.1) (or_shifted _ c.args.n _ c.requires.3)
