use Rattle.std.proofs.Common.{sym}
use Rattle.model_naming.proofs.Names.{start_past, size_past}
use Rattle.model_naming.proofs.held.cast_name.Goals as goal

pub returns : goal.returns
returns c = (sym (start_past c.args.model.now c.args.t c.if-t-lt64.false), sym (size_past c.args.model.now c.args.t c.if-t-lt64.false))
