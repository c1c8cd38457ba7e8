use Rattle.std.proofs.Common.{arith, drop}
use Rattle.rules_names.proofs.Identifiers.{simple_limit}
use Rattle.rules_names.proofs.names.name_5.Goals as goal

pub overflow_cast-result : goal.overflow_cast-result
overflow_cast-result c = omega (arith, c.type_inv.limits c.args.n.start)

pub returns : goal.returns
returns c = rw (c.text_of-size.ensures, c.requires.1.each c.args.n.start c.requires.0, simple_limit c.args.n.size (drop c.args.n.start c.args.names.now))
