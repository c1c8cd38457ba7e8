use Rattle.csdl.specs.Members.{members_in}
use Rattle.enumeration_members.specs.Read.{members_read}
use Rattle.enumeration_members.proofs.Whole.{few_in_table}
use Rattle.enumeration_members.proofs.members.Members.read.Goals as goal

pub invariant_of-result : goal.invariant_of-result
invariant_of-result c = record { few = few_in_table c.args.image.now.image.now c.args.image.now.sizes.now _ c.requires.0 c.requires.1 c.table.ensures }

pub returns : goal.returns
unfolding members_read members_in
returns c = rw (c.table.ensures, c.names.ensures, c.requires.0)
