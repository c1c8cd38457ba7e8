-- The members that the table and the name bytes are.
use Rattle.csdl.specs.Members as members
use Rattle.enumeration_members.specs.declared.members.Members.{Members}

unfoldable pub members_read : Members → members.Members
members_read e = members.members_of e.table.now e.names.now
