use Rattle.csdl.specs.Members.{member31}
use Rattle.csdl.proofs.Loops.{First}
use Rattle.enumeration_members.specs.Earlier.{Ordered, Tally}
use Rattle.enumeration_members.specs.Read.{members_read}
use Rattle.model_image.specs.Read.{model_read}
use Rattle.enumeration_members.proofs.series.first_31.Given as goal

abbrev pub invariant-loop-member : goal.invariant-loop-member
invariant-loop-member l = Ordered (members_read l.members) l.member l.order × Tally (members_read l.members) l.member l.counts l.firsts
    × First (λ r. member31 (model_read l.model) (members_read l.members) r) l.n l.member
