use Rattle.std.proofs.Common.{Some, None, sym, ◌∙◌}
use mathlib.Core.Bool.{not}
use Rattle.csdl.specs.Members.{member31b, of_one_type}
use Rattle.csdl.specs.Properties.{alike}
use Rattle.csdl.specs.Search.{first_from}
use Rattle.enumeration_members.specs.Read.{members_read}
use Rattle.enumeration_members.proofs.Clauses.{by_first, unlike}
use Rattle.enumeration_members.proofs.series.unlike_first.Goals as goal

pub returns-in-Some : goal.returns-in-Some
unfolding member31b
returns-in-Some c =
    let e = members_read c.args.members.now in
    let w = by_first (λ s. not (alike (e.given s) (e.given c.args.member))) (first_from (λ s. of_one_type e c.args.member s) 0 c.args.member) (Some c.in-Some.s) (sym c.in-Some.is ∙ c.requires) in
    rw (w, ← c.given-in-Some.ensures, ← c.given.ensures) (unlike c.given.result c.given-in-Some.result)

pub returns-in-None : goal.returns-in-None
unfolding member31b
returns-in-None c =
    let e = members_read c.args.members.now in
    sym (by_first (λ s. not (alike (e.given s) (e.given c.args.member))) (first_from (λ s. of_one_type e c.args.member s) 0 c.args.member) None (sym c.in-None.is ∙ c.requires))
