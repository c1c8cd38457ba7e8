use Rattle.std.proofs.Common.{◌≡◌, ◌<◌, refl, sym, ◌∙◌, arith}
use mathlib.Core.Bool.{false}
use lib.Dec.{eqb}
use lib.ListN.{length-take}
use Rattle.csdl.specs.Members.{member31, member31a}
use Rattle.csdl.proofs.Logic.{or_no}
use Rattle.csdl.proofs.Loops.{first-start, first-hit, first_next, first_end}
use Rattle.csdl.proofs.Settle.{count-le}
use Rattle.name_classes.proofs.Sorting.{sorted_part, stands_part}
use Rattle.enumeration_members.proofs.Clauses.{found_hit, found_none}
use Rattle.enumeration_members.proofs.Earlier.{tally_none, tally_next}
use Rattle.enumeration_members.proofs.Keys.{ordered_none, ordered_next}
use Rattle.enumeration_members.specs.Earlier.{member_key}
use Rattle.enumeration_members.specs.Read.{members_read}
use Rattle.enumeration_members.proofs.series.first_31.Goals as goal

pub loop-member-init : goal.loop-member-init
loop-member-init c = (ordered_none _ _, tally_none _, first-start _ _)

pub position-at-requires : goal.position-at-requires
position-at-requires c =
    let low : c.loop-member.member < 1024 = omega (arith, c.count-n.ensures.1, c.loop-member-test.true) in (
      simp length-take (omega (arith, c.loop-member.invariant.0.size)),
      sorted_part (λ r. member_key (members_read c.args.members.now) r) c.loop-member.order c.loop-member.member (omega (arith, c.loop-member.invariant.0.size)) c.loop-member.invariant.0.sorted,
    )

pub repeats_name-repeated-requires : goal.repeats_name-repeated-requires
repeats_name-repeated-requires c =
    let low : c.loop-member.member < 1024 = omega (arith, c.count-n.ensures.1, c.loop-member-test.true) in (
      c.loop-member.invariant.0,
      low,
      stands_part (λ r. member_key (members_read c.args.members.now) r) c.loop-member.order c.loop-member.member (omega (arith, c.loop-member.invariant.0.size)) _ _ c.position-at.ensures,
    )

pub member_31-requires : goal.member_31-requires
member_31-requires c = (c.repeats_name-repeated.ensures, rw (← c.member_type-t.ensures.0) (c.loop-member.invariant.1.count c.member_type-t.result c.member_type-t.ensures.1), rw (← c.member_type-t.ensures.0) (c.loop-member.invariant.1.first c.member_type-t.result _ c.member_type-t.ensures.1))

pub returns-then-member_31 : goal.returns-then-member_31
returns-then-member_31 c = found_hit _ _ _ _ c.count-n.ensures.0 (first-hit _ _ _ _ c.loop-member.invariant.2 c.loop-member-test.true c.member_31.ensures c.if-member_31.true)

pub insert-requires : goal.insert-requires
insert-requires c =
    let low : c.loop-member.member < 1024 = omega (arith, c.count-n.ensures.1, c.loop-member-test.true) in
    let at = stands_part (λ r. member_key (members_read c.args.members.now) r) c.loop-member.order c.loop-member.member (omega (arith, c.loop-member.invariant.0.size)) _ _ c.position-at.ensures in
    (at.most, omega (arith, low, c.loop-member.invariant.0.size))

pub overflow_add-counts : goal.overflow_add-counts
overflow_add-counts c = record {
  fits =
      omega (arith, c.count-n.ensures.1, c.loop-member-test.true, c.loop-member.invariant.1.count c.member_type-t.result c.member_type-t.ensures.1, count-le (λ s. eqb ((members_read c.args.members.now).member_type s) c.member_type-t.result) 0 c.loop-member.member);
}

pub loop-member-preserved : goal.loop-member-preserved
unfolding member31
loop-member-preserved c =
    let e = members_read c.args.members.now in
    let at = stands_part (λ r. member_key e r) c.loop-member.order c.loop-member.member (omega (arith, c.loop-member.invariant.0.size)) _ _ c.position-at.ensures in
    let no = or_no _ _ (sym c.member_31.ensures ∙ c.if-member_31.false) in
    let new : member31a e c.loop-member.member ≡ false = (or_no _ _ no.0).0 in (
      ordered_next e c.loop-member.member _ c.loop-member.order c.loop-member.invariant.0 at new _ c.insert.ensures.inserted,
      tally_next e c.loop-member.member c.member_type-t.result _ _ c.loop-member.counts c.loop-member.firsts _ c.member_type-t.ensures.0 c.member_type-t.ensures.1 c.loop-member.invariant.1 refl (c.loop-member.invariant.1.first c.member_type-t.result _ c.member_type-t.ensures.1) c.or.ensures,
      first_next _ _ _ _ c.loop-member.invariant.2 c.loop-member-test.true c.member_31.ensures c.if-member_31.false,
    )

pub returns : goal.returns
returns c = found_none _ c.loop-member.member _ _ c.count-n.ensures.0 (first_end _ _ _ c.loop-member.invariant.2 (omega arith))
