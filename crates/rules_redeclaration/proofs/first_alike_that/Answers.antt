use mathlib.Core.Path.{refl}
use Rattle.rules_redeclaration.proofs.Along.{low, searched_start, at_below, at_named, next_less, searched_next, searched_here, searched_end}
use Rattle.rules_redeclaration.proofs.first_alike_that.Goals as goal

pub first_alike-at-requires : goal.first_alike-at-requires
first_alike-at-requires g c = low c.args.lookup.now _ c.requires.low

pub loop-at-init : goal.loop-at-init
loop-at-init g c = (searched_start _ _ _ _ c.requires.low _ c.first_alike-at.ensures, λ passes is. searched_start _ _ _ _ c.requires.low _ c.first_alike-at.ensures)

pub next_alike-at-requires : goal.next_alike-at-requires
next_alike-at-requires g c = low c.args.lookup.now _ (at_below _ _ _ _ _ c.loop-at.invariant.0 _ c.in-Some.is)

pub loop-at-smaller : goal.loop-at-smaller
loop-at-smaller g c = next_less _ _ _ _ _ c.loop-at.invariant.0 _ c.in-Some.is _ c.next_alike-at.ensures

pub loop-at-preserved : goal.loop-at-preserved
loop-at-preserved g c = (
  searched_next _ _ _ _ _ c.loop-at.invariant.0 _ c.in-Some.is _ c.next_alike-at.ensures refl,
  λ passes is. searched_next _ _ _ _ _ (c.loop-at.invariant.1 passes is) _ c.in-Some.is _ c.next_alike-at.ensures (rw (← is _ _ c.test.ensures, c.if-test.false)),
)

pub returns-then-test : goal.returns-then-test
returns-then-test g c = λ passes is.
    searched_here _ _ _ _ _ (c.loop-at.invariant.1 passes is) _ c.in-Some.is (rw (← is _ _ c.test.ensures, c.if-test.true) (at_named _ _ _ _ _ c.loop-at.invariant.0 _ c.in-Some.is))

pub returns : goal.returns
returns g c = λ passes is. searched_end _ _ _ _ _ (c.loop-at.invariant.1 passes is) c.in_default.is
