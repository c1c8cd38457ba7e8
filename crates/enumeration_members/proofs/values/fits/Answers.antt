use mathlib.Core.Path.{◌≡◌}
use native.Mathlib.Omega.{arith}
use borrow.Author.Tests.{ne_eqb}
use Rattle.csdl.specs.Members.{fits}
use Rattle.enumeration_members.proofs.values.fits.Goals as goal

pub returns-in-3 : goal.returns-in-3
unfolding fits
returns-in-3 c = rw c.in-3.is c.in_range.ensures

pub returns-in-10 : goal.returns-in-10
unfolding fits
returns-in-10 c = rw c.in-10.is c.in_range-in-10.ensures

pub returns-in-11 : goal.returns-in-11
unfolding fits
returns-in-11 c = rw c.in-11.is c.in_range-in-11.ensures

pub returns-in-12 : goal.returns-in-12
unfolding fits
returns-in-12 c = rw c.in-12.is c.in_range-in-12.ensures

pub returns-in-13 : goal.returns-in-13
unfolding fits
returns-in-13 c = rw c.in-13.is c.in_range-in-13.ensures

pub returns-in_default : goal.returns-in_default
unfolding fits
returns-in_default c =
    let n = c.args.code in
    let three : n ≡ 3 → ⊥ = omega arith in
    let ten : n ≡ 10 → ⊥ = omega arith in
    let eleven : n ≡ 11 → ⊥ = omega arith in
    let twelve : n ≡ 12 → ⊥ = omega arith in
    let thirteen : n ≡ 13 → ⊥ = omega arith in
    simp (ne_eqb _ _ three, ne_eqb _ _ ten, ne_eqb _ _ eleven, ne_eqb _ _ twelve, ne_eqb _ _ thirteen)
