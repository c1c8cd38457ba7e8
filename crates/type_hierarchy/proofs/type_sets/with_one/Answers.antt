use Prim.Native.Nat.{◌^◌}
use mathlib.Core.Bool.{or-false}
use native.Mathlib.Omega.{arith}
use borrow.Author.Tests.{ne_eqb}
use Rattle.type_hierarchy.specs.Sets.{member}
use Rattle.packed.proofs.Laws.{one_shl}
use Rattle.type_hierarchy.proofs.SetLaws.{member-or, member-one}
use Rattle.type_hierarchy.proofs.type_sets.with_one.Goals as goal

pub returns-then-x-lt64 : goal.returns-then-x-lt64
returns-then-x-lt64 c = λ t h. rw (one_shl c.args.x c.if-x-lt64.true, member-or c.args.set (2 ^ c.args.x) t, member-one c.args.x t)

pub returns : goal.returns
returns c = λ t h. rw (ne_eqb c.args.x t (λ e. omega arith), or-false (member c.args.set t))
