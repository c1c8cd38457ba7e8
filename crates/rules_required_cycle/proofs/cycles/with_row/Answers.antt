use mathlib.Core.Path.{◌≡◌, sym, ◌∙◌}
use mathlib.Core.Bool.{true, false, or-false}
use lib.ListN.{get_or}
use Rattle.type_hierarchy.specs.Sets.{member}
use Rattle.type_hierarchy.proofs.SetLaws.{member-or}
use Rattle.rules_required_cycle.proofs.cycles.with_row.Goals as goal

pub returns-then-in_set : goal.returns-then-in_set
returns-then-in_set c = let e : member c.args.set c.args.c ≡ true = sym c.in_set.ensures ∙ c.if-in_set.true in
    λ t h. rw (member-or c.args.row (get_or c.args.rows.now c.args.c 0) t, e)

pub returns : goal.returns
returns c = let e : member c.args.set c.args.c ≡ false = sym c.in_set.ensures ∙ c.if-in_set.false in
    λ t h. rw (e, or-false (member c.args.row t))
