use Rattle.std.proofs.Common.{◌≡◌, ◌≤◌, length, sym, ◌∙◌, arith}
use borrow.Author.Rules.{rules}
use Rattle.csdl.proofs.Later.{table_first, table_next}
use Rattle.later_images.proofs.LaterImage.table_from.Goals as goal

pub loop-i-init : goal.loop-i-init
loop-i-init c = (rw (c.from.ensures, c.tables.ensures.0) (sym (table_first c.args.self.now.sizes.now c.args.self.now.image.now)), omega (arith, c.from.ensures, c.tables.ensures.1))

pub loop-i-preserved : goal.loop-i-preserved
loop-i-preserved c = (
  sym (table_next c.args.self.now.sizes.now c.args.self.now.image.now c.loop-i.i (omega (arith, c.requires)) ∙ rw (← c.number_at.ensures, ← c.table_size-at.ensures.0, ← c.loop-i.invariant.0)),
  omega (arith, c.table_size-at.ensures.1, c.loop-i.invariant.1),
)

pub returns : goal.returns
returns c = let few : length c.args.self.now.sizes.now ≤ 8 = search rules in
    let e : c.loop-i.i ≡ c.args.k = search rules in
    (rw (← e) c.loop-i.invariant.0, omega (arith, c.loop-i.invariant.1, c.requires, few, e))
