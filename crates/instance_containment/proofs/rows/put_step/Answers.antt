use native.Mathlib.Omega.{arith}
use Rattle.instance_containment.proofs.RowLaws.{no_number, a_number, no_step, with_step_lem}
use Rattle.instance_containment.proofs.rows.put_step.Goals as goal

pub returns-then-from : goal.returns-then-from
returns-then-from c = no_step c.args.rows.now c.requires c.args.from c.args.to (λ v w h l p q. no_number c.args.from c.if-from.true v h p)

pub returns-then-to : goal.returns-then-to
returns-then-to c = no_step c.args.rows.now c.requires c.args.from c.args.to (λ v w h l p q. no_number c.args.to c.if-to.true w l q)

pub overflow_sub-w : goal.overflow_sub-w
overflow_sub-w c = omega (arith, a_number c.args.to c.if-to.false)

pub overflow_sub-at : goal.overflow_sub-at
overflow_sub-at c = omega (arith, a_number c.args.from c.if-from.false)

pub bounds-rows-at : goal.bounds-rows-at
bounds-rows-at c = omega (arith, c.requires, a_number c.args.from c.if-from.false, a_number c.args.to c.if-to.false)

pub bounds-rows-at-2 : goal.bounds-rows-at-2
bounds-rows-at-2 c = omega (arith, c.requires, a_number c.args.from c.if-from.false, a_number c.args.to c.if-to.false)

pub returns : goal.returns
returns c = let f = a_number c.args.from c.if-from.false in
    let t = a_number c.args.to c.if-to.false in
    with_step_lem c.args.rows.now c.requires c.args.from c.args.to c.with_one-word.result f.0 f.1 t.0 t.1 c.with_one-word.ensures
