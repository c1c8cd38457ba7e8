use Prim.Native.Nat.{◌+◌, ◌-◌}
use mathlib.Core.Path.{◌≡◌}
use native.Mathlib.Omega.{arith}
use Rattle.packed.specs.Field.{field_of}
use Rattle.packed.proofs.Laws.{field_more, field_lt}
use borrow.Author.Rules.{rules}
use Rattle.packed.proofs.long_field.Goals as goal

pub loop-done-init : goal.loop-done-init
unfolding field_of
loop-done-init c = search rules

pub loop-done-preserved : goal.loop-done-preserved
loop-done-preserved c = let m = 32 - c.in_byte-room.result - c.min-n.result in
    let e : c.joined-r.result ≡ field_of c.args.s.now c.args.off (c.loop-done.done + c.min-n.result) =
    rw (c.joined-r.ensures, c.low_bits-bits.ensures.0, c.word_at.ensures, c.loop-done.invariant.1)
    (field_more c.args.s.now c.args.off c.loop-done.done c.min-n.result m (omega arith)) in
    (search rules, e, rw e (field_lt _ _ _))

pub returns : goal.returns
returns c = let e : c.loop-done.done ≡ c.args.width = omega arith in record {
  value = rw (← e) c.loop-done.invariant.1;
  upper_bound = rw (← e) c.loop-done.invariant.2;
}
