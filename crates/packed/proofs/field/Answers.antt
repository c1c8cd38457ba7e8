use Prim.Native.Nat.{◌-◌, ◌+◌}
use mathlib.Core.Path.{◌≡◌, sym}
use native.Mathlib.Omega.{arith}
use Rattle.packed.specs.Field.{field_of}
use Rattle.packed.proofs.Laws.{field_byte, field_within}
use Rattle.packed.proofs.field.Goals as goal

pub returns-then-used-le8 : goal.returns-then-used-le8
returns-then-used-le8 c = let m = 8 - (c.in_byte.result + c.args.width) in
    let e : c.low_bits.result ≡ field_of c.args.s.now c.args.off c.args.width =
    rw (c.low_bits.ensures.0, c.byte_at.ensures.0) (sym (field_byte c.args.s.now c.args.off c.args.width m (omega arith))) in
    record {
      value = e;
      upper_bound = c.low_bits.ensures.1;
    }

pub returns-then-used-le16 : goal.returns-then-used-le16
returns-then-used-le16 c = let m = 16 - (c.in_byte.result + c.args.width) in
    let e : c.low_bits-then-used-le16.result ≡ field_of c.args.s.now c.args.off c.args.width =
    rw (c.low_bits-then-used-le16.ensures.0, c.pair_at.ensures) (field_within c.args.s.now c.args.off 16 c.args.width m (omega arith)) in
    record {
      value = e;
      upper_bound = c.low_bits-then-used-le16.ensures.1;
    }
