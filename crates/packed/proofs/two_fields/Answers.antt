use native.Mathlib.Omega.{arith}
use lib.Pow.{pow_mono}
use Rattle.packed.proofs.Laws.{field_high, field_low, field_lt}
use Prim.Native.Nat.{◌+◌, ◌/◌, ◌^◌}
use mathlib.Core.Path.{◌≡◌}
use Rattle.packed.specs.Field.{field_of}
use Rattle.packed.proofs.two_fields.Goals as goal

pub overflow_cast-result-2 : goal.overflow_cast-result-2
overflow_cast-result-2 c = let e : c.field-both.result / 2 ^ c.args.n ≡ field_of c.args.s.now c.args.off c.args.w = rw c.field-both.ensures.value (field_high c.args.s.now c.args.off c.args.w c.args.n) in
    omega (arith, e, field_lt c.args.s.now c.args.off c.args.w, pow_mono {i = c.args.w} {j = 16} (omega arith))

pub overflow_cast-result-3 : goal.overflow_cast-result-3
overflow_cast-result-3 c = omega (arith, pow_mono {i = c.args.n} {j = 16} (omega arith))

pub returns : goal.returns
returns c = let e : c.field-both.result / 2 ^ c.args.n ≡ field_of c.args.s.now c.args.off c.args.w = rw c.field-both.ensures.value (field_high c.args.s.now c.args.off c.args.w c.args.n) in
    let f : c.low_bits.result ≡ field_of c.args.s.now (c.args.off + c.args.w) c.args.n = rw (c.low_bits.ensures.0, c.field-both.ensures.value) (field_low c.args.s.now c.args.off c.args.w c.args.n) in
    record {
      first_value = (e, rw e (field_lt c.args.s.now c.args.off c.args.w));
      second_value = (f, c.low_bits.ensures.1);
    }
