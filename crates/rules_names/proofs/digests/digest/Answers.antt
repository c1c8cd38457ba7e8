use Rattle.std.proofs.Common.{◌≡◌, refl, ◌∙◌, ap, ℕ, min, ◌+◌, ◌*◌, ◌/◌, length, arith}
use Rattle.packed.proofs.Laws.{field_lt}
use Rattle.rules_names.specs.Digests.{digest_to, digest_of}
use Rattle.rules_names.proofs.Fingerprints.{digest_next}
use Rattle.rules_names.proofs.digests.digest.Goals as goal

pub loop-i-init : goal.loop-i-init
unfolding digest_to
loop-i-init c = (omega arith, refl)

pub overflow_add-d : goal.overflow_add-d
overflow_add-d c = omega (arith, c.word_at.ensures, field_lt c.args.s.now (8 * (4 * c.loop-i.i)) 32)

pub loop-i-preserved : goal.loop-i-preserved
loop-i-preserved c = (omega arith, digest_next _ _ _ _ c.loop-i.invariant.1 c.word_at.ensures)

pub returns : goal.returns
unfolding digest_of
returns c = let z : c.loop-i.i ≡ (min (length c.args.s.now) 256 + 3) / 4 = omega (arith, c.min.ensures, c.div_ceil-i-end.ensures) in
    (c.loop-i.invariant.1 ∙ ap (λ (k : ℕ). digest_to c.args.s.now k) z, c.loop-i.invariant.0)
