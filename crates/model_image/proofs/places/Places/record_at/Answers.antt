use mathlib.Core.Path.{refl}
use Rattle.model_image.specs.Places.{record_by}
use Rattle.model_image.proofs.Chain.{chain, below, beyond}
use Rattle.model_image.proofs.places.Places.record_at.Goals as goal

pub returns-then-place-self : goal.returns-then-place-self
unfolding record_by
returns-then-place-self c = search chain depth 40

pub returns-then-place-self-2 : goal.returns-then-place-self-2
unfolding record_by
returns-then-place-self-2 c = search chain depth 40

pub returns-then-place-self-3 : goal.returns-then-place-self-3
unfolding record_by
returns-then-place-self-3 c = search chain depth 40

pub returns-then-place-self-4 : goal.returns-then-place-self-4
unfolding record_by
returns-then-place-self-4 c = search chain depth 40

pub returns-then-place-self-5 : goal.returns-then-place-self-5
unfolding record_by
returns-then-place-self-5 c = search chain depth 40

pub returns-then-place-self-6 : goal.returns-then-place-self-6
unfolding record_by
returns-then-place-self-6 c = search chain depth 40

pub returns-then-place-self-7 : goal.returns-then-place-self-7
unfolding record_by
returns-then-place-self-7 c = search chain depth 40

pub returns-then-place-self-8 : goal.returns-then-place-self-8
unfolding record_by
returns-then-place-self-8 c = beyond _ _ _ _ _ _ c.if-place-self.false (beyond _ _ _ _ _ _ c.if-place-self-2.false (beyond _ _ _ _ _ _ c.if-place-self-3.false (beyond _ _ _ _ _ _ c.if-place-self-4.false (beyond _ _ _ _ _ _ c.if-place-self-5.false (beyond _ _ _ _ _ _ c.if-place-self-6.false (beyond _ _ _ _ _ _ c.if-place-self-7.false (below _ _ _ _ _ _ c.if-place-self-8.true refl)))))))

pub returns : goal.returns
unfolding record_by
returns c = search chain depth 40
