use Rattle.model_image.proofs.image.counts_of.Goals as goal

pub returns : goal.returns
returns c = rw (
  c.number_at.ensures,
  c.number_at-2.ensures,
  c.number_at-3.ensures,
  c.number_at-4.ensures,
  c.number_at-5.ensures,
  c.number_at-6.ensures,
  c.number_at-7.ensures,
  c.number_at-8.ensures,
  c.number_at-9.ensures,
)
