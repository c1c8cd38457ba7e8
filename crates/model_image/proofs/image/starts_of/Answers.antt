use Rattle.model_image.proofs.image.starts_of.Goals as goal

pub returns : goal.returns
returns c = rw (
  c.after-names.ensures.0,
  c.after-segments.ensures.0,
  c.after-bindings.ensures.0,
  c.after-children.ensures.0,
  c.after-constraints.ensures.0,
  c.after-keys.ensures.0,
  c.after-properties.ensures.0,
  c.after-types.ensures.0,
)
