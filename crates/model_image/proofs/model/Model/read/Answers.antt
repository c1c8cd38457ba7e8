use Rattle.csdl.specs.Image.{model_in}
use Rattle.csdl.specs.Model.{model_of}
use Rattle.model_image.specs.Read.{model_read}
use Rattle.model_image.proofs.Parts.{all_counted, few_properties, few_children}
use Rattle.model_image.proofs.model.Model.read.Goals as goal

pub returns : goal.returns
unfolding model_read model_in model_of
returns c = record {
  value = rw (
    c.part_of.ensures,
    c.part_of-2.ensures,
    c.part_of-3.ensures,
    c.part_of-4.ensures,
    c.part_of-5.ensures,
    c.part_of-6.ensures,
    c.part_of-7.ensures,
    c.part_of-8.ensures,
    c.part_of-9.ensures,
    c.starts_of-at.ensures,
    c.counts_of.ensures,
  ) (all_counted c.args.image.now c.requires);
  tables = record {
    schemas = rw (c.part_of.ensures, c.starts_of-at.ensures, c.counts_of.ensures);
    types = rw (c.part_of-2.ensures, c.starts_of-at.ensures, c.counts_of.ensures);
    properties = rw (c.part_of-3.ensures, c.starts_of-at.ensures, c.counts_of.ensures);
    keys = rw (c.part_of-4.ensures, c.starts_of-at.ensures, c.counts_of.ensures);
    constraints = rw (c.part_of-5.ensures, c.starts_of-at.ensures, c.counts_of.ensures);
    children = rw (c.part_of-6.ensures, c.starts_of-at.ensures, c.counts_of.ensures);
    bindings = rw (c.part_of-7.ensures, c.starts_of-at.ensures, c.counts_of.ensures);
    segments = rw (c.part_of-8.ensures, c.starts_of-at.ensures, c.counts_of.ensures);
    names = rw (c.part_of-9.ensures, c.starts_of-at.ensures, c.counts_of.ensures);
  };
  few = (
    rw (c.part_of-3.ensures, c.starts_of-at.ensures, c.counts_of.ensures) (few_properties c.args.image.now c.requires),
    rw (c.part_of-6.ensures, c.starts_of-at.ensures, c.counts_of.ensures) (few_children c.args.image.now c.requires),
  );
}
