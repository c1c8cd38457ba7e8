use Rattle.std.proofs.Common.{◌+◌, rules, tests}
use lib.Dec.{ltb}
use Rattle.csdl.specs.Image.{header}
use Rattle.csdl.proofs.Chains.{any_by_any}
use Rattle.later_images.proofs.LaterImage.many_records.Goals as goal

pub returns : goal.returns
returns c = any_by_any _ (λ k. ltb 1024 (header c.args.self.now.image.now (k + 1))) _ c.tables.ensures.0 c.any.ensures.ran (λ x b q k. search (rules, tests))
