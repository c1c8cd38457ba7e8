use Rattle.std.proofs.Common.{◌≡◌, ◌+◌, ◌*◌, ◌≤◌}
use Rattle.csdl.specs.Later.{table_from}
use Rattle.later_images.proofs.LaterImage.table_from.Given as goal

abbrev pub invariant-loop-i : goal.invariant-loop-i
invariant-loop-i l = (l.at ≡ table_from l.self.sizes.now l.self.image.now l.i) × (l.at ≤ 20 + 16711425 * l.i)
