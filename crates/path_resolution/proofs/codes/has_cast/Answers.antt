use Rattle.path_resolution.specs.Resolution.{cast_code}
use Rattle.std.proofs.Common.{get_or}
use mathlib.Core.Path.{refl}
use Rattle.std.proofs.Common.{rules, tests}
use Rattle.csdl.proofs.Chains.{any_by_any}
use Rattle.path_resolution.proofs.codes.has_cast.Goals as goal

pub returns : goal.returns
returns c = any_by_any _ (λ k. cast_code (get_or c.args.codes.now k 0)) _ refl c.any.ensures.ran (λ x b q k. search (rules, tests))
