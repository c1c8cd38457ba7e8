use mathlib.Core.Path.{refl}
use Rattle.std.proofs.Common.{rules, tests, get_or}
use Rattle.csdl.proofs.Chains.{any_by_any}
use Rattle.path_resolution.specs.Resolution.{is_code}
use Rattle.path_steps.proofs.any_code.Goals as goal

pub returns : goal.returns
returns g c = λ t h. any_by_any _ (λ k. is_code t (get_or c.args.codes.now k 0)) _ refl c.any.ensures.ran (λ x b q k. search (rules, tests))
