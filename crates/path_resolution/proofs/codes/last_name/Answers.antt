use mathlib.Core.Bool.{not}
use mathlib.Core.Path.{sym, ◌∙◌}
use Rattle.std.proofs.Common.{rules, tests, get_or}
use Rattle.std.proofs.lemmas.Iterator.Adapters.{option_map_id}
use Rattle.std.proofs.lemmas.Iterator.Search.{find_from_yields_List}
use Rattle.path_resolution.specs.Resolution.{cast_code}
use Rattle.path_resolution.proofs.Last.{yields_down, last_by_find}
use Rattle.path_resolution.proofs.codes.last_name.Goals as goal

pub returns-clause-value : goal.returns-clause-value
returns-clause-value c = sym (option_map_id c.find.result)
    ∙ find_from_yields_List (λ k. not (cast_code (get_or c.args.codes.now k 0))) _ _ _ c.find.ensures.ran (yields_down c.args.count c.rev.ensures.source) (λ x b q k. search (rules, tests))
    ∙ last_by_find c.args.codes.now c.args.count
