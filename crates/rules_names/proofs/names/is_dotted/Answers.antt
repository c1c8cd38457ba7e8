use Rattle.std.proofs.Common.{rules, tests, ◌∙◌}
use Rattle.std.proofs.lemmas.Iterator.Search.{all_from_yields_List}
use Rattle.std.proofs.lemmas.Iterator.Splits.{YieldsList-from_slice_split}
use lib.Dec.{eqb}
use Rattle.csdl.specs.Form as rules_of
use Rattle.rules_names.proofs.Parts.{all_parts}
use Rattle.rules_names.proofs.names.is_dotted.Goals as goal

pub returns : goal.returns
returns c = all_from_yields_List (λ p. rules_of.simple p) _ _ _ c.all.ensures.ran
    (YieldsList-from_slice_split _ (λ b. eqb b 46) c.args.s.now c.split.ensures.rest c.split.ensures.done c.split.ensures.closure (λ x b q k. search (rules, tests)))
    (λ x b q k. search (rules, tests)) ∙ all_parts (λ p. rules_of.simple p) c.args.s.now
