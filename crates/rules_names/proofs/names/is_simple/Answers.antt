use Rattle.std.proofs.Common.{◌≡◌, ◌≤◌, length, ◌∙◌, rules, tests}
use Rattle.std.proofs.lemmas.Iterator.{YieldsList-from_slice}
use Rattle.std.proofs.lemmas.Iterator.Search.{all_from_yields_List}
use borrow.Author.Tests.{le-leb}
use Rattle.csdl.specs.Form.{simple, is_digit, is_word_byte}
use Rattle.csdl.specs.Search.{all}
use Rattle.rules_names.proofs.Parts.{all_elements}
use Rattle.rules_names.proofs.names.is_simple.Goals as goal

pub returns : goal.returns
unfolding simple is_digit
returns c =
    let words : c.all.result ≡ all (λ b. is_word_byte b) c.args.s.now = all_from_yields_List (λ b. is_word_byte b) _ _ _ c.all.ensures.ran (YieldsList-from_slice c.args.s.now cc) (λ x b q k. search (rules, tests)) ∙ all_elements (λ b. is_word_byte b) c.args.s.now in
    let some : 1 ≤ length c.args.s.now = search (rules, tests) in
    rw (le-leb 1 (length c.args.s.now) some, ← words, c.is_ascii_digit.ensures.value)
