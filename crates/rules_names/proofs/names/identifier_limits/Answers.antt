use Rattle.std.proofs.Common.{◌≡◌, ◌<◌}
use borrow.Author.Rules.{rules}
use Rattle.rules_names.proofs.Identifiers.{limited_start, limited_next, limited_end}
use Rattle.rules_names.proofs.names.identifier_limits.Goals as goal

pub loop-i-init : goal.loop-i-init
loop-i-init c = rw c.requires (limited_start _)

pub loop-i-preserved : goal.loop-i-preserved
loop-i-preserved c = let some : 0 < c.loop-i.i = search rules in
    limited_next c.args.names.now c.loop-i.limits c.loop-i.words c.loop-i.i c.word_limit-words.result c.identifier_limit.result c.loop-i.invariant some c.word_limit-words.ensures.1 c.word_limit-words.ensures.0 c.identifier_limit.ensures

pub returns : goal.returns
returns c = let z : c.loop-i.i ≡ 0 = search rules in
    let e = limited_end c.args.names.now c.loop-i.limits c.loop-i.words (rw z at c.loop-i.invariant) in
    (e.size, e.each)
