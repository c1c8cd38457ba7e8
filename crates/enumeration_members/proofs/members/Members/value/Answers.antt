use Rattle.std.proofs.Common.{◌≡◌, ◌+◌, ◌*◌, arith}
use Rattle.packed.proofs.Laws.{field_lt}
use Rattle.csdl.specs.Members.{members_of}
use Rattle.enumeration_members.proofs.Words.{three_words}
use Rattle.enumeration_members.specs.Read.{members_read}
use Rattle.enumeration_members.proofs.members.Members.value.Goals as goal

pub overflow_mul-result-2 : goal.overflow_mul-result-2
overflow_mul-result-2 c = record { fits = omega (arith, c.word_at-2.ensures, field_lt c.args.self.now.table.now (8 * (12 * c.args.member + 4)) 32) }

pub overflow_add-result : goal.overflow_add-result
overflow_add-result c = record { fits = omega (arith, c.word_at-2.ensures, field_lt c.args.self.now.table.now (8 * (12 * c.args.member + 4)) 32) }

pub overflow_add-result-2 : goal.overflow_add-result-2
overflow_add-result-2 c = record { fits = omega (arith, c.word_at-2.ensures, c.word_at-3.ensures, field_lt c.args.self.now.table.now (8 * (12 * c.args.member + 4)) 32, field_lt c.args.self.now.table.now (8 * (12 * c.args.member + 8)) 32) }

pub returns : goal.returns
unfolding members_read members_of
returns c = let e : 96 * c.args.member + 27 ≡ 8 * (12 * c.args.member) + 27 = omega arith in
    rw e (three_words c.args.self.now.table.now (12 * c.args.member) _ _ _ c.word_at.ensures c.word_at-2.ensures c.word_at-3.ensures)
