-- An answer as one 64-bit number, as the C interface has it.
use Rattle.std.specs.Prelude.{ℕ, ◌+◌, ◌*◌, ◌/◌, ◌%◌, List, [], ◌∷◌, cond, eqb}
use Rattle.csdl.specs.Verdict.{Answer}
use Rattle.csdl.specs.Verdict.Answer.{accepted, refused}

-- The reported numbers: none is 0, one is itself, the two of a walk are results * 65536 + opened.
abbrev pub values_word : List ℕ → ℕ
values_word [] = 0
values_word (n ∷ []) = n
values_word (n ∷ (k ∷ l)) = n * 65536 + k

-- A refusal has its rule, which is never 0, in the upper 32 bits and its place in the lower; an acceptance has 0 there and its numbers below.
unfoldable pub word : Answer → ℕ
word (accepted values) = values_word values
word (refused rule place) = rule * 4294967296 + place

-- How a caller reads a word: the upper and the lower 32 bits; of the lower, the upper and the lower 16.
abbrev pub upper : ℕ → ℕ
upper w = w / 4294967296

abbrev pub lower : ℕ → ℕ
lower w = w % 4294967296

abbrev pub results_in : ℕ → ℕ
results_in w = lower w / 65536

abbrev pub opened_in : ℕ → ℕ
opened_in w = lower w % 65536

-- The answer in a word: refused where the upper half is not 0, else accepted with what the call reports.
abbrev pub answer_in : List ℕ → ℕ → Answer
answer_in values w = cond (eqb (upper w) 0) (accepted values) (refused (upper w) (lower w))

unfoldable pub model_is_in : ℕ → Answer
model_is_in w = answer_in (lower w ∷ []) w

unfoldable pub instance_is_in : ℕ → Answer
instance_is_in w = answer_in [] w

unfoldable pub members_are_in : ℕ → Answer
members_are_in w = answer_in [] w

unfoldable pub walk_is_in : ℕ → Answer
walk_is_in w = answer_in (results_in w ∷ opened_in w ∷ []) w
