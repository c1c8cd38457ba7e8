-- The bucket of a name, where a lookup looks first. No answer rests on it.
use Rattle.std.specs.Prelude.{ℕ, ◌+◌, ◌-◌, ◌*◌, ◌%◌, List, cond, leb, length, get_or}

-- Byte k from the end, 0 where there is none.
abbrev pub from_end : List ℕ → ℕ → ℕ
from_end s k = cond (leb (length s) k) 0 (get_or s (length s - (k + 1)) 0)

unfoldable pub bucket_of : List ℕ → ℕ
bucket_of s = (37 * get_or s 0 0 + 100 * from_end s 2 + 10 * from_end s 1 + from_end s 0) % 256
