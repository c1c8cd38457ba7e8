-- The lines of a sheet, as ASCII bytes.
use Rattle.std.specs.Prelude.{ℕ, zero, suc, ◌+◌, ◌-◌, ◌*◌, cond, List, [], ◌++◌, ltb, get_or, codes}
use Rattle.std.specs.Fmt.{decimal}

-- `accepted 4`
unfoldable pub accepted_line : ℕ → List ℕ
accepted_line segments = codes "accepted " ++ (decimal segments ++ codes "\n")

-- `refused 9 place 1`
unfoldable pub refused_line : ℕ → ℕ → List ℕ
refused_line rule at = codes "refused " ++ (decimal rule ++ (codes " place " ++ (decimal at ++ codes "\n")))

-- `15 property 0`, or `15 cast 3` for a code of 32768 and more
unfoldable pub segment_line : ℕ → ℕ → List ℕ
segment_line at code =
    cond
    (ltb code 32768)
    (decimal at ++ (codes " property " ++ (decimal code ++ codes "\n")))
    (decimal at ++ (codes " cast " ++ (decimal (code - 32768) ++ codes "\n")))

-- The lines of n segments from a place on, whose codes stand two bytes each, high byte first.
unfoldable pub code_lines : List ℕ → ℕ → ℕ → List ℕ
code_lines codes first zero = []
code_lines codes first (suc g) = code_lines codes first g ++ segment_line (first + g) (256 * get_or codes (2 * g) 0 + get_or codes (2 * g + 1) 0)
