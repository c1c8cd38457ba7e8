-- A name made of its two numbers, as the code has it.
use Rattle.std.specs.Prelude.{ℕ}
use Rattle.csdl.specs.Tables.{Name}

abbrev pub name_of : ℕ → ℕ → Name
name_of start size = record { start = start; size = size }
