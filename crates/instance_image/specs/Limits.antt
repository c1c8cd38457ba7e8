-- The limits of rule 20 on each table, in bytes: so many records at most, of so many bytes each.
use Rattle.std.specs.Prelude.{ℕ, ◌≤◌, List, length}

-- 256 nodes of 4 bytes.
abbrev pub FewNodes : List ℕ → Type 0
FewNodes nodes = length nodes ≤ 1024

-- 1024 slots of 5 bytes.
abbrev pub FewSlots : List ℕ → Type 0
FewSlots slots = length slots ≤ 5120

-- 2048 items of 4 bytes.
abbrev pub FewItems : List ℕ → Type 0
FewItems items = length items ≤ 8192
