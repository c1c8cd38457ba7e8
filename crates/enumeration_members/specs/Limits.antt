-- The limit of rule 30 on the table, in bytes.
use Rattle.std.specs.Prelude.{ℕ, ◌≤◌, List, length}

-- 1024 members of 12 bytes.
abbrev pub FewMembers : List ℕ → Type 0
FewMembers table = length table ≤ 12288
