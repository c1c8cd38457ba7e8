-- The limits of rule 1 on each table, in bytes: so many records at most, of so many bytes each.
use Rattle.std.specs.Prelude.{ℕ, ◌≤◌, List, length}

-- 16 schemas of 5 bytes.
abbrev pub FewSchemas : List ℕ → Type 0
FewSchemas schemas = length schemas ≤ 80

-- 64 types of 6 bytes.
abbrev pub FewTypes : List ℕ → Type 0
FewTypes types = length types ≤ 384

-- 512 properties of 7 bytes.
abbrev pub FewProperties : List ℕ → Type 0
FewProperties properties = length properties ≤ 3584

-- 128 keys of 6 bytes.
abbrev pub FewKeys : List ℕ → Type 0
FewKeys keys = length keys ≤ 768

-- 64 constraints of 5 bytes.
abbrev pub FewConstraints : List ℕ → Type 0
FewConstraints constraints = length constraints ≤ 320

-- 64 children of 4 bytes.
abbrev pub FewChildren : List ℕ → Type 0
FewChildren children = length children ≤ 256

-- 128 bindings of 6 bytes.
abbrev pub FewBindings : List ℕ → Type 0
FewBindings bindings = length bindings ≤ 768

-- 1024 segments of 3 bytes.
abbrev pub FewSegments : List ℕ → Type 0
FewSegments segments = length segments ≤ 3072
