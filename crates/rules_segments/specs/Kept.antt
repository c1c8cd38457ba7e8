-- The codes of the segments, kept path by path, and what a model has to keep for it.
use Rattle.std.specs.Prelude.{ℕ, ◌+◌, ◌≤◌, ◌<◌, ◌≡◌, List, true, false, ◌⊎◌, length, get_or}
use Rattle.csdl.specs.Model.{Model, in_run}
use Rattle.csdl.specs.Path.{kinds, holders, path_of, step_in}
use Rattle.csdl.specs.declared.PathKind.{PathKind}
use Rattle.csdl.specs.declared.PathKind.TheVariants.{Partner}
use Rattle.csdl.specs.Paths.{segment13}
use Rattle.csdl.specs.Verdict.{step_code}

-- The codes of a run were kept at the numbers of its segments, and nothing else changed.
pub record RunKept (run : List ℕ) (first count : ℕ) (before codes : List ℕ) : Type 0 where
  pub same_length : length codes ≡ length before
  pub codes_at : (k : ℕ) → k < count → get_or codes (first + k) 0 ≡ get_or run k 0
  pub others : (g : ℕ) → (g < first) ⊎ (first + count ≤ g) → get_or codes g 0 ≡ get_or before g 0

-- What of the rules the codes rest on: paths lie in their table (rule 4), no segment is in two (rule 13), and codes fit 16 bits.
pub record Resolvable (m : Model) : Type 0 where
  pub in_table : (w : PathKind) (r : ℕ) → r < holders m w → (path_of m w r).first + (path_of m w r).count ≤ m.segments
  pub once : (g : ℕ) → g < m.segments → segment13 m g ≡ false
  pub casts_small : (g : ℕ) → g < m.segments → m.is_cast g ≡ true → m.cast_type g < 32768
  pub few : m.properties ≤ 32768

-- The segments of the path of record r have their codes.
abbrev pub PathKept : Model → PathKind → ℕ → List ℕ → Type 0
PathKept m w r codes = (g : ℕ) → in_run (path_of m w r) g ≡ true → get_or codes g 0 ≡ step_code (step_in m w r g)

-- The codes of the path of record r were kept, and no other changed.
pub record PathStep (m : Model) (w : PathKind) (r : ℕ) (before codes : List ℕ) : Type 0 where
  pub same_length : length codes ≡ length before
  pub kept : PathKept m w r codes
  pub others : (g : ℕ) → in_run (path_of m w r) g ≡ false → get_or codes g 0 ≡ get_or before g 0

-- The codes of the paths of the first n records of a kind were kept, and every path that had its codes has them still.
pub record KindStep (m : Model) (w : PathKind) (n : ℕ) (before codes : List ℕ) : Type 0 where
  pub kept : (r : ℕ) → r < n → PathKept m w r codes
  pub stays : (x : PathKind) (r : ℕ) → r < holders m x → PathKept m x r before → PathKept m x r codes

-- Every path of the first n kinds has its codes.
abbrev pub Progress : Model → List ℕ → ℕ → Type 0
Progress m codes n = (k r : ℕ) → k < n → r < holders m (get_or kinds k Partner) → PathKept m (get_or kinds k Partner) r codes

-- The entries past the segments stay as they were.
abbrev pub PastKept : Model → List ℕ → List ℕ → Type 0
PastKept m before codes = (g : ℕ) → m.segments ≤ g → get_or codes g 0 ≡ get_or before g 0
