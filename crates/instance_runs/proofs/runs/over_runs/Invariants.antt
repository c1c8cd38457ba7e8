use Rattle.std.proofs.Common.{◌≡◌, ℕ, ◌<◌, ◌≤◌, max, length}
use Rattle.csdl.specs.declared.Run.{Run}
use Rattle.instance_runs.specs.Tables.{Tabulates}
use Rattle.instance_runs.proofs.Fills.{Partly, left_in}
use Rattle.instance_runs.proofs.runs.over_runs.Given as goal

abbrev pub invariant-loop-v : goal.invariant-loop-v
invariant-loop-v g l =
    (length l.array ≡ g.row.N)
    × ((run : ℕ → Run) (step : ℕ → ℕ → ℕ)
    → ((v : ℕ) (r : Run) → v < l.fn.count → goal.R-post g l.fn.run_of v r → (r.first ≡ (run v).first) × (r.count ≡ (run v).count))
    → ((v x y : ℕ) → v < l.fn.count → goal.F-post g l.fn.change v x y → y ≡ step v x)
    → Tabulates (left_in run step l.fn.count l.v) g.row.N l.array)

abbrev pub invariant-loop-k : goal.invariant-loop-k
invariant-loop-k g l =
    (l.k ≤ max l.first l.end)
    × (length l.array ≡ g.row.N)
    × (length l.initial.array ≡ g.row.N)
    × ((f : ℕ → ℕ) → ((x y : ℕ) → goal.F-post g l.fn.change l.v x y → y ≡ f x) → Partly f l.first l.k l.initial.array l.array)
