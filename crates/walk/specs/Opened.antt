-- The number of opened slots that an answer reports: 0 where it refuses.
use Rattle.std.specs.Prelude.{ℕ, [], ◌∷◌}
use Rattle.csdl.specs.Verdict.{Answer}
use Rattle.csdl.specs.Verdict.Answer.{accepted, refused}

abbrev pub opened_of : Answer → ℕ
opened_of (accepted []) = 0
opened_of (accepted (n ∷ [])) = 0
opened_of (accepted (n ∷ (k ∷ l))) = k
opened_of (refused rule place) = 0
