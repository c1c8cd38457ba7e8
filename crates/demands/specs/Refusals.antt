-- A refusal means the same in every call.
use mathlib.Core.Path.{refl}
use Rattle.std.specs.Prelude.{◌≡◌, Err}
use Rattle.csdl.specs.Verdict.{model_means, instance_means, walk_means}
use Rattle.csdl.specs.Verdict.Answer.{refused}
use Rattle.csdl.specs.declared.Refusal.{Refusal}

pub model_refused : (r : Refusal) → model_means (Err r) ≡ refused r.rule r.place
unfolding model_means
model_refused r = refl

pub instance_refused : (r : Refusal) → instance_means (Err r) ≡ refused r.rule r.place
unfolding instance_means
instance_refused r = refl

pub walk_refused : (r : Refusal) → walk_means (Err r) ≡ refused r.rule r.place
unfolding walk_means
walk_refused r = refl
