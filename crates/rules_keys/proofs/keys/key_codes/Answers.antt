use Rattle.std.proofs.Common.{rules, tests, not}
use Rattle.csdl.specs.Paths.{key_step, key_end}
use Rattle.model_image.specs.Read.{model_read}
use Rattle.rules_keys.specs.Keys.{key_codes}
use Rattle.rules_keys.proofs.keys.key_codes.Goals as goal

pub returns : goal.returns
unfolding key_codes
returns c =
    let m = model_read c.args.model.now in
    rw (← c.key_path-path.ensures.0, ← c.key_path-path.ensures.1, ← c.run_of-run.ensures, c.has_cast.ensures, c.step_or_end.ensures (λ p. not (key_step m p)) (λ p. not (key_end m p)) (λ p b l q. search (rules, tests)) (λ p b l q. search (rules, tests)))
