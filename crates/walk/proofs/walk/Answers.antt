use Prim.Native.Nat.{zero-le}
use native.Mathlib.Omega.{arith}
use Rattle.std.proofs.lemmas.Result.{err_from_is_err_and}
use Rattle.csdl.specs.Verdict.{walk_means}
use Rattle.walk.proofs.AnswerLaws.{refused-before, refused_after, walks, few-slots}
use Rattle.walk.proofs.walk.Goals as goal

pub returns-in_err-model : goal.returns-in_err-model
unfolding walk_means
returns-in_err-model c =
    let o = refused-before c.args.model.now c.args.instance.now c.args.place c.args.path c.args.node c.args.results.now _ _ c.in_err-model.ensures.value in
    let e = err_from_is_err_and c.from_residual.result c.from_residual.ensures.1 in
    rw (e.1, e.2) (record { result_value = o.0; results_after = o.1; result_bound = zero-le })

pub returns-in-Some : goal.returns-in-Some
unfolding walk_means
returns-in-Some c =
    let o = refused_after c.args.model.now c.args.instance.now c.args.place c.args.path c.args.node c.args.results.now
    c.in_ok-model.ensures.value c.in_ok-model.ensures.read.0 c.in_ok-model.ensures.read.1 c.choose-chosen.ensures c.refused_by.ensures c.in-Some.rule c.in-Some.is in
    record { result_value = o.0; results_after = o.1; result_bound = zero-le }

pub overflow_cast-node : goal.overflow_cast-node
overflow_cast-node c =
    let w = walks c.args.model.now c.args.instance.now c.args.place c.args.path c.args.node c.args.results.now
    c.in_ok-model.ensures.value c.in_ok-model.ensures.read.0 c.in_ok-model.ensures.read.1 c.choose-chosen.ensures c.refused_by.ensures c.in_default.is
    c.chosen_path-run.ensures.0 c.chosen_path-run.ensures.1 in
    omega (arith, w.small)

pub walk_along-done-requires : goal.walk_along-done-requires
walk_along-done-requires c =
    let w = walks c.args.model.now c.args.instance.now c.args.place c.args.path c.args.node c.args.results.now
    c.in_ok-model.ensures.value c.in_ok-model.ensures.read.0 c.in_ok-model.ensures.read.1 c.choose-chosen.ensures c.refused_by.ensures c.in_default.is
    c.chosen_path-run.ensures.0 c.chosen_path-run.ensures.1 in
    record { end_small = omega (arith, c.chosen_path-run.ensures.2, c.chosen_path-run.ensures.3); v_in_bounds = w.fits; v_len_bound = w.few }

pub overflow_cast-result : goal.overflow_cast-result
overflow_cast-result c =
    let w = walks c.args.model.now c.args.instance.now c.args.place c.args.path c.args.node c.args.results.now
    c.in_ok-model.ensures.value c.in_ok-model.ensures.read.0 c.in_ok-model.ensures.read.1 c.choose-chosen.ensures c.refused_by.ensures c.in_default.is
    c.chosen_path-run.ensures.0 c.chosen_path-run.ensures.1 in
    omega (arith, w.most, c.walk_along-done.ensures.end_value)

pub returns : goal.returns
unfolding walk_means
returns c =
    let w = walks c.args.model.now c.args.instance.now c.args.place c.args.path c.args.node c.args.results.now
    c.in_ok-model.ensures.value c.in_ok-model.ensures.read.0 c.in_ok-model.ensures.read.1 c.choose-chosen.ensures c.refused_by.ensures c.in_default.is
    c.chosen_path-run.ensures.0 c.chosen_path-run.ensures.1 in
    let o = w.answers c.walk_along-done.ensures.results_after c.walk_along-done.ensures.end_value c.walk_along-done.ensures.opened_value in
    record {
      result_value = o.0;
      results_after = o.1;
      result_bound = few-slots c.args.model.now c.args.instance.now c.args.place c.args.path c.args.node c.args.results.now _ o.0;
    }
