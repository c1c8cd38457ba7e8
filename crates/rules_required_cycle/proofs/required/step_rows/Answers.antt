use Prim.Native.Nat.{◌*◌}
use mathlib.Core.Path.{◌≡◌, ◌∙◌, ap}
use native.Mathlib.Omega.{arith}
use borrow.Author.Count.{below_more}
use lib.ListN.{get_or, set, length-set}
use lib.Seq.{get_or-set_same, get_or-set_other}
use Rattle.packed.proofs.Laws.{field_lt}
use Rattle.model_image.specs.Read.{model_read}
use Rattle.csdl.specs.Model.{model_of}
use Rattle.csdl.specs.Properties.{required_step}
use Rattle.type_hierarchy.specs.Sets.{member, Members}
use Rattle.rules_required_cycle.proofs.Steps.{all_steps}
use borrow.Author.Rules.{rules}
use Rattle.rules_required_cycle.proofs.required.step_rows.Goals as goal

pub loop-t-init : goal.loop-t-init
loop-t-init c = (search rules, search rules, λ w h. absurd (omega arith))

pub loop-t-preserved : goal.loop-t-preserved
unfolding model_read model_of
loop-t-preserved c = let m = model_read c.args.hierarchy.now.model in (
  search rules,
  rw length-set c.loop-t.invariant.1,
  below_more (λ w. Members 64 (get_or (set c.loop-t.rows c.loop-t.t c.rows_of.result) w 0) (λ u. required_step m w u)) c.loop-t.t
      (λ w i u h. ap (λ s. member s u) (get_or-set_other c.loop-t.rows c.loop-t.t w c.rows_of.result 0 (λ q. let z : w ≡ c.loop-t.t = q in omega arith)) ∙ c.loop-t.invariant.2 w i u h)
      (λ u h. ap (λ s. member s u) (get_or-set_same c.loop-t.rows c.loop-t.t c.rows_of.result 0 (omega arith)) ∙ c.rows_of.ensures u h
      ∙ all_steps m c.own_rows-own.result c.with_ancestors.result c.loop-t.t u h (λ p. field_lt c.args.hierarchy.now.model.properties.now (56 * p) 6) c.own_rows-own.ensures c.with_ancestors.ensures),
)

pub returns : goal.returns
returns c = λ t i. c.loop-t.invariant.2 t (omega (arith, i, c.type_count-t-end.ensures.0))
