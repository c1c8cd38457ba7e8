use Rattle.std.proofs.Common.{◌∙◌, ℕ, arith, length-set}
use Rattle.std.proofs.lemmas.List.{length-replicate, get_or-replicate, get_or-set_other}
use Rattle.rules_names.proofs.Fingerprints.{fingerprinted_none, fingerprinted_more}
use Rattle.rules_names.proofs.digests.fingerprints.Goals as goal

-- The check finds this too; it stands here so that an edit that begins with other numbers is refused for them.
pub loop-k-init : goal.loop-k-init
loop-k-init g c = record {
  sized = length-replicate {A = ℕ} g.row.N _;
  filled = λ f h. fingerprinted_none f _;
  past = λ k h l. get_or-replicate g.row.N k 0 0 l;
}

pub loop-k-preserved : goal.loop-k-preserved
loop-k-preserved g c =
    let v = c.loop-k.invariant in
    record {
      sized = rw length-set v.sized;
      filled = λ f h. fingerprinted_more _ _ _ _ (omega (arith, v.sized)) (h _ _ (omega arith) c.of.ensures) (v.filled f h);
      past = λ k h l. get_or-set_other c.loop-k.fingerprints c.loop-k.k k c.of.result 0 (λ e. omega (arith, e, h)) ∙ v.past k (omega (arith, h)) l;
    }
