-- The clauses of rules 15 and 16 as the code finds them. Assumes nothing.
use Prim.Native.Nat.{ℕ}
use mathlib.Core.Path.{◌≡◌, refl}
use mathlib.Core.Bool.{Bool, true, false, cond, not, beq, ◌||◌, or-true}
use Rattle.std.proofs.Common.{Some, None}
use Rattle.csdl.specs.Properties.{alike}
use Rattle.csdl.specs.Path.{Step, no_property, is_property}
use Rattle.csdl.specs.Path.Step.{property, type, nothing}

pub beq_alike : (a b : Bool) → beq a b ≡ alike a b
beq_alike true true = refl
beq_alike true false = refl
beq_alike false true = refl
beq_alike false false = refl

-- What a path's end says of the test that refuses it.
pub kept_end : (b : Bool) (x d : ℕ) → cond b None (Some x) ≡ Some d → (b ≡ false) × (x ≡ d)
kept_end true x d e = cc
kept_end false x d e = (refl, (cc))

pub refused_end : (b : Bool) (x : ℕ) → cond b None (Some x) ≡ None → b ≡ true
refused_end true x e = refl
refused_end false x e = cc

-- The end of a path of rule 16: a navigation property or none, as 16d has it.
pub end_broken : (h i : Bool) (test : ℕ → Bool) (s : Step) → (h || (i || is_property test s) || no_property s) ≡ (h || (i || not (is_property (λ p. not (test p)) s)))
end_broken true i test s = refl
end_broken false true test s = refl
end_broken false false test (property p) = go (test p)
  where
    go : (b : Bool) → (b || false) ≡ not (not b)
    go true = refl
    go false = refl
end_broken false false test (type c) = refl
end_broken false false test nothing = refl

-- What follows two tests matters only where neither is true.
pub rest-same : (d r x y : Bool) → (d ≡ false → r ≡ false → x ≡ y) → (d || r || x) ≡ (d || r || y)
rest-same true r x y f = refl
rest-same false true x y f = refl
rest-same false false x y f = f refl refl

-- The two paths of rule 16, each with what fails in it, before the rest.
pub two_paths : (a hd cd nd hr cr nr e f : Bool)
    → (hd || (cd || nd) || (hr || (cr || nr)) || (a || e || f)) ≡ (a || (hd || hr) || (cd || cr) || (nd || nr) || e || f)
two_paths true hd cd nd hr cr nr e f = or-true (hd || (cd || nd) || (hr || (cr || nr)))
two_paths false true cd nd hr cr nr e f = refl
two_paths false false true nd true cr nr e f = refl
two_paths false false true nd false cr nr e f = refl
two_paths false false false true true cr nr e f = refl
two_paths false false false true false true nr e f = refl
two_paths false false false true false false nr e f = refl
two_paths false false false false true cr nr e f = refl
two_paths false false false false false true nr e f = refl
two_paths false false false false false false true e f = refl
two_paths false false false false false false false e f = refl
