-- What the first members that break rules 30 and 31 make of the answer. Assumes nothing.
use Rattle.std.proofs.Common.{◌≡◌, refl, sym, ◌∙◌, ℕ, zero, suc, Option, Some, None}
use mathlib.Core.List.{[]}
use Rattle.csdl.specs.Members.{Members, member30, member31, member_stages, members_verdict}
use Rattle.csdl.specs.Model.{Model}
use Rattle.csdl.specs.Search.{first_from, found}
use Rattle.csdl.specs.Verdict.{verdict, refuse, Answer}
use Rattle.csdl.specs.Verdict.Answer.{accepted, refused}

refuses : (rule f : ℕ) (r : Option ℕ) (place : ℕ) (later : Answer) → r ≡ found f → r ≡ Some place → refused rule place ≡ refuse rule f later
refuses rule f r place later e h = by f (sym h ∙ e)
  where
    by : (f : ℕ) → Some place ≡ found f → refused rule place ≡ refuse rule f later
    by zero q = cc
    by (suc k) q = let z : place ≡ k = cc in rw z

passes : (rule f : ℕ) (r : Option ℕ) (later : Answer) → r ≡ found f → ((place : ℕ) → r ≡ Some place → ⊥) → later ≡ refuse rule f later
passes rule zero r later e n = refl
passes rule (suc k) r later e n = absurd (n k e)

module _ (m : Model) (e : Members) where
  abbrev first30 : ℕ
  first30 = first_from (λ r. member30 m e r) 0 e.count

  abbrev first31 : ℕ
  first31 = first_from (λ r. member31 m e r) 0 e.count

  module _ (form : Option ℕ) (f : form ≡ found first30) where
    pub stops_30 : (place : ℕ) → form ≡ Some place → refused 30 place ≡ members_verdict m e
    unfolding members_verdict member_stages verdict
    stops_30 place h = refuses 30 first30 form place _ f h

    module _ (none : (place : ℕ) → form ≡ Some place → ⊥) (value : Option ℕ) (v : value ≡ found first31) where
      pub stops_31 : (place : ℕ) → value ≡ Some place → refused 31 place ≡ members_verdict m e
      unfolding members_verdict member_stages verdict
      stops_31 place h = refuses 31 first31 value place (accepted []) v h ∙ passes 30 first30 form _ f none

      pub none_left : ((place : ℕ) → value ≡ Some place → ⊥) → accepted [] ≡ members_verdict m e
      unfolding members_verdict member_stages verdict
      none_left h = passes 31 first31 value (accepted []) v h ∙ passes 30 first30 form _ f none

pub ruleset answers = (stops_30, stops_31, none_left)
