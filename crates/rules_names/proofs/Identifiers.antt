-- Simple identifiers by their limits, made from the end of the name bytes. Assumes nothing.
use Prim.Native.Nat.{ℕ, zero, suc, min, ◌-◌, ◌%◌, ◌≤◌, ◌<◌}
use mathlib.Core.Path.{◌≡◌, refl, sym, ap, ap₂, ◌∙◌}
use mathlib.Core.List.{List, [], ◌∷◌}
use mathlib.Core.Bool.{Bool, true, false, cond, not, ◌&&◌, and-false}
use native.Mathlib.Omega.{arith}
use lib.Dec.{eqb, ltb, leb}
use lib.ListN.{length, get_or, take, drop, set, replicate, length-set, length-replicate, get_or-replicate, drop_of_length-le}
use lib.Seq.{drop-cons, get_or-set_same, get_or-set_other}
use borrow.Author.Tests.{eqb-true, eqb-false, ltb-true, ltb-false, leb-true, leb-false, not-true, not-false, le-leb, lt-ltb, le-ltb}
use Rattle.csdl.specs.Search.{all}
use Rattle.csdl.specs.Form.{is_digit, is_word_byte, simple}
use Rattle.rules_names.specs.Identifiers.{word_limit, identifier_limit, Limits}

-- ---- a name by its size and the limit at its first byte
above_none : (b : Bool) (r : ℕ) → 0 < cond b (min 129 (suc r)) 1
above_none true r = omega arith
above_none false r = omega arith

limit_above : (l : List ℕ) → 0 < word_limit l
unfolding word_limit
limit_above [] = omega arith
limit_above (c ∷ l) = above_none (is_word_byte c) (word_limit l)

-- The first k bytes, or as many as there are, are words; m of them stand behind the first.
words_more : (m r : ℕ) (rest : Bool) → ltb m r ≡ (leb m 128 && rest) → ltb (suc m) (min 129 (suc r)) ≡ (leb (suc m) 128 && rest)
words_more m r rest h = go (leb (suc m) 128) rest refl refl
  where
    go : (p q : Bool) → leb (suc m) 128 ≡ p → rest ≡ q → ltb (suc m) (min 129 (suc r)) ≡ (p && q)
    go true true e f =
        let d = leb-true (suc m) 128 e in
        let g : m < r = ltb-true m r (h ∙ rw (le-leb m 128 (omega arith), f)) in
        lt-ltb (suc m) (min 129 (suc r)) (omega arith)
    go true false e f =
        let g : r ≤ m = ltb-false m r (h ∙ rw (f, and-false (leb m 128))) in
        le-ltb (suc m) (min 129 (suc r)) (omega arith)
    go false q e f = let d = leb-false (suc m) 128 e in le-ltb (suc m) (min 129 (suc r)) (omega arith)

words_step : (m r : ℕ) (rest w : Bool) → ltb m r ≡ (leb m 128 && rest) → ltb (suc m) (cond w (min 129 (suc r)) 1) ≡ (leb (suc m) 128 && (w && rest))
words_step m r rest true h = words_more m r rest h
words_step m r rest false h = le-ltb (suc m) 1 (omega arith) ∙ sym (and-false (leb (suc m) 128))

words : (k : ℕ) (l : List ℕ) → ltb (length (take k l)) (word_limit l) ≡ (leb (length (take k l)) 128 && all (λ c. is_word_byte c) (take k l))
unfolding word_limit all
words zero l = lt-ltb 0 (word_limit l) (limit_above l)
words (suc k) [] = refl
words (suc k) (c ∷ l) = words_step (length (take k l)) (word_limit l) (all (λ c. is_word_byte c) (take k l)) (is_word_byte c) (words k l)

none : (p q : Bool) → false ≡ (p && false && q)
none true q = refl
none false q = refl

some : (p q : Bool) → (p && q) ≡ (p && true && q)
some true q = refl
some false q = refl

simple_step : (m r : ℕ) (d rest : Bool) → ltb (suc m) r ≡ (leb (suc m) 128 && rest) → (leb 1 (suc m) && ltb (suc m) (cond d 1 r)) ≡ (leb 1 (suc m) && leb (suc m) 128 && not d && rest)
simple_step m r true rest h = rw (le-leb 1 (suc m) (omega arith), le-ltb (suc m) 1 (omega arith)) (none (leb (suc m) 128) rest)
simple_step m r false rest h = rw (le-leb 1 (suc m) (omega arith), h) (some (leb (suc m) 128) rest)

pub simple_limit : (k : ℕ) (l : List ℕ) → (leb 1 (length (take k l)) && ltb (length (take k l)) (identifier_limit l)) ≡ simple (take k l)
unfolding simple identifier_limit
simple_limit zero l = refl
simple_limit (suc k) [] = refl
simple_limit (suc k) (c ∷ l) = simple_step (length (take k l)) (word_limit (c ∷ l)) (is_digit c) (all (λ c. is_word_byte c) (c ∷ take k l)) (words (suc k) (c ∷ l))

-- one byte more in front, as the code takes it
module _ (b w : Bool) (r : ℕ) (e : b ≡ w) where
  pub limit_none : not b ≡ true → 1 ≡ cond w (min 129 (suc r)) 1
  limit_none t = rw (← e, not-true b t)

  pub limit_some : (v : ℕ) → not b ≡ false → v ≡ min 129 (suc r) → v ≡ cond w (min 129 (suc r)) 1
  limit_some v t q = rw (← e, not-false b t) q

limit_cons : (c : ℕ) (s : List ℕ) → word_limit (c ∷ s) ≡ cond (is_word_byte c) (min 129 (suc (word_limit s))) 1
unfolding word_limit
limit_cons c s = refl

-- ---- the limits when the bytes from byte i on are in
module _ (names : List ℕ) where
  pub record Limited (limits : List ℕ) (rest i : ℕ) : Type 0 where
    pub size : length limits ≡ 4096
    pub most : i ≤ length names
    pub small : rest ≤ 129
    pub run : rest ≡ word_limit (drop i names)
    pub each : (k : ℕ) → i ≤ k → k < 4096 → get_or limits k 0 ≡ identifier_limit (drop k names)

  pub limited_start : Limited (replicate 4096 1) 1 (length names)
  unfolding word_limit identifier_limit is_digit
  limited_start = record {
    size = length-replicate {A = ℕ} 4096 1;
    most = omega arith;
    small = omega arith;
    run = rw (drop_of_length-le names {i = length names} (omega arith));
    each = λ k h l. rw (drop_of_length-le names {i = k} h) (get_or-replicate {A = ℕ} 4096 k 1 0 l);
  }

  module _ (limits : List ℕ) (rest i r v : ℕ) (f : Limited limits rest i) (some : 0 < i) (few : r ≤ 129)
      (e : r ≡ cond (is_word_byte (get_or names (i - 1) 0)) (min 129 (suc rest)) 1) (g : v ≡ cond (is_digit (get_or names (i - 1) 0)) 1 r) where
    here : drop (i - 1) names ≡ get_or names (i - 1) 0 ∷ drop i names
    here = let s : suc (i - 1) ≡ i = omega arith in drop-cons names (i - 1) 0 (omega (arith, f.most)) ∙ rw s

    run_here : r ≡ word_limit (drop (i - 1) names)
    run_here =
        let c = get_or names (i - 1) 0 in
        let step : ℕ → ℕ = λ x. cond (is_word_byte c) (min 129 (suc x)) 1 in
        e ∙ ap step f.run ∙ sym (ap (λ (l : List ℕ). word_limit l) here ∙ limit_cons c (drop i names))

    limit_here : v ≡ identifier_limit (drop (i - 1) names)
    unfolding identifier_limit
    limit_here =
        let head : get_or (drop (i - 1) names) 0 0 ≡ get_or names (i - 1) 0 = ap (λ (l : List ℕ). get_or l 0 0) here in
        let pick : ℕ → ℕ → ℕ = λ c w. cond (is_digit c) 1 w in
        g ∙ ap₂ pick (sym head) run_here

    pub limited_next : Limited (set limits ((i - 1) % 4096) v) r (i - 1)
    limited_next = record {
      size = length-set limits ((i - 1) % 4096) v ∙ f.size;
      most = omega (arith, f.most);
      small = few;
      run = run_here;
      each = λ k h l. at k h l (eqb k (i - 1)) refl;
    }
      where
        at : (k : ℕ) → i - 1 ≤ k → k < 4096 → (b : Bool) → eqb k (i - 1) ≡ b → get_or (set limits ((i - 1) % 4096) v) k 0 ≡ identifier_limit (drop k names)
        at k h l true q =
            let p = eqb-true k (i - 1) q in
            let z : (i - 1) % 4096 ≡ k = omega arith in
            rw (z, get_or-set_same limits k v 0 (rw f.size l), p) limit_here
        at k h l false q =
            let p = eqb-false k (i - 1) q in
            get_or-set_other limits ((i - 1) % 4096) k v 0 (λ y. omega (arith, y, p, h, l)) ∙ f.each k (omega (arith, p, h, some)) l

  pub limited_end : (limits : List ℕ) (rest : ℕ) → Limited limits rest 0 → Limits names limits
  limited_end limits rest f = record { size = f.size; each = λ i h. f.each i (omega arith) h }
