-- Theorem 3 (Subsumption) of source document 000, for the rules of Derives.antt: a premise that has the goal's interval
-- is narrowed, every other one stays as it is.
use mathlib.Core.Path.{◌≡◌, refl, ap}
use mathlib.Core.List.{List, ◌∷◌, ◌++◌}
use Prim.Native.Nat.{ℕ, ◌+◌}
use native.Mathlib.Omega.{arith}
use Rattle.logic.specs.Derives.{Hyp, Judgment, Derives, same, ax, cp, tr, tl, or, ol, wr, w1, w2, p1, p2, pl}
use Rattle.logic.specs.Derives.{ll, ul, br, bl, hr, hl, sr, af, sl, gr, al, Letter, letters, taken}
use Rattle.logic.specs.Statements.{Narrows, at_holds, at_affirms, ByRulesOf, Subsumption}
use Rattle.logic.proofs.Intervals.{⊇-trans}

-- one rule on premises by the same rules, one number of labels on as many
rule_on : {l : Letter} {xs ys : List Letter} → xs ≡ ys → ◌≡◌ {A = List Letter} (l ∷ xs) (l ∷ ys)
rule_on {l} e = ap (λ (x : List Letter). l ∷ x) e

rule_on₂ : {l : Letter} {xs xs' ys ys' : List Letter} → xs ≡ xs' → ys ≡ ys'
    → ◌≡◌ {A = List Letter} (l ∷ (xs ++ ys)) (l ∷ (xs' ++ ys'))
rule_on₂ e f = rw (e, f)

more : (k : ℕ) {m n : ℕ} → m ≡ n → k + m ≡ k + n
more k e = omega arith

added : {m m' n n' : ℕ} → m ≡ m' → n ≡ n' → m + n ≡ m' + n'
added e f = omega arith

narrowed : {R D : List Hyp} {g h : Judgment} → Narrows g h → (x : Derives R D g) → ByRulesOf x h
unfolding letters taken
narrowed n (same p q d) = let y = narrowed n d in (same p q y.0, y.1, y.2)
narrowed (at_holds c) (ax e) = (ax (⊇-trans e c), refl, refl)
narrowed n (cp m d) = let y = narrowed n d in (cp m y.0, rule_on y.1, more 1 y.2)
narrowed (at_holds c) (tr d e) =
    let y = narrowed (at_holds c) d in
    let z = narrowed (at_holds c) e in
    (tr y.0 z.0, rule_on₂ y.1 z.1, added y.2 z.2)
narrowed n (tl d) = let y = narrowed n d in (tl y.0, rule_on y.1, more 2 y.2)
narrowed (at_holds c) or = (or, refl, refl)
narrowed n (ol d) = let y = narrowed n d in (ol y.0, rule_on y.1, y.2)
narrowed (at_holds c) (wr d e) =
    let y = narrowed (at_holds c) d in
    let z = narrowed (at_holds c) e in
    (wr y.0 z.0, rule_on₂ y.1 z.1, added y.2 z.2)
narrowed n (w1 d) = let y = narrowed n d in (w1 y.0, rule_on y.1, more 1 y.2)
narrowed n (w2 d) = let y = narrowed n d in (w2 y.0, rule_on y.1, more 1 y.2)
narrowed (at_holds c) (p1 d) = let y = narrowed (at_holds c) d in (p1 y.0, rule_on y.1, y.2)
narrowed (at_holds c) (p2 d) = let y = narrowed (at_holds c) d in (p2 y.0, rule_on y.1, y.2)
narrowed n (pl d e) =
    let y = narrowed n d in
    let z = narrowed n e in
    (pl y.0 z.0, rule_on₂ y.1 z.1, more 2 (added y.2 z.2))
narrowed n (ll o c d e) =
    let z = narrowed n e in
    (ll o c d z.0, rule_on₂ {xs = letters d} refl z.1, more 1 (more (taken d) z.2))
narrowed n (ul o c d e) =
    let z = narrowed n e in
    (ul o c d z.0, rule_on₂ {xs = letters d} refl z.1, more 1 (more (taken d) z.2))
narrowed (at_holds c) (br d) = let y = narrowed (at_holds c) d in (br y.0, rule_on y.1, y.2)
narrowed n (bl d) = let y = narrowed n d in (bl y.0, rule_on y.1, more 1 y.2)
narrowed (at_holds c) (hr d) = (hr d, refl, refl)
narrowed n (hl d) = let y = narrowed n d in (hl y.0, rule_on y.1, more 1 y.2)
narrowed (at_holds c) (sr d) = let y = narrowed (at_affirms c) d in (sr y.0, rule_on y.1, y.2)
narrowed (at_affirms c) (af d) = let y = narrowed (at_holds c) d in (af y.0, rule_on y.1, y.2)
narrowed (at_affirms c) (sl e d) =
    let y = narrowed (at_affirms c) d in (sl (⊇-trans e c) y.0, rule_on y.1, more 1 y.2)
narrowed (at_holds c) (gr e) = (gr e, refl, refl)
narrowed n (al h d) = let y = narrowed n d in (al h y.0, rule_on y.1, more 1 y.2)

pub subsumption : Subsumption
subsumption R D g h n x = narrowed n x
