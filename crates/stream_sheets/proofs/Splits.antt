-- A stream in pieces: the sheets that bytes with and without an empty line end, and the first bytes of an overlong one.
use mathlib.Core.Path.{◌≡◌, refl, sym, ap, ◌∙◌}
use mathlib.Core.List.{List, [], ◌∷◌, ◌++◌, append_assoc, append-nil}
use mathlib.Core.Bool.{Bool, true, false, ◌&&◌}
use Prim.Native.Nat.{ℕ, ◌<◌}
use native.Mathlib.Omega.{arith}
use lib.Dec.{eqb, leb}
use lib.ListN.{length, take}
use lib.Seq.{take_all, take-take, take-append-le, length-take-le}
use borrow.Author.Tests.{leb-true, leb-false}
use Rattle.ledger.specs.Ledger.{Ledger}
use Rattle.ledger.specs.Calls.{call}
use Rattle.ledger.proofs.Firsts.{call_long}
use Rattle.read_fields.proofs.Then.{by_test}
use Rattle.stream_sheets.specs.Sheets.{Split, next, split_from, empty_line, line_begins, most}
use Rattle.logic.proofs.Tests.{left_false, right_false}

-- Feeding b and then c is feeding b ++ c.
pub split_append : (s : Split) (b c : List ℕ) → split_from s (b ++ c) ≡ split_from (split_from s b) c
unfolding split_from
split_append s [] c = refl
split_append s (x ∷ b) c = split_append (next s x) b c

-- of an overlong sheet the first bytes are refused as the whole
pub cut : (t : Ledger) (b : List ℕ) → call t (take most b) ≡ call t b
cut t b = by_test (leb (length b) most) (λ e. ap (call t) (take_all most b (leb-true _ _ e))) (λ e.
    let h : most < length b = leb-false _ _ e in
    call_long t (take most b) (omega (arith, length-take-le most b (omega arith))) ∙ sym (call_long t b (omega arith)))

pub keep_cut : (b x : List ℕ) → take most (take most b ++ x) ≡ take most (b ++ x)
keep_cut b x = by_test (leb (length b) most)
    (λ e. ap (λ (z : List ℕ). take most (z ++ x)) (take_all most b (leb-true _ _ e)))
    (λ e.
    let h : most < length b = leb-false _ _ e in
    let n = length-take-le most b (omega arith) in
    take-append-le most (take most b) x (omega arith) ∙ take-take most most b (omega arith)
    ∙ sym (take-append-le most b x (omega arith)))

-- a byte that ends no sheet
pub kept : (s : Split) (x : ℕ) → (s.fresh && eqb x 10) ≡ false
    → next s x ≡ record { ended = s.ended; begun = s.begun ++ (x ∷ []); fresh = eqb x 10 }
kept s x e = rw (next, e)

-- an empty line
pub ended : (s : Split) (x : ℕ) → (s.fresh && eqb x 10) ≡ true
    → next s x ≡ record { ended = s.ended ++ (s.begun ∷ []); begun = []; fresh = true }
ended s x e = rw (next, e)

-- bytes without an empty line
pub run : (e : List (List ℕ)) (k : List ℕ) (f : Bool) (b : List ℕ) → empty_line f b ≡ false
    → split_from (record { ended = e; begun = k; fresh = f }) b
    ≡ record { ended = e; begun = k ++ b; fresh = line_begins f b }
unfolding split_from empty_line line_begins
run e k f [] h = ap (λ (z : List ℕ). record { ended = e; begun = z; fresh = f }) (sym (append-nil k))
run e k f (x ∷ b) h =
    let s : Split = record { ended = e; begun = k; fresh = f } in
    ap (λ (z : Split). split_from z b) (kept s x (left_false (f && eqb x 10) _ h))
    ∙ run e (k ++ (x ∷ [])) (eqb x 10) b (right_false (f && eqb x 10) _ h)
    ∙ ap (λ (z : List ℕ). record { ended = e; begun = z; fresh = line_begins (eqb x 10) b }) (append_assoc k (x ∷ []) b)

-- and then an empty line
pub closes : (e : List (List ℕ)) (k : List ℕ) (f : Bool) (x b : List ℕ) → empty_line f x ≡ false
    → line_begins f x ≡ true
    → split_from (record { ended = e; begun = k; fresh = f }) (x ++ (10 ∷ b))
    ≡ split_from (record { ended = e ++ ((k ++ x) ∷ []); begun = []; fresh = true }) b
unfolding split_from
closes e k f x b h l =
    split_append _ x (10 ∷ b)
    ∙ ap (λ (z : Split). split_from z (10 ∷ b)) (run e k f x h)
    ∙ ap (λ (g : Bool). split_from (next (record { ended = e; begun = k ++ x; fresh = g }) 10) b) l
