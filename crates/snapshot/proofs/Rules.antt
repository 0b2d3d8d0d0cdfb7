-- The tests of opening, and what they decide.
use mathlib.Core.Path.{◌≡◌, refl, sym, ap, subst}
use mathlib.Core.List.{List, [], ◌∷◌, ◌++◌, append_assoc, append-nil}
use mathlib.Core.Option.{Option, none, some}
use mathlib.Core.Bool.{Bool, true, false, ◌||◌, not}
use Prim.Native.Nat.{ℕ, ◌-◌, ◌≤◌, ◌<◌}
use native.Mathlib.Omega.{arith}
use lib.Dec.{leb}
use lib.ListN.{length, length-append}
use borrow.Author.Tests.{lt-ltb, le-ltb, lt-leb, ltb-true, leb-false, ltb-false}
use Rattle.logic.proofs.Tests.{Decides, no_truth, and_decides}
use Rattle.logic.proofs.Multisets.{every_map}
use Rattle.request.specs.Request.{Line, intervals}
use Rattle.ledger.specs.declared.Credential.{Credential}
use Rattle.ledger.specs.Table.{names}
use Rattle.ledger.specs.Ledger.{Ledger, is_none}
use Rattle.ledger.specs.Checks.{Refusal, Check, first, max_formulas, max_live, missing, no_room, used_up, checks}
use Rattle.ledger.specs.Bounds.{Rises, Bounded}
use Rattle.ledger.specs.Statements.{Pass}
use Rattle.ledger.proofs.Answers.{if_none, first_passes}
use Rattle.ledger.proofs.Firsts.{pass_first, if_false}
use Rattle.ledger.proofs.Credentials.{any_none}
use Rattle.ledger.proofs.Bounds.{line_bounded}
use Rattle.snapshot.specs.Snapshot.{rising, line_rules, credential_rules, fails, lines_only, bad_lines}
use Rattle.snapshot.specs.Statements.{RulesAgree}

pub or_false : (x y : Bool) → (x || y) ≡ false → (x ≡ false) × (y ≡ false)
or_false true y e = absurd (no_truth (sym e))
or_false false y e = (refl, e)

pub false_or : {x y : Bool} → x ≡ false → y ≡ false → (x || y) ≡ false
false_or {x = true} e f = absurd (no_truth (sym e))
false_or {x = false} e f = f

-- no check fails exactly where all pass
pub none_fails : (cs : List Check) → fails cs ≡ false → Pass cs
none_fails cs e = first_passes cs (go (first cs) e)
  where
    go : (o : Option Refusal) → not (is_none o) ≡ false → o ≡ none
    go none q = refl
    go (some r) q = absurd (no_truth (sym q))

pub all_pass : (cs : List Check) → Pass cs → fails cs ≡ false
all_pass cs p = ap (λ (o : Option Refusal). not (is_none o)) (pass_first cs p)

-- checks that pass, after others
first_before : (cs : List Check) (ds : List Check) → Pass ds → first cs ≡ first (cs ++ ds)
unfolding first
first_before [] ds p = sym (pass_first ds p)
first_before (none ∷ cs) ds p = first_before cs ds p
first_before (some f ∷ cs) ds p = refl

pub rules_agree : (t : Ledger) → RulesAgree t
unfolding checks intervals
rules_agree t = record {
  word = λ l room.
      first_before (line_rules t l) (_ ∷ []) (if_false 14 (leb max_formulas (length t.lines)) (lt-leb _ _ room), tt);
  issue = λ c room unused.
      first_before (credential_rules t c) (_ ∷ _ ∷ []) (
        if_false 22 (no_room t 0) (lt-leb max_live (length t.live - 0) (omega arith)),
        (if_false 23 (used_up t) (le-ltb _ _ unused), tt),
      );
}

pub rising_decides : (lo : ℕ) (cs : List Credential) → Decides (rising lo cs) (Rises lo cs)
unfolding rising
rising_decides lo [] = (λ e. tt, λ r. refl)
rising_decides lo (c ∷ cs) =
    let d = and_decides {P = lo < c.serial} (ltb-true lo c.serial, lt-ltb lo c.serial)
    (rising_decides c.serial cs) in
    (λ e. let h = d.0 e in (h.0, h.1), λ r. d.1 (r.0, r.1))

-- one line more
pub bad_snoc : (earlier ls : List Line) (l : Line) → bad_lines earlier ls ≡ false
    → Pass (line_rules (lines_only (earlier ++ ls)) l) → bad_lines earlier (ls ++ (l ∷ [])) ≡ false
unfolding bad_lines
bad_snoc earlier [] l b p = false_or (all_pass _ (rw append-nil at p)) refl
bad_snoc earlier (x ∷ ls) l b p =
    let h = or_false (fails (line_rules (lines_only earlier) x)) (bad_lines (earlier ++ (x ∷ [])) ls) b in
    false_or h.0 (bad_snoc (earlier ++ (x ∷ [])) ls l h.1 (rw (append_assoc earlier (x ∷ []) ls) p))

-- lines that break no rule keep the bounds, as word would have kept them
pub lines_bounded : (earlier ls : List Line) → Bounded (lines_only earlier) → bad_lines earlier ls ≡ false
    → length (earlier ++ ls) ≤ max_formulas → Bounded (lines_only (earlier ++ ls))
unfolding bad_lines
lines_bounded earlier [] b h n = rw append-nil b
lines_bounded earlier (l ∷ ls) b h n =
    let t = lines_only earlier in
    let x = or_false (fails (line_rules t l)) (bad_lines (earlier ++ (l ∷ [])) ls) h in
    let p = none_fails (line_rules t l) x.0 in
    let there = every_map (λ k q. leb-false _ _ q) (names l)
    (any_none (missing t) (names l) (if_none 10 _ p.1.1.0)) in
    let more = line_bounded t b l (omega (arith, length-append earlier (l ∷ ls))) there
    (ltb-false _ _ (if_none 12 _ p.1.1.1.1.0)) in
    subst (λ (m : List Line). Bounded (lines_only m)) (append_assoc earlier (l ∷ []) ls)
    (lines_bounded (earlier ++ (l ∷ [])) ls more x.1 (omega (arith, ap length (append_assoc earlier (l ∷ []) ls))))
