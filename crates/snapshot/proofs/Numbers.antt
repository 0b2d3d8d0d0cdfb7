-- Lines that break no rule are no two equal, so numbers of equal formulas are equal.
use mathlib.Core.Path.{◌≡◌, subst}
use mathlib.Core.List.{List, [], ◌∷◌, ◌++◌, append_assoc, append-nil}
use mathlib.Core.Bool.{false}
use Prim.Native.Nat.{suc}
use native.Mathlib.Omega.{arith}
use Rattle.logic.specs.Formula.{size}
use Rattle.request.specs.Request.{Line}
use Rattle.ledger.specs.Ledger.{formula}
use Rattle.ledger.proofs.Answers.{if_none}
use Rattle.ledger.proofs.Numbers.{Apart, apart_snoc, one_number}
use Rattle.snapshot.specs.Snapshot.{line_rules, fails, lines_only, bad_lines}
use Rattle.snapshot.specs.Statements.{NumbersApart}
use Rattle.snapshot.proofs.Rules.{or_false, none_fails}
use Rattle.snapshot.proofs.Lawful.{lawful}

bad_apart : (earlier ls : List Line) → Apart earlier → bad_lines earlier ls ≡ false → Apart (earlier ++ ls)
unfolding bad_lines
bad_apart earlier [] a h = rw append-nil a
bad_apart earlier (l ∷ ls) a h =
    let x = or_false (fails (line_rules (lines_only earlier) l)) (bad_lines (earlier ++ (l ∷ [])) ls) h in
    let p = none_fails (line_rules (lines_only earlier) l) x.0 in
    subst Apart (append_assoc earlier (l ∷ []) ls)
    (bad_apart (earlier ++ (l ∷ [])) ls (apart_snoc earlier l a (if_none 13 _ p.1.1.1.1.1.0)) x.1)

pub numbers_apart : NumbersApart
numbers_apart t r =
    let w = lawful t r in
    let a = bad_apart [] t.lines (λ m n lm. absurd (omega arith)) w.ruled in
    record {
      lines = a;
      formulas = λ m n. one_number t w.bounded.tabled a (suc (size (formula t m))) m n (omega arith);
    }
