-- What the answers of the readers of several lines come to.
use mathlib.Core.Path.{◌≡◌, refl, sym, ap, ◌∙◌}
use mathlib.Core.List.{List}
use mathlib.Core.Option.{Option, none}
use Prim.Native.Nat.{ℕ}
use Rattle.std.specs.Prelude.{Option as Read, Some, None}
use lib.ListN.{length}
use Rattle.request.specs.Request.{Step}
use Rattle.ledger.specs.Ledger.{is_none}
use Rattle.ledger.specs.Checks.{◌if◌}
use Rattle.ledger.proofs.Firsts.{if_true, if_false, if_some, none_there}
use Rattle.step_rows.specs.LabelRows.{max_holds}
use Rattle.step_rows.specs.StepRows.{steps_from}
use Rattle.read_rest.specs.declared.Faults.{Faults}
use Rattle.read_rest.specs.LinesRead.{holds_check, holds_of, HoldsIs, StepsAre, StepsIs}

-- hold lines
pub holds_told : {q : Option (List ℕ × List ℕ)} {c : List ℕ} {count : ℕ} {serials : List ℕ}
    (r : Read (Unit {0})) → holds_of c count serials r ≡ q → length serials ≡ max_holds → HoldsIs q c count serials r
unfolding ◌if◌
holds_told {q} {c} {count} {serials} r e l =
    record { check = go r ∙ ap (λ (o : Option (List ℕ × List ℕ)). 2 if is_none o) e; lines = e; long = l }
  where
    go : (r : Read (Unit {0})) → holds_check r ≡ (2 if is_none (holds_of c count serials r))
    go (Some u) = refl
    go None = refl

-- step lines: none, or all
module _ {q : Option (List Step)} {count : ℕ} {rows : List ℕ} where
  pub none_told : q ≡ none → StepsIs q count rows None
  none_told e = record { check = sym (if_true 2 (is_none q) (ap is_none e)); lines = λ f z. absurd (cc) }

  pub all_told : {f : Faults} → StepsAre q (steps_from rows 0 count) f.reversed f.broken → StepsIs q count rows (Some f)
  all_told {f} h = record {
    check = sym (if_false 2 (is_none q) (ap is_none h.steps));
    lines = λ g z. let e : f ≡ g = cc in rw (← e) h;
  }

  pub no_lines : StepsIs q count rows None → q ≡ none
  no_lines h = none_there q (if_some 2 (is_none q) (sym h.check))
