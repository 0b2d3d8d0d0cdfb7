-- `facts_at` meets its contract: what is kept with a row is right in every good store.
use Rattle.std.proofs.Common.{◌≡◌, ap, ◌∙◌, List, ℕ, ◌<◌, arith}
use lib.Dec.{eqb}
use Rattle.ledger.specs.Ledger.{formula}
use Rattle.store_cells.specs.declared.lines.Facts.{Facts}
use Rattle.store_cells.specs.Layout.{line_count, facts_at}
use Rattle.store.specs.Store.{ledger_of, Good, FactsOf}
use Rattle.store.proofs.Views.{bit_one, lines_length}
use Rattle.store.proofs.facts_at.Goals as goal

kept : (l : List ℕ) (n : ℕ) → Good l → n < line_count l → FactsOf (formula (ledger_of l) n) (facts_at l n)
kept l n g h = record {
  sized = g.sizes n h;
  plain_kept = ap (λ k. eqb k 1) (g.plains n h) ∙ bit_one _;
  balancedly = ap (λ k. eqb k 1) (g.balances n h) ∙ bit_one _;
  unbound_kept = ap (λ k. eqb k 1) (g.unbounds n h) ∙ bit_one _;
  quantified_kept = ap (λ k. eqb k 1) (g.quantifieds n h) ∙ bit_one _;
  spanned = g.spans n h;
  given = g.givens n h;
}

pub returns-clause-kept : goal.returns-clause-kept
returns-clause-kept c =
    let l = c.args.store.now in
    rw c.facts_at.ensures (kept l c.args.n c.requires.0 (omega (arith, lines_length l)))
