-- `till_open` meets its contract.
use mathlib.Core.Path.{◌≡◌, refl, sym, ap, subst, ◌∙◌}
use mathlib.Core.List.{List}
use Prim.Native.Nat.{ℕ}
use borrow.Author.Rules.{rules}
use Rattle.ledger.specs.declared.Answer.{Answer}
use Rattle.ledger.specs.Calls.{Told, told}
use Rattle.ledger.specs.Statements.{IsAccepted}
use Rattle.snapshot.specs.Reached.{opened}
use Rattle.snapshot.proofs.Reopen.{open_answers}
use Rattle.store.specs.Store.{ledger_of}
use Rattle.text_open.specs.Opened.{Opened}
use Rattle.entry.specs.Entered.{numbers}
use Rattle.entry.specs.Saved.{Reopened}
use Rattle.entry.proofs.Clauses.{clause}
use Rattle.entry_text.proofs.till_open.Statement.{statement}
use Rattle.entry_text.proofs.till_open.Tie as tie

reopened : {l b l' n : List ℕ} {a : Answer} → Opened l b a l' → n ≡ numbers (told a) → Reopened l b n l'
reopened {l} {b} o q = record {
  answer = q ∙ ap numbers o.answer;
  made = λ h. record {
    begins = opened ((open_answers (ledger_of l) b).opens h);
    stands = record { good = o.good (subst IsAccepted (sym o.answer) h); ledger = o.ledger };
  };
  same = λ f k z. o.same f k (o.answer ∙ z);
}

returns_opened : clause (λ (x : tie.Need-returns) (c : tie.After-tell). (x c).0)
returns_opened c = reopened c.before.before.open-a.ensures c.tell.ensures

returns_lent : clause (λ (x : tie.Need-returns) (c : tie.After-tell). (x c).1)
returns_lent c = refl

pub till_open_spec : {M : Type 1} → statement M
till_open_spec =
    tie.close (tie.spec (λ c κs. search rules) (λ c κs. search rules) (λ c. (returns_opened c, returns_lent c)))
