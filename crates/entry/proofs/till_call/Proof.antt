-- `till_call` meets its contract.
use mathlib.Core.Path.{◌≡◌, refl, ap, ◌∙◌}
use mathlib.Core.List.{List}
use Prim.Native.Nat.{ℕ}
use borrow.Author.Rules.{rules}
use Rattle.ledger.specs.declared.Answer.{Answer}
use Rattle.ledger.specs.Calls.{told}
use Rattle.call_contracts.specs.Called.{Called}
use Rattle.entry.specs.Entered.{numbers, Entered}
use Rattle.entry.proofs.Clauses.{clause}
use Rattle.entry.proofs.till_call.Statement.{statement}
use Rattle.entry.proofs.till_call.Tie as tie

entered : {l b l' n : List ℕ} {a : Answer} → Called l b a l' → n ≡ numbers (told a) → Entered l b n l'
entered c q = record {
  good = c.good;
  answer = q ∙ ap numbers c.answer;
  ledger = c.ledger;
  same = λ f k z. c.same f k (c.answer ∙ z);
}

returns_entered : clause (λ (x : tie.Need-returns) (c : tie.After-tell). (x c).0)
returns_entered c = entered c.before.before.call-a.ensures c.tell.ensures

returns_lent : clause (λ (x : tie.Need-returns) (c : tie.After-tell). (x c).1)
returns_lent c = refl

pub till_call_spec : {M : Type 1} → statement M
till_call_spec =
    tie.close (tie.spec (λ c κs. search rules) (λ c κs. search rules) (λ c. (returns_entered c, returns_lent c)))
