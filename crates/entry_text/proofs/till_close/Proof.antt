-- `till_close` meets its contract.
use mathlib.Core.Path.{◌≡◌, refl, ap, ◌∙◌}
use mathlib.Core.List.{List}
use Prim.Native.Nat.{ℕ, ◌<◌}
use native.Mathlib.Omega.{arith}
use native.Mathlib.Decide.{dec_lt}
use lib.ListN.{length}
use borrow.Author.Rules.{rules}
use Rattle.ledger.specs.Ledger.{Ledger}
use Rattle.snapshot.specs.Snapshot.{text}
use Rattle.snapshot.specs.Reopen.{close}
use Rattle.snapshot.proofs.Reopen.{close_answers}
use Rattle.entry.specs.Entered.{numbers}
use Rattle.entry.proofs.Clauses.{clause}
use Rattle.entry_text.proofs.till_close.Statement.{statement}
use Rattle.entry_text.proofs.till_close.Tie as tie

-- closing leaves as many bytes as it was lent
close_long : (t : Ledger) (o : List ℕ) → length (close t o).buffer ≡ length o
close_long t o = go (dec_lt (length o) (length (text t)))
  where
    go : Dec (length o < length (text t)) → length (close t o).buffer ≡ length o
    go (yes h) = ap length ((close_answers t o).short h).buffer
    go (no h) = ((close_answers t o).room (omega arith)).size

same_length : tie.Need-shape_of-buffer
same_length c =
    ap length c.close-a.ensures.buffer ∙ close_long _ _

returns_closed : clause (λ (x : tie.Need-returns) (c : tie.After-tell). (x c).0)
returns_closed c =
    let e = c.before.before.before.before.close-a.ensures in
    record { answer = c.tell.ensures ∙ ap numbers e.answer; buffer = e.buffer }

returns_lent : clause (λ (x : tie.Need-returns) (c : tie.After-tell). (x c).1)
returns_lent c = refl

pub till_close_spec : {M : Type 1} → statement M
till_close_spec =
    tie.close
    (tie.spec (λ c κs. search rules) (λ c κs. search rules) same_length (λ c. (returns_closed c, returns_lent c)))
