-- What opening and closing answer.
use mathlib.Core.Path.{◌≡◌, refl, sym, ap, subst, ◌∙◌}
use mathlib.Core.List.{List}
use mathlib.Core.Option.{Option, none, some}
use Prim.Native.Nat.{ℕ, ◌≤◌}
use native.Mathlib.Omega.{arith}
use lib.ListN.{length, take, drop, length-append, length-drop}
use lib.Seq.{take-append_seam, drop-append_seam}
use borrow.Author.Tests.{le-ltb, lt-ltb}
use Rattle.logic.proofs.Tests.{no_truth}
use Rattle.ledger.specs.declared.Answer.TheVariants.{Accepted, Refused}
use Rattle.ledger.specs.Ledger.{Ledger, is_none}
use Rattle.ledger.specs.Checks.{Refusal, first}
use Rattle.ledger.specs.Calls.{Reply, reply, Told}
use Rattle.ledger.specs.Statements.{IsAccepted}
use Rattle.ledger.proofs.Answers.{some_none, some_inj, if_none, first_passes, refusal_of, heard}
use Rattle.ledger.proofs.Firsts.{pass_first, first_fails, fails_first}
use Rattle.snapshot.specs.Snapshot.{text, snapshot_of, open_checks, Opens}
use Rattle.snapshot.specs.Reopen.{settle, reopen, close}
use Rattle.snapshot.specs.Reached.{Reached}
use Rattle.snapshot.specs.Statements.{OpenedAs, OpenAnswers, CloseAnswers, ClosesAndOpens}
use Rattle.snapshot.proofs.Lawful.{reads_back}

-- the reply of an opened text, and what is told of it
pub opens_as : (t : Ledger) (b : List ℕ) (u : Ledger) → Opens b u → reopen t b ≡ reply (Accepted (length b)) u
unfolding reopen settle
opens_as t b u o =
    ap (λ (x : Option Refusal). settle t (length b) x (snapshot_of b)) o.passes
    ∙ ap (settle t (length b) none) o.reads

opened_as : (b : List ℕ) (u : Ledger) (d : Reply) → d ≡ reply (Accepted (length b)) u → OpenedAs b u d
opened_as b u d e = record { answer = ap heard e; ledger = ap (λ (r : Reply). r.ledger) e }

pub open_answers : (t : Ledger) (b : List ℕ) → OpenAnswers t b
unfolding reopen settle open_checks
open_answers t b = go (first (open_checks b)) refl (snapshot_of b) refl
  where
    go : (f : Option Refusal) → first (open_checks b) ≡ f → (o : Option Ledger) → snapshot_of b ≡ o → OpenAnswers t b
    go (some f) e o q =
        let z : reopen t b ≡ reply (Refused f.number f.step) t =
        ap (λ (x : Option Refusal). settle t (length b) x (snapshot_of b)) e in
        let a = ap heard z in
        record {
          refused = λ n k. (
            λ h. first_fails (open_checks b) (e ∙ ap some (ap refusal_of (sym a ∙ h))),
            λ h. a ∙ ap (λ (x : Refusal). Told.no x.number x.step) (some_inj (sym e ∙ fails_first h)),
          );
          stays = λ n k h. ap (λ (d : Reply). d.ledger) z;
          accepted =
              (λ h. absurd (subst IsAccepted a h), λ p. absurd (some_none (sym e ∙ pass_first (open_checks b) p)));
          opens = λ h. absurd (subst IsAccepted a h);
          answers = λ v w. opened_as b v (reopen t b) (opens_as t b v w);
        }
    go none e (some u) q =
        let x : Opens b u = record { reads = q; passes = e } in
        let z = opens_as t b u x in
        let a : IsAccepted (heard (reopen t b)) = subst (λ (r : Reply). IsAccepted (heard r)) (sym z) tt in
        record {
          refused = λ n k. (λ h. absurd (subst IsAccepted h a), λ h. absurd (some_none (sym (fails_first h) ∙ e)));
          stays = λ n k h. absurd (subst IsAccepted h a);
          accepted = (λ h. first_passes (open_checks b) e, λ p. a);
          opens = λ h. subst (λ (r : Reply). Opens b r.ledger) (sym z) x;
          answers = λ v w. opened_as b v (reopen t b) (opens_as t b v w);
        }
    go none e none q = absurd (no_truth (sym (if_none 50 _ (first_passes (open_checks b) e).0) ∙ ap is_none q))

pub close_answers : (t : Ledger) (o : List ℕ) → CloseAnswers t o
unfolding close
close_answers t o = record {
  short = λ h.
      let e = lt-ltb (length o) (length (text t)) h in
      record { answer = rw (e, close); buffer = rw (e, close) };
  room = λ h.
      let e = le-ltb (length o) (length (text t)) h in
      record {
        answer = rw (e, close);
        written = rw (e, close) (take-append_seam (text t) (drop (length (text t)) o));
        past = rw (e, close) (drop-append_seam (text t) (drop (length (text t)) o));
        size = rw (e, close)
            (omega (arith, h, length-append (text t) (drop (length (text t)) o), length-drop (length (text t)) o));
      };
}

-- the reply of opening what was written
pub written_opens : (t u : Ledger) → Reached t → (o : List ℕ) → length (text t) ≤ length o
    → reopen u (take (length (text t)) (close t o).buffer) ≡ reply (Accepted (length (text t))) t
written_opens t u r o h =
    ap (reopen u) ((close_answers t o).room h).written ∙ opens_as u (text t) t (reads_back t r)

pub closes_and_opens : ClosesAndOpens
closes_and_opens t u r o h = opened_as (text t) t _ (written_opens t u r o h)
