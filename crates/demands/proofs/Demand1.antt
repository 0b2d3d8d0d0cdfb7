-- Demand 1, proved.
use mathlib.Core.Path.{◌≡◌, sym, ap, subst, ◌∙◌}
use mathlib.Core.List.{List}
use mathlib.Core.Option.{some}
use Prim.Native.Nat.{ℕ}
use Rattle.request.specs.Request.{Request}
use Rattle.request.specs.Read.{request_of}
use Rattle.ledger.specs.Ledger.{Ledger}
use Rattle.ledger.specs.Checks.{Refusal, checks_of}
use Rattle.ledger.specs.Calls.{Reply, Told, accept, call, told_of}
use Rattle.ledger.specs.Statements.{IsAccepted}
use Rattle.ledger.proofs.Answers.{some_none, some_inj, Does, refuses, accepts, does, accept_accepts, refusal_of, heard}
use Rattle.ledger.proofs.Firsts.{pass_first, first_fails, fails_first}
use Rattle.demands.specs.Demands.{Demand1, Accepts}

refused_not : (a : Told) {n k : ℕ} → IsAccepted a → a ≡ Told.no n k → ⊥
refused_not a x e = subst IsAccepted e x

pub demand_1 : (t : Ledger) (bytes : List ℕ) → Demand1 t bytes
demand_1 t b = go (does t b)
  where
    go : Does t b → Demand1 t b
    go (refuses f e q) =
        let a = ap heard q in
        record {
          refused = λ n k. (
            λ h. first_fails (checks_of t b) (e ∙ ap some (ap refusal_of (sym a ∙ h))),
            λ h. a ∙ ap (λ (x : Refusal). Told.no x.number x.step) (some_inj (sym e ∙ fails_first h)),
          );
          stays = λ n k h. ap (λ (d : Reply). d.ledger) q;
          accepted =
              (λ h. absurd (subst IsAccepted a h), λ p. absurd (some_none (sym e ∙ pass_first (checks_of t b) p)));
        }
    go (accepts r e p c q) =
        let a : IsAccepted (told_of t b) = subst (λ (d : Reply). IsAccepted (heard d)) (sym q) (accept_accepts t r) in
        record {
          refused = λ n k. (
            λ h. absurd (refused_not _ a h),
            λ h. absurd (some_none (sym (fails_first h) ∙ pass_first (checks_of t b) p)),
          );
          stays = λ n k h. absurd (refused_not _ a h);
          accepted = (λ h. p, λ h. a);
        }

pub call_accepts : Accepts
call_accepts t b a = go (does t b)
  where
    go : Does t b → (r : Request) × (request_of b ≡ some r) × (call t b ≡ accept t r)
    go (refuses f e q) = absurd (subst IsAccepted (ap heard q) a)
    go (accepts r e p c q) = (r, e, q)
