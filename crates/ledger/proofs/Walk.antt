-- What holds of a ledger and of what is kept of the calls, at the start, and is kept by each accepted request, holds
-- after every list of calls.
use mathlib.Core.Path.{◌≡◌, sym, subst}
use mathlib.Core.List.{List, [], ◌∷◌}
use mathlib.Core.Option.{Option, some}
use Prim.Native.Nat.{ℕ}
use Rattle.request.specs.Request.{Request}
use Rattle.request.specs.Read.{request_of}
use Rattle.ledger.specs.declared.Answer.{Answer}
use Rattle.ledger.specs.declared.Answer.TheVariants.{Refused}
use Rattle.ledger.specs.Ledger.{Ledger}
use Rattle.ledger.specs.Calls.{Reply, accept, call, after, answers, traced}
use Rattle.ledger.proofs.Answers.{Does, refuses, accepts, does}
use Rattle.ledger.proofs.Passed.{PassedRead, passed_read}

module _ {A : Type 0} (keep : Option Request → Answer → A → A) (P : Ledger → A → Type 0) where
  -- a refusal leaves what is kept
  abbrev pub Silent : Type 0
  Silent = (o : Option Request) (n k : ℕ) (a : A) → keep o (Refused n k) a ≡ a

  -- the bytes b, which read as r, are accepted
  abbrev pub Keeps : Type 0
  Keeps = (t : Ledger) (a : A) (b : List ℕ) (r : Request) → request_of b ≡ some r → PassedRead t r → P t a
      → P (accept t r).ledger (keep (some r) (accept t r).answer a)

  module _ (silent : Silent) (keeps : Keeps) where
    walk_call : (t : Ledger) (a : A) (b : List ℕ) → P t a
        → P (call t b).ledger (keep (request_of b) (call t b).answer a)
    walk_call t a b p = go (does t b)
      where
        go : Does t b → P (call t b).ledger (keep (request_of b) (call t b).answer a)
        go (refuses f e q) =
            subst (λ (d : Reply). P d.ledger (keep (request_of b) d.answer a)) (sym q)
            (subst (P t) (sym (silent (request_of b) f.number f.step a)) p)
        go (accepts r e c d q) =
            subst (λ (d : Reply). P d.ledger (keep (request_of b) d.answer a)) (sym q)
            (subst (λ (o : Option Request). P (accept t r).ledger (keep o (accept t r).answer a)) (sym e)
            (keeps t a b r e (passed_read t r d) p))

    pub walk : (t : Ledger) (a : A) (bs : List (List ℕ)) → P t a → P (after t bs) (traced keep a bs (answers t bs))
    unfolding after traced answers
    walk t a [] p = p
    walk t a (b ∷ bs) p = walk (call t b).ledger (keep (request_of b) (call t b).answer a) bs (walk_call t a b p)
