-- Spending: what holds before each hold is spent, and after the last.
use mathlib.Core.Path.{◌≡◌, refl, sym, ap, subst, ◌∙◌}
use mathlib.Core.List.{List, [], ◌∷◌}
use mathlib.Core.Bool.{true, false}
use Prim.Native.Nat.{ℕ, ◌+◌}
use lib.ListN.{drop}
use Rattle.std.specs.Prelude.{Some, None}
use Rattle.logic.specs.Multiset.{Every}
use Rattle.logic.proofs.Tests.{no_truth}
use Rattle.request.specs.declared.Kind.{Kind}
use Rattle.request.specs.declared.Kind.TheVariants.{Linear, Unrestricted}
use Rattle.ledger.specs.declared.Credential.{Credential}
use Rattle.ledger.specs.Ledger.{Ledger, is_kind, without_serial, held, spend}
use Rattle.ledger.specs.Checks.{any_of, dead, twice}
use Rattle.ledger.specs.Calls.{with_live}
use Rattle.ledger.proofs.Credentials.{Alive, Apart, any_none, twice_apart, spend_first, alive_after}
use Rattle.store_cells.specs.Layout.{credential_at}
use Rattle.store.specs.Store.{ledger_of, Good, StandsFor}
use Rattle.store_lookup.specs.Lookup.{LooksUp}
use Rattle.store_lookup.proofs.Places.{none_found, one_found}
use Rattle.call_holds.specs.Holds.{spent}

-- One hold

-- its kind, by the test of it
is_linear : (k : Kind) → is_kind Linear k ≡ true → k ≡ Linear
is_linear Linear e = refl
is_linear Unrestricted e = absurd (no_truth e)

not_linear : (k : Kind) → is_kind Linear k ≡ false → k ≡ Unrestricted
not_linear Linear e = absurd (no_truth (sym e))
not_linear Unrestricted e = refl

module _ {l : List ℕ} {n : ℕ} (g : Good l) where
  pub spent_nothing : LooksUp l n None → StandsFor l (with_live (ledger_of l) (spent (ledger_of l).live n))
  unfolding held spend
  spent_nothing h = record { good = g; ledger = rw (none_found g h, held, spend) }

  module _ {i : ℕ} (h : LooksUp l n (Some i)) where
    pub spent_unrestricted : is_kind Linear (credential_at l i).kind ≡ false
        → StandsFor l (with_live (ledger_of l) (spent (ledger_of l).live n))
    unfolding held spend
    spent_unrestricted e =
        record { good = g; ledger = rw (one_found g h, held, spend, not_linear (credential_at l i).kind e) }

    pub spent_linear : is_kind Linear (credential_at l i).kind ≡ true → {l' : List ℕ}
        → StandsFor l' (with_live (ledger_of l) (without_serial (ledger_of l).live (credential_at l i).serial))
        → StandsFor l' (with_live (ledger_of l) (spent (ledger_of l).live n))
    unfolding held spend
    spent_linear e {l'} s =
        let taken : spent (ledger_of l).live n ≡ without_serial (ledger_of l).live (credential_at l i).serial =
        rw (one_found g h, held, spend, is_linear (credential_at l i).kind e) in
        subst (λ (cs : List Credential). StandsFor l' (with_live (ledger_of l) cs)) (sym taken) s

-- All of them

module _ (t : Ledger) (ns : List ℕ) where
  -- k holds are spent: `live` are left, and the rest is spent from them
  pub record Spending (k : ℕ) (l : List ℕ) : Type 0 where
    pub live : List Credential
    pub stands : StandsFor l (with_live t live)
    pub same : spend t.live (held t.live ns) ≡ spend live (held live (drop k ns))
    pub alive : Every (Alive live) (drop k ns)
    pub apart : Apart (drop k ns)

  pub first_spent : (l : List ℕ) → Good l → ledger_of l ≡ t → any_of (dead t) ns ≡ false → twice ns ≡ false
      → Spending 0 l
  first_spent l g e a b = record {
    live = t.live;
    stands = record { good = g; ledger = e };
    same = refl;
    alive = any_none (dead t) ns a;
    apart = twice_apart ns b;
  }

  pub next_spent : {k m : ℕ} {l l' : List ℕ} → Spending k l → drop k ns ≡ m ∷ drop (k + 1) ns
      → StandsFor l' (with_live (ledger_of l) (spent (ledger_of l).live m)) → Spending (k + 1) l'
  next_spent {k} {m} {l} {l'} h e s =
      let ms = drop (k + 1) ns in
      let a : Every (Alive h.live) (m ∷ ms) = subst (Every (Alive h.live)) e h.alive in
      let b : Apart (m ∷ ms) = subst Apart e h.apart in
      record {
        live = spent h.live m;
        stands = subst (λ (u : Ledger). StandsFor l' (with_live u (spent u.live m))) h.stands.ledger s;
        same = h.same ∙ ap (λ (xs : List ℕ). spend h.live (held h.live xs)) e
            ∙ spend_first h.live m ms a.0 b.0;
        alive = alive_after h.live m ms a.0 b.0 a.1;
        apart = b.1;
      }

  pub last_spent : {k : ℕ} {l : List ℕ} → Spending k l → drop k ns ≡ []
      → StandsFor l (with_live t (spend t.live (held t.live ns)))
  unfolding held spend
  last_spent {l = l} h e =
      subst (λ (cs : List Credential). StandsFor l (with_live t cs)) (sym (h.same ∙ rw (e, held, spend))) h.stands
