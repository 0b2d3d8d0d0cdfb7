-- Holding: what holds before each hold is looked up, and after the last.
use mathlib.Core.Path.{◌≡◌, refl, sym, subst, ◌∙◌}
use mathlib.Core.List.{List, [], ◌∷◌, map}
use mathlib.Core.Option.{some}
use mathlib.Core.Bool.{true}
use Prim.Native.Nat.{ℕ, ◌+◌, ◌≤◌}
use native.Mathlib.Omega.{arith}
use native.Mathlib.Numerals.{add-one}
use lib.ListN.{drop}
use Rattle.std.specs.Prelude.{Some, None}
use Rattle.request.specs.declared.Kind.TheVariants.{Linear, Unrestricted}
use Rattle.labels.specs.Labels.{insert}
use Rattle.steps.specs.declared.Hypothesis.{Hypothesis}
use Rattle.steps.specs.Check.{puts}
use Rattle.ledger.specs.declared.Credential.{Credential}
use Rattle.ledger.specs.Ledger.{Ledger, find, held, linear_count}
use Rattle.ledger.specs.Checks.{any_of, dead, hypothesis, labels_of}
use Rattle.ledger.proofs.Firsts.{if_true, if_false}
use Rattle.step_rows.specs.LabelRows.{put_label}
use Rattle.call_holds.specs.declared.Sides.{Sides}
use Rattle.call_holds.specs.Holds.{AllHeld, HeldIs}

module _ (t : Ledger) (ns : List ℕ) (table₀ : List Hypothesis) where
  -- k holds have been looked up: s is what they come to, and the rest is still to come
  pub record Holding (k : ℕ) (s : Sides) (table : List Hypothesis) : Type 0 where
    pub few : s.linears ≤ k
    pub alive : any_of (dead t) ns ≡ any_of (dead t) (drop k ns)
    pub unrestricted : labels_of Unrestricted 0 (held t.live ns) 0
        ≡ labels_of Unrestricted k (held t.live (drop k ns)) s.unrestricted
    pub linear : labels_of Linear 0 (held t.live ns) 0 ≡ labels_of Linear k (held t.live (drop k ns)) s.linear
    pub linears : linear_count (held t.live ns) ≡ s.linears + linear_count (held t.live (drop k ns))
    pub shown : puts put_label table₀ 0 (map hypothesis (held t.live ns))
        ≡ puts put_label table k (map hypothesis (held t.live (drop k ns)))

  pub first_hold : Holding 0 (record { unrestricted = 0; linear = 0; linears = 0 }) table₀
  first_hold = record {
    few = omega arith;
    alive = refl;
    unrestricted = refl;
    linear = refl;
    linears = omega arith;
    shown = refl;
  }

  module _ {k : ℕ} {s : Sides} {table : List Hypothesis} (h : Holding k s table) where
    module _ {m : ℕ} (e : drop k ns ≡ m ∷ drop (k + 1) ns) where
      pub dead_hold : dead t m ≡ true → {table' : List Hypothesis} → HeldIs t ns table₀ None table'
      unfolding any_of
      dead_hold q = record {
        check = sym (if_true 24 _ (h.alive ∙ rw (e, any_of, q)));
        held = λ s z. absurd (let y : ◌≡◌ {A = ℕ} 0 1 = cc in omega arith);
      }

      -- a linear hold, and an unrestricted one
      module _ {c : Credential} (q : find t.live m ≡ some c) {table' : List Hypothesis}
          (t' : table' ≡ put_label table k (hypothesis c)) where
        pub next_linear : c.kind ≡ Linear → {d : ℕ} → d ≡ insert s.linear k
            → Holding (k + 1) (record s { linear = d; linears = s.linears + 1 }) table'
        unfolding any_of held labels_of linear_count
        next_linear z {d} i =
            let e' = rw add-one at e in
            rw (add-one, t', i) (record {
              few = omega (arith, h.few);
              alive = h.alive ∙ rw (e', any_of, q);
              unrestricted = h.unrestricted ∙ rw (e', held, q, labels_of, z);
              linear = h.linear ∙ rw (e', held, q, labels_of, z);
              linears = h.linears ∙ rw (e', held, q, linear_count, z) (omega arith);
              shown = h.shown ∙ rw (e', held, q);
            })

        pub next_unrestricted : c.kind ≡ Unrestricted → {d : ℕ} → d ≡ insert s.unrestricted k
            → Holding (k + 1) (record s { unrestricted = d }) table'
        unfolding any_of held labels_of linear_count
        next_unrestricted z {d} i =
            let e' = rw add-one at e in
            rw (add-one, t', i) (record {
              few = omega (arith, h.few);
              alive = h.alive ∙ rw (e', any_of, q);
              unrestricted = h.unrestricted ∙ rw (e', held, q, labels_of, z);
              linear = h.linear ∙ rw (e', held, q, labels_of, z);
              linears = h.linears ∙ rw (e', held, q, linear_count, z) (omega arith);
              shown = h.shown ∙ rw (e', held, q);
            })

    all_held : drop k ns ≡ [] → AllHeld t ns table₀ s table
    unfolding any_of held labels_of linear_count
    all_held e = record {
      alive = h.alive ∙ rw (e, any_of);
      unrestricted = h.unrestricted ∙ rw (e, held, labels_of);
      linear = h.linear ∙ rw (e, held, labels_of);
      linears = h.linears ∙ rw (e, held, linear_count) (omega arith);
      shown = h.shown ∙ rw (e, held);
    }

    pub live_holds : drop k ns ≡ [] → HeldIs t ns table₀ (Some s) table
    live_holds e =
        let a = all_held e in
        record {
          check = sym (if_false 24 _ a.alive);
          held = λ x z. let y : s ≡ x = cc in subst (λ (x : Sides). AllHeld t ns table₀ x table) y a;
        }
