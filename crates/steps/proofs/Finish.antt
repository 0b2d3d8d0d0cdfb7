-- All step lines: they pass where no line is left after the close, and are refused where one is.
use mathlib.Core.Path.{◌≡◌, refl, subst₂}
use mathlib.Core.List.{List, [], ◌∷◌}
use Prim.Native.Nat.{ℕ, ◌-◌}
use native.Mathlib.Omega.{arith}
use lib.ListN.{length}
use Rattle.logic.specs.Formula.{Formula}
use Rattle.request.specs.Request.{Step}
use Rattle.steps.specs.declared.Row.{Row}
use Rattle.steps.specs.declared.Hypothesis.{Hypothesis}
use Rattle.steps.specs.Check.{Outcome, done, stopped, finished}
use Rattle.steps.specs.Spells.{Labels, Labelled, Spells, Refused}
use Rattle.steps.specs.Unroll.{Unrolls}
use Rattle.steps.proofs.Runs.{Result, closed, halted, Ends}
use Rattle.steps.proofs.LabelTables.{Table}
use Rattle.steps.proofs.Checker.{Shown, closes, stops}

module _ {row : ℕ → Row} {formula : ℕ → Formula} (u : Unrolls row formula) {T : Type 0} {held : T → ℕ → Hypothesis}
    {put : T → ℕ → Hypothesis → T} (table : Table held put) (total : ℕ) where
  module _ {ss : List Step} {ls : Labels} {q : Labelled} where
    pub passed_spells : (o : Outcome T) (e : Result) → Shown u table total o e → Ends total ss ls q e
        → {t : T} {n : ℕ} → finished total o ≡ done [] t n → (after : Labels) × Spells ss ls q [] after
    unfolding finished
    passed_spells o e (closes {ss = []} {ls = after} sh) x p = (after, x)
    passed_spells o e (closes {ss = s ∷ rest} sh) x p = let z : ◌≡◌ {A = ℕ} 0 1 = cc in absurd (omega arith)
    passed_spells o e stops x p = let z : ◌≡◌ {A = ℕ} 0 1 = cc in absurd (omega arith)

    pub stopped_refused : (o : Outcome T) (e : Result) → Shown u table total o e → Ends total ss ls q e
        → {c m : ℕ} → finished total o ≡ stopped c m → Refused total ss ls q c m
    unfolding finished
    stopped_refused o e (closes {ss = []} sh) x p = let z : ◌≡◌ {A = ℕ} 0 1 = cc in absurd (omega arith)
    stopped_refused o e (closes {ss = s ∷ rest} sh) x p =
        subst₂ (λ (c m : ℕ). Refused total ss ls q c m) (cc) (cc) (Refused.follows x)
    stopped_refused o e stops x p = subst₂ (λ (c m : ℕ). Refused total ss ls q c m) (cc) (cc) (Refused.stopped x)

  pub spells_passed : {after : Labels} (o : Outcome T) → Shown u table total o (closed [] after)
      → (t : T) × (n : ℕ) × (finished total o ≡ done [] t n)
  unfolding finished
  spells_passed o (closes {t = t} {n = n} sh) = (t, n, refl)

  halted_stopped : {c m : ℕ} (o : Outcome T) → Shown u table total o (halted c m) → finished total o ≡ stopped c m
  unfolding finished
  halted_stopped o stops = refl

  follows_stopped : {s : Step} {rest : List Step} {after : Labels} (o : Outcome T)
      → Shown u table total o (closed (s ∷ rest) after) → finished total o ≡ stopped 42 (total - length rest)
  unfolding finished
  follows_stopped o (closes sh) = refl

  pub refused_stopped : {ss : List Step} {ls : Labels} {q : Labelled} (o : Outcome T)
      → ((e : Result) → Ends total ss ls q e → Shown u table total o e)
      → {c m : ℕ} → Refused total ss ls q c m → finished total o ≡ stopped c m
  refused_stopped o shown (Refused.stopped {c = c} {n = n} x) = halted_stopped o (shown (halted c n) x)
  refused_stopped o shown (Refused.follows {s = s} {rest = rest} {after = after} x) =
      follows_stopped o (shown (closed (s ∷ rest) after) x)
