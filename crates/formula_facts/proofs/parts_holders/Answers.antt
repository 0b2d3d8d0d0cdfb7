-- `parts_holders` meets its contract.
use mathlib.Core.Path.{◌≡◌, refl, sym, ap, ap₂, ◌∙◌}
use mathlib.Core.List.{List, [], ◌∷◌}
use mathlib.Core.Bool.{Bool, ◌||◌, or-false}
use Prim.Native.Nat.{ℕ}
use Rattle.logic.specs.Formula.{unbound, quantified}
use Rattle.ledger.specs.Ledger.{formula}
use Rattle.ledger.specs.Checks.{any_of}
use Rattle.store.specs.Store.{ledger_of}
use Rattle.formula_facts.proofs.Named.{parts_there, any_part}
use Rattle.formula_facts.proofs.parts_holders.Goals as goal

-- a test of one part, and of two
any_one : {b : Bool} (f : ℕ → Bool) (i : ℕ) → b ≡ f i → b ≡ any_of f (i ∷ [])
unfolding any_of
any_one f i e = e ∙ sym (or-false (f i))

any_two : {a b : Bool} (f : ℕ → Bool) (i j : ℕ) → a ≡ f i → b ≡ f j → (a || b) ≡ any_of f (i ∷ j ∷ [])
unfolding any_of
any_two f i j e h = ap₂ ◌||◌ e (any_one f j h)

pub facts_at-x-requires : goal.facts_at-x-requires
facts_at-x-requires c = (c.requires.good, (parts_there _ _ _ c.parts_of.ensures c.in-One.is _ c.requires).0)

pub facts_at-x-requires-in-Two : goal.facts_at-x-requires-in-Two
facts_at-x-requires-in-Two c = (c.requires.good, (parts_there _ _ _ c.parts_of.ensures c.in-Two.is _ c.requires).0)

pub facts_at-y-requires : goal.facts_at-y-requires
facts_at-y-requires c = (c.requires.good, (parts_there _ _ _ c.parts_of.ensures c.in-Two.is _ c.requires).1.0)

pub returns-in-Nothing : goal.returns-in-Nothing
unfolding any_of
returns-in-Nothing c =
    let asked = any_part _ _ _ c.parts_of.ensures c.in-Nothing.is _ c.requires in
    record { unbound = asked _; quantified = asked _ }

pub returns-in-One : goal.returns-in-One
returns-in-One c =
    let t = ledger_of c.args.store.now in
    let asked = any_part _ _ _ c.parts_of.ensures c.in-One.is _ c.requires in
    let x = c.facts_at-x.ensures.kept in
    record {
      unbound = any_one (λ k. unbound (formula t k)) _ x.unbound_kept ∙ asked _;
      quantified = any_one (λ k. quantified (formula t k)) _ x.quantified_kept ∙ asked _;
    }

pub returns-in-Two : goal.returns-in-Two
returns-in-Two c =
    let t = ledger_of c.args.store.now in
    let asked = any_part _ _ _ c.parts_of.ensures c.in-Two.is _ c.requires in
    let x = c.facts_at-x-in-Two.ensures.kept in
    let y = c.facts_at-y.ensures.kept in
    record {
      unbound = any_two (λ k. unbound (formula t k)) _ _ x.unbound_kept y.unbound_kept ∙ asked _;
      quantified = any_two (λ k. quantified (formula t k)) _ _ x.quantified_kept y.quantified_kept ∙ asked _;
    }
