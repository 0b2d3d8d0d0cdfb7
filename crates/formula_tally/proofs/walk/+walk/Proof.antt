-- `walk` meets its contract; it calls itself for a formula's parts, which are smaller.
use mathlib.Core.Path.{◌≡◌, ap₂, ◌∙◌}
use Prim.Native.Nat.{ℕ, ◌<◌, ◌+◌}
use native.Mathlib.Omega.{arith}
use borrow.Author.Rules.{rules}
use borrow.Fn.Kinds.{In}
use borrow.Fn.PlainCycle.{Measures, is, falls, and}
use Rattle.logic.specs.Formula.{size}
use Rattle.ledger.specs.Ledger.{formula}
use Rattle.store.specs.Store.{ledger_of}
use Rattle.formula_parts.specs.declared.Parts.{Parts}
use Rattle.formula_parts.specs.Parts.{numbers}
use Rattle.formula_tally.specs.Gives.{atom_gives}
use Rattle.formula_tally.proofs.Walking.{Parted, parted}
use Rattle.formula_tally.proofs.walk.walk.Reads as walk
use Rattle.formula_tally.proofs.walk.walk.Kinds as walk_kinds
use Rattle.formula_tally.proofs.walk.+walk.Lts-walk as walk_lts
use Rattle.formula_parts.proofs.parts_of.Reads as parts_of_reads
use Rattle.formula_tally.proofs.walk.atom.Reads as atom_reads
use Rattle.formula_tally.proofs.walk.nearest.Reads as nearest_reads
use Rattle.store.proofs.line_at.Reads as line_at_reads
use Rattle.formula_tally.proofs.walk.+walk.{statement}
use Rattle.formula_tally.proofs.walk.+walk.Tie.{close}

abbrev μ-walk : Measures 1 walk_kinds.ps ℕ
μ-walk κs a = size (formula (ledger_of a.0.now) a.1.0)

abbrev walk_at : ℕ → In 1 walk_kinds.ps
walk_at t = and 1 walk_kinds.ps (is 1 walk_kinds.ps μ-walk t) walk.Pre

abbrev walk_below : ℕ → In 1 walk_kinds.ps
walk_below t = and 1 walk_kinds.ps (falls 1 walk_kinds.ps ◌<◌ μ-walk t) walk.Pre

abbrev walk_with : ℕ → walk_lts.Claims
walk_with t = (
  line_at_reads.Asked,
  line_at_reads.Learnt,
  nearest_reads.Asked,
  nearest_reads.Learnt,
  parts_of_reads.Asked,
  parts_of_reads.Learnt,
  atom_reads.Asked,
  atom_reads.Learnt,
  walk_below t,
  walk.Post,
)

-- what is known of the parts in each arm
parts : (t : ℕ) (c : walk_lts.After-parts_of (walk_with t) (walk_at t) walk.Post) {q : Parts}
    → c.parts_of.result ≡ q
    → (let s = c.args in
    Parted s.store.now t s.formula s.under s.session
    (atom_gives s.under s.session c.line_at-row.result) c.nearest-above.result (numbers q))
parts t c =
    parted _ c.requires.1.0 c.args.formula c.args.under c.args.session _
    c.line_at-row.ensures c.requires.0 c.nearest-above.ensures c.parts_of.ensures

pub +walk_spec : {M : Type 1} → statement M
+walk_spec =
    close μ-walk
    (λ t. walk_lts.spec (walk_with t) (walk_at t) walk.Post
    (λ c κs. c.requires.1) (λ c κs. search rules) (λ c κs. search rules) (λ c. search rules) (λ c κs. search rules)
    (λ c. search rules)
    (λ c κs. (parts t c.before c.in-One.is).each.0)
    (λ c. search rules)
    (λ c κs. (parts t c.before c.in-Two.is).each.0)
    (λ c κs. (parts t c.before.before c.in-Two.is).each.1.0)
    (λ c. let p = parts t c.before.before.before c.in-Two.is in
    omega (arith, c.walk-in-Two.ensures, c.walk-in-Two-2.ensures, p.gives, p.small))
    (λ c. c.atom.ensures ∙ (parts t c.before.before c.in-Nothing.is).gives)
    (λ c. c.walk.ensures ∙ (parts t c.before.before c.in-One.is).gives)
    (λ c. ap₂ ◌+◌ c.walk-in-Two.ensures c.walk-in-Two-2.ensures ∙ (parts t c.before.before.before c.in-Two.is).gives))
