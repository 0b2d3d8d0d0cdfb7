-- `weigh` meets its contract; it calls itself for a formula's parts, which are smaller.
use Prim.Native.Nat.{ℕ, ◌<◌}
use Rattle.logic.specs.Formula.{size}
use Rattle.ledger.specs.Table.{form}
use Rattle.ledger.specs.Ledger.{formula}
use Rattle.store.specs.Store.{line_of, ledger_of}
use Rattle.formula_parts.specs.declared.Parts.{Parts}
use Rattle.formula_parts.specs.Parts.{numbers}
use mathlib.Core.Path.{◌≡◌, ap, ap₂, ◌∙◌}
use borrow.Author.Rules.{rules}
use borrow.Fn.Kinds.{In}
use borrow.Fn.PlainCycle.{Measures, is, falls, and}
use Rattle.formula_weights.specs.RowWeights.{under_weight, joined_weight}
use Rattle.formula_weights.proofs.Weighing.{Parted, parted, part_asked, part_weight, part_light}
use Rattle.formula_weights.proofs.weigh.Reads as weigh
use Rattle.formula_weights.proofs.weigh.Kinds as weigh_kinds
use Rattle.formula_weights.proofs.+weigh.Lts-weigh as weigh_lts
use Rattle.formula_parts.proofs.parts_of.Reads as parts_of_reads
use Rattle.store.proofs.line_at.Reads as line_at_reads
use Rattle.formula_weights.proofs.alone.Reads as alone_reads
use Rattle.formula_weights.proofs.joined.Reads as joined_reads
use Rattle.formula_weights.proofs.under.Reads as under_reads
use Rattle.formula_weights.proofs.+weigh.{statement}
use Rattle.formula_weights.proofs.+weigh.Tie.{close}

abbrev μ-weigh : Measures 1 weigh_kinds.ps ℕ
μ-weigh κs a = size (form (formula (ledger_of a.0.now)) (line_of a.1.0))

abbrev weigh_at : ℕ → In 1 weigh_kinds.ps
weigh_at t = and 1 weigh_kinds.ps (is 1 weigh_kinds.ps μ-weigh t) weigh.Pre

abbrev weigh_below : ℕ → In 1 weigh_kinds.ps
weigh_below t = and 1 weigh_kinds.ps (falls 1 weigh_kinds.ps ◌<◌ μ-weigh t) weigh.Pre

abbrev weigh_with : ℕ → weigh_lts.Claims
weigh_with t = (
  parts_of_reads.Asked,
  parts_of_reads.Learnt,
  alone_reads.Asked,
  alone_reads.Learnt,
  line_at_reads.Asked,
  line_at_reads.Learnt,
  weigh_below t,
  weigh.Post,
  under_reads.Asked,
  under_reads.Learnt,
  joined_reads.Asked,
  joined_reads.Learnt,
)

-- what is known of the parts in each arm
parts : (t : ℕ) (c : weigh_lts.After-parts_of (weigh_with t) (weigh_at t) weigh.Post) {q : Parts}
    → c.parts_of.result ≡ q → Parted c.args.store.now c.args.row t (numbers q)
parts t c = parted _ _ c.parts_of.ensures _ c.requires.1 c.requires.0

weigh_returns_3 : (t : ℕ) → weigh_lts.Need-returns-in-Two (weigh_with t) (weigh_at t) weigh.Post
weigh_returns_3 t c =
    let p = parts t c.before.before.before.before.before.before c.in-Two.is in
    c.joined.ensures
    ∙ ap₂ (joined_weight _) (part_weight p.each.0 c.line_at-left.ensures _ c.weigh-x-in-Two.ensures)
    (part_weight p.each.1.0 c.line_at-right.ensures _ c.weigh-y.ensures)
    ∙ p.weight _

pub +weigh_spec : {M : Type 1} → statement M
+weigh_spec =
    close μ-weigh
    (λ t. weigh_lts.spec (weigh_with t) (weigh_at t) weigh.Post
    (λ c κs. search rules) (λ c. search rules) (λ c κs. search rules) (λ c. search rules)
    (λ c κs. (parts t c.before c.in-One.is).each.0.there)
    (λ c κs. part_asked (parts t c.before.before c.in-One.is).each.0 c.line_at-part.ensures)
    (λ c κs. search rules) (λ c. search rules)
    (λ c κs. (parts t c.before c.in-Two.is).each.0.there)
    (λ c κs. part_asked (parts t c.before.before c.in-Two.is).each.0 c.line_at-left.ensures)
    (λ c κs. (parts t c.before.before.before c.in-Two.is).each.1.0.there)
    (λ c κs. part_asked (parts t c.before.before.before.before c.in-Two.is).each.1.0 c.line_at-right.ensures)
    (λ c κs. let p = parts t c.before.before.before.before.before c.in-Two.is in (
      part_light p.each.0 c.line_at-left.ensures _ c.weigh-x-in-Two.ensures,
      part_light p.each.1.0 c.line_at-right.ensures _ c.weigh-y.ensures,
    ))
    (λ c. c.alone.ensures ∙ (parts t c.before.before c.in-Nothing.is).weight _)
    (λ c. let p = parts t c.before.before.before.before c.in-One.is in
    c.under.ensures
    ∙ ap (under_weight _) (part_weight p.each.0 c.line_at-part.ensures _ c.weigh-x.ensures)
    ∙ p.weight _)
    (weigh_returns_3 t))
