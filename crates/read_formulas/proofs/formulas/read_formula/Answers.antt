use Rattle.std.proofs.Common.{rules, sym, ap, refl, ◌∙◌}
use Prim.Native.Char.{code}
use Rattle.request.specs.Range.{predicate, session, principal, formula_number}
use Rattle.request.specs.Text.{bytes, same_bytes, and_then}
use Rattle.request.specs.Reader.{named, choose}
use Rattle.request.specs.Request.{Line}
use Rattle.request.specs.Read.{part, parts, formula_line_with}
use Rattle.ledger.specs.Table.{lettered}
use Rattle.read_formulas.specs.Line.{rowed}
use Rattle.read_formulas.proofs.WordTables.{Others}
use Rattle.read_formulas.proofs.FormulaLetters.{one_row, numbers_line, at_row, superset_row, named_row}
use Rattle.read_formulas.proofs.FormulaLetters.{letter_short, letter_fields, letter_one, letter_one_bare}
use Rattle.read_formulas.proofs.FormulaLetters.{letter_bare, letter_other, row_told, letters}
use Rattle.read_formulas.proofs.formulas.read_formula.Goals as goal

pub returns-in_default : goal.returns-in_default
unfolding rowed and_then
returns-in_default c = sym (ap rowed (letter_short _ c.in_default.len_below))

pub returns-then-stop-eq10 : goal.returns-then-stop-eq10
unfolding rowed and_then
returns-then-stop-eq10 c =
    row_told _ c.lettered.ensures
    ∙ sym (ap rowed
    (letter_one _ c.in-len2-up.len_at_least (sym c.from-x.ensures ∙ c.if-x-eq-ONE.true) c.if-stop-eq10.true))

pub returns-then-x-eq-ONE : goal.returns-then-x-eq-ONE
unfolding rowed and_then
returns-then-x-eq-ONE c =
    sym (ap rowed
    (letter_one_bare _ c.in-len2-up.len_at_least (sym c.from-x.ensures ∙ c.if-x-eq-ONE.true) c.if-stop-eq10.false))

pub returns-then-stop-ne44 : goal.returns-then-stop-ne44
unfolding rowed and_then
returns-then-stop-ne44 c =
    sym (ap rowed
    (letter_bare _ c.in-len2-up.len_at_least (λ e. c.if-x-eq-ONE.false (c.from-x.ensures ∙ e)) c.if-stop-ne44.true))

pub returns-in_default-x : goal.returns-in_default-x
unfolding rowed and_then
returns-in_default-x c =
    let n : Others c.from-x.result letters = search rules in
    sym (ap rowed (letter_other _ c.in-len2-up.len_at_least (rw c.from-x.ensures at n)))

pub returns-in-97 : goal.returns-in-97
unfolding rowed formula_line_with choose named same_bytes bytes part parts and_then
returns-in-97 c =
    numbers_line _ c.in-len2-up.len_at_least (code "a") predicate.last session.last Line.atom
    c.from-x.ensures c.in-97.is c.if-stop-ne44.false (λ b. refl) (λ i j. refl) c.two_fields.ensures

pub returns-in-98 : goal.returns-in-98
unfolding rowed formula_line_with choose named same_bytes bytes part parts and_then
returns-in-98 c =
    c.one_field.ensures
    ∙ sym (ap rowed
    (letter_fields _ c.in-len2-up.len_at_least (code "b") (sym c.from-x.ensures ∙ c.in-98.is) c.if-stop-ne44.false)
    ∙ one_row _ Line.bang (λ i. ap (λ l. lettered l i 0) (sym c.in-98.is)) _)

pub returns-in-103 : goal.returns-in-103
unfolding rowed formula_line_with choose named same_bytes bytes part parts and_then
returns-in-103 c =
    c.superset_fields.ensures
    ∙ sym (ap rowed
    (letter_fields _ c.in-len2-up.len_at_least (code "g") (sym c.from-x.ensures ∙ c.in-103.is) c.if-stop-ne44.false)
    ∙ superset_row _ c.in-103.is _)

pub returns-in-104 : goal.returns-in-104
unfolding rowed formula_line_with choose named same_bytes bytes part parts and_then
returns-in-104 c =
    c.at_fields.ensures
    ∙ sym (ap rowed
    (letter_fields _ c.in-len2-up.len_at_least (code "h") (sym c.from-x.ensures ∙ c.in-104.is) c.if-stop-ne44.false)
    ∙ at_row _ c.in-104.is _)

pub returns-in-115 : goal.returns-in-115
unfolding rowed formula_line_with choose named same_bytes bytes part parts and_then
returns-in-115 c =
    numbers_line _ c.in-len2-up.len_at_least (code "s") principal.last formula_number.last Line.says
    c.from-x.ensures c.in-115.is c.if-stop-ne44.false (λ b. refl) (λ i j. refl) c.two_fields-in-115.ensures

pub returns-in-108 : goal.returns-in-108
unfolding rowed formula_line_with choose named same_bytes bytes part parts and_then
returns-in-108 c =
    numbers_line _ c.in-len2-up.len_at_least (code "l") formula_number.last formula_number.last Line.lolli
    c.from-x.ensures c.in-108.is c.if-stop-ne44.false (λ b. refl) (λ i j. refl) c.two_fields-in-108.ensures

pub returns-in-112 : goal.returns-in-112
unfolding rowed formula_line_with choose named same_bytes bytes part parts and_then
returns-in-112 c =
    numbers_line _ c.in-len2-up.len_at_least (code "p") formula_number.last formula_number.last Line.plus
    c.from-x.ensures c.in-112.is c.if-stop-ne44.false (λ b. refl) (λ i j. refl) c.two_fields-in-112.ensures

pub returns-in-116 : goal.returns-in-116
unfolding rowed formula_line_with choose named same_bytes bytes part parts and_then
returns-in-116 c =
    numbers_line _ c.in-len2-up.len_at_least (code "t") formula_number.last formula_number.last Line.tensor
    c.from-x.ensures c.in-116.is c.if-stop-ne44.false (λ b. refl) (λ i j. refl) c.two_fields-in-116.ensures

pub returns-in-117 : goal.returns-in-117
unfolding rowed formula_line_with choose named same_bytes bytes part parts and_then
returns-in-117 c =
    numbers_line _ c.in-len2-up.len_at_least (code "u") formula_number.last formula_number.last Line.implies
    c.from-x.ensures c.in-117.is c.if-stop-ne44.false (λ b. refl) (λ i j. refl) c.two_fields-in-117.ensures

pub returns-in-119 : goal.returns-in-119
unfolding rowed formula_line_with choose named same_bytes bytes part parts and_then
returns-in-119 c =
    numbers_line _ c.in-len2-up.len_at_least (code "w") formula_number.last formula_number.last Line.with
    c.from-x.ensures c.in-119.is c.if-stop-ne44.false (λ b. refl) (λ i j. refl) c.two_fields-in-119.ensures

pub returns-in-110 : goal.returns-in-110
unfolding rowed formula_line_with choose named same_bytes bytes part parts and_then
returns-in-110 c =
    c.named_fields.ensures
    ∙ sym (ap rowed
    (letter_fields _ c.in-len2-up.len_at_least (code "n") (sym c.from-x.ensures ∙ c.in-110.is) c.if-stop-ne44.false)
    ∙ named_row _ c.in-110.is _)

pub returns-in-113 : goal.returns-in-113
unfolding rowed formula_line_with choose named same_bytes bytes part parts and_then
returns-in-113 c =
    c.one_field-in-113.ensures
    ∙ sym (ap rowed
    (letter_fields _ c.in-len2-up.len_at_least (code "q") (sym c.from-x.ensures ∙ c.in-113.is) c.if-stop-ne44.false)
    ∙ one_row _ Line.for_every (λ i. ap (λ l. lettered l i 0) (sym c.in-113.is)) _)
