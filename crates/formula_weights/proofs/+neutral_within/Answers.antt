-- `neutral_within` meets its contract.
use Rattle.formula_weights.proofs.Weighing.{parted, part_asked, part_tries}
use Rattle.formula_weights.proofs.Weighing.{tries_at, tries_atom, tries_other, tries_left, tries_right}
use Rattle.formula_weights.proofs.+neutral_within.Goals as goal

pub returns-then-part : goal.returns-then-part
returns-then-part t c =
    tries_at _ (parted _ _ c.parts_of.ensures _ c.requires.1 c.decreases c.in-Nothing.is).sessions
    (tries_atom _ c.args.part c.if-part.true c.neutral_for.ensures)

pub line_at-requires : goal.line_at-requires
line_at-requires t c = (parted _ _ c.parts_of.ensures _ c.requires.1 c.decreases c.in-One.is).each.0.there

pub neutral_within-requires : goal.neutral_within-requires
neutral_within-requires t c =
    let s = c.requires in
    let a = part_asked (parted _ _ c.parts_of.ensures _ s.1 c.decreases c.in-One.is).each.0 c.line_at.ensures in
    (a.0, (s.0, a.1, s.2))

pub line_at-requires-in-Two : goal.line_at-requires-in-Two
line_at-requires-in-Two t c = (parted _ _ c.parts_of.ensures _ c.requires.1 c.decreases c.in-Two.is).each.0.there

pub neutral_within-requires-in-Two : goal.neutral_within-requires-in-Two
neutral_within-requires-in-Two t c =
    let s = c.requires in
    let a = part_asked (parted _ _ c.parts_of.ensures _ s.1 c.decreases c.in-Two.is).each.0 c.line_at-in-Two.ensures in
    (a.0, (s.0, a.1, s.2))

pub returns-in_err-left-in-Two : goal.returns-in_err-left-in-Two
returns-in_err-left-in-Two t c =
    let p = parted _ _ c.parts_of.ensures _ c.requires.1 c.decreases c.in-Two.is in
    tries_at _ p.sessions
    (tries_left _ _ _ (part_tries p.each.0 c.line_at-in-Two.ensures _ c.in_err-left-in-Two.ensures)
    c.from_residual.result c.from_residual.ensures.0)

pub line_at-requires-in-Two-2 : goal.line_at-requires-in-Two-2
line_at-requires-in-Two-2 t c = (parted _ _ c.parts_of.ensures _ c.requires.1 c.decreases c.in-Two.is).each.1.0.there

pub neutral_within-requires-in-Two-2 : goal.neutral_within-requires-in-Two-2
neutral_within-requires-in-Two-2 t c =
    let s = c.requires in
    let a = part_asked (parted _ _ c.parts_of.ensures _ s.1 c.decreases c.in-Two.is).each.1.0
    c.line_at-in-Two-2.ensures in
    (a.0, (s.0, a.1, c.in_ok-left-in-Two.ensures.sure))

pub returns-else-part : goal.returns-else-part
returns-else-part t c =
    tries_at _ (parted _ _ c.parts_of.ensures _ c.requires.1 c.decreases c.in-Nothing.is).sessions
    (tries_other _ c.args.part c.args.last c.if-part.false c.requires.2)

pub returns-in-One : goal.returns-in-One
returns-in-One t c =
    let p = parted _ _ c.parts_of.ensures _ c.requires.1 c.decreases c.in-One.is in
    tries_at _ p.sessions (part_tries p.each.0 c.line_at.ensures _ c.neutral_within.ensures)

pub returns-in_ok-left-in-Two : goal.returns-in_ok-left-in-Two
returns-in_ok-left-in-Two t c =
    let p = parted _ _ c.parts_of.ensures _ c.requires.1 c.decreases c.in-Two.is in
    tries_at _ p.sessions
    (tries_right _ _ _ (part_tries p.each.0 c.line_at-in-Two.ensures _ c.in_ok-left-in-Two.ensures)
    (part_tries p.each.1.0 c.line_at-in-Two-2.ensures _ c.neutral_within-in-Two-2.ensures))
