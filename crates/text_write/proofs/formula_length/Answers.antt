-- The length by the shape of the line.
use Rattle.std.proofs.Common.{ap}
use Rattle.text_write.specs.Put.{ended}
use Rattle.text_write.proofs.Lengths.{measured_as, one_measured, single_measured}
use Rattle.text_write.proofs.Lengths.{pair_measured, at_measured, superset_measured, triple_measured}
use Rattle.text_write.proofs.formula_length.Goals as goal

pub returns-in-One : goal.returns-in-One
returns-in-One c = measured_as (ap (ended 10) c.in-One.ensures) one_measured

pub returns-in-Single : goal.returns-in-Single
returns-in-Single c = measured_as (ap (ended 10) c.in-Single.ensures) (single_measured _ _ c.digits_length.ensures)

pub returns-in-Pair : goal.returns-in-Pair
returns-in-Pair c =
    measured_as (ap (ended 10) c.in-Pair.ensures)
    (pair_measured _ _ _ c.digits_length-in-Pair.ensures c.digits_length-in-Pair-2.ensures)

pub returns-in-At : goal.returns-in-At
returns-in-At c =
    measured_as (ap (ended 10) c.in-At.ensures)
    (at_measured _ _ c.digits_length-in-At.ensures c.interval_length.ensures)

pub returns-in-Superset : goal.returns-in-Superset
returns-in-Superset c =
    measured_as (ap (ended 10) c.in-Superset.ensures)
    (superset_measured _ _ c.interval_length-in-Superset.ensures c.interval_length-in-Superset-2.ensures)

pub returns-in-Triple : goal.returns-in-Triple
returns-in-Triple c =
    measured_as (ap (ended 10) c.in-Triple.ensures)
    (triple_measured _ _ _ c.digits_length-in-Triple.ensures c.digits_length-in-Triple-2.ensures
    c.digits_length-in-Triple-3.ensures)
