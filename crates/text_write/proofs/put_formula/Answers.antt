-- The text by the shape of the line.
use Rattle.std.proofs.Common.{ap, sym}
use Rattle.text_write.specs.Put.{ended}
use Rattle.text_write.proofs.Puts.{room_as, wrote_as}
use Rattle.text_write.proofs.put_formula.Goals as goal

pub put_letter-requires : goal.put_letter-requires
put_letter-requires c = room_as (sym (ap (ended 10) c.in-One.ensures)) c.requires

pub put_head-requires : goal.put_head-requires
put_head-requires c = room_as (sym (ap (ended 10) c.in-Single.ensures)) c.requires

pub returns-in-One : goal.returns-in-One
returns-in-One c = wrote_as (ap (ended 10) c.in-One.ensures) c.put_letter.ensures

pub returns-in-Single : goal.returns-in-Single
returns-in-Single c = wrote_as (ap (ended 10) c.in-Single.ensures) c.put_head.ensures

pub put_pair-requires : goal.put_pair-requires
put_pair-requires c = room_as (sym (ap (ended 10) c.in-Pair.ensures)) c.requires

pub returns-in-Pair : goal.returns-in-Pair
returns-in-Pair c = wrote_as (ap (ended 10) c.in-Pair.ensures) c.put_pair.ensures

pub put_superset-requires : goal.put_superset-requires
put_superset-requires c = room_as (sym (ap (ended 10) c.in-Superset.ensures)) c.requires

pub returns-in-Superset : goal.returns-in-Superset
returns-in-Superset c = wrote_as (ap (ended 10) c.in-Superset.ensures) c.put_superset.ensures
