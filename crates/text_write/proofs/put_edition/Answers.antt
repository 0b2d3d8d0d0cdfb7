-- Seven bytes stand at the front, of which the edition is one.
use Rattle.std.proofs.Common.{◌≤◌, [], ◌∷◌, List, ℕ, length, ap, arith}
use Rattle.std.proofs.Math.Seq.{length-take-le}
use Rattle.request.specs.Text.{bytes}
use Rattle.request.specs.Write.{joined}
use Rattle.snapshot.specs.declared.Edition.{Edition}
use Rattle.snapshot.specs.declared.Edition.TheVariants.{First, Second}
use Rattle.snapshot.specs.Snapshot.{edition_field}
use Rattle.text_write.specs.Put.{ended}
use Rattle.text_write.proofs.Puts.{wrote_front, wrote_as}
use Rattle.text_write.proofs.put_edition.Goals as goal

abbrev titled : List ℕ → List ℕ
titled x = ended 44 (bytes "till" ∷ x ∷ [])

room : (e : Edition) (o : List ℕ) → length (titled (edition_field e)) ≤ length o → 7 ≤ length o
unfolding ended joined bytes
room First o h = h
room Second o h = h

pub slice_bounds-copy_from_slice-end : goal.slice_bounds-copy_from_slice-end
slice_bounds-copy_from_slice-end c = room c.args.e _ c.requires

pub slice_bounds-copy_from_slice-end-2 : goal.slice_bounds-copy_from_slice-end-2
slice_bounds-copy_from_slice-end-2 c = omega (arith, length-take-le 7 c.args.rest.now (room c.args.e _ c.requires))

pub copy_from_slice-requires : goal.copy_from_slice-requires
copy_from_slice-requires c = length-take-le 7 c.args.rest.now (room c.args.e _ c.requires)

pub returns : goal.returns
unfolding ended joined bytes
returns c =
    wrote_as (ap titled c.edition_digit-d.ensures)
    (wrote_front c.copy_from_slice.ensures.after (room c.args.e c.args.rest.now c.requires))
