-- Step lines: what the code's answers say, and the steps by their numbers.
use Rattle.std.specs.Prelude.{List, [], ◌∷◌, ℕ, eqb, ltb, Option as Read, Some, None}
use Rattle.std.proofs.Math.Option.{Option, none, some}
use Prim.Native.String.{String}
use Rattle.request.specs.Range.{label, named_holder}
use Rattle.request.specs.Reader.{Reader, return, ◌>>=◌}
use Rattle.request.specs.Request.{Step}
use Rattle.request.specs.Read.{number, label_set, interval, labelled}
use Rattle.logic.specs.Interval.{no_interval}
use Rattle.logic.specs.Choice.{pick}
use Rattle.step_rows.specs.declared.StepRow.{StepRow}
use Rattle.step_rows.specs.StepRows.{step_row, step_of, tr_number, al_number, ll_number, ul_number, no_step}
use Rattle.read_formulas.specs.Line.{lookup}

-- The steps by their numbers

-- the steps' words, in the order of `step_line`, with their numbers: their places in `makers` of
-- step_rows/specs/StepRows
unfoldable pub ops : List (String × ℕ)
ops =
    ("ax", 10) ∷ ("cp", 11) ∷ ("tr", 9) ∷ ("tl", 18) ∷ ("or", 1) ∷ ("ol", 12) ∷ ("wr", 8) ∷ ("w1", 13) ∷ ("w2", 14) ∷
    ("p1", 3) ∷ ("p2", 4) ∷ ("pl", 19) ∷ ("ll", 21) ∷ ("ul", 22) ∷ ("br", 5) ∷ ("bl", 15) ∷ ("hr", 6) ∷ ("hl", 16) ∷
    ("sr", 7) ∷ ("af", 0) ∷ ("sl", 17) ∷ ("gr", 2) ∷ ("al", 20) ∷ []

-- the number of a word
unfoldable pub op_of : List ℕ → ℕ
op_of t = lookup ops no_step t

-- the fields of a step by its number
unfoldable pub label_reader : ℕ → Reader Step
label_reader op = labelled (λ l. step_of (step_row op l 0 0 no_interval))

unfoldable pub step_reader : ℕ → Reader Step
step_reader op =
    pick (ltb op tr_number) (return (step_of (step_row op 0 0 0 no_interval)))
    (pick (eqb op tr_number) (do s ← label_set; return (Step.tr s))
    (pick (ltb op al_number) (label_reader op)
    (pick (eqb op al_number) (do l ← number label; h ← number named_holder; return (Step.al l h))
    (pick (eqb op ll_number) (do l ← number label; s ← label_set; j ← interval; return (Step.ll l s j))
    (pick (eqb op ul_number) (do l ← number label; j ← interval; return (Step.ul l j)) (λ ts. none))))))

-- What an answer of the code says of the bytes, where it leaves those of c: the step of its row, and the bytes after it

abbrev pub step_line_of : Read StepRow → List ℕ → Option (Step × List ℕ)
step_line_of (Some x) c = some (step_of x, c)
step_line_of None c = none
