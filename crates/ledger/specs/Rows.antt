-- A row read as a line again: the other way than `row_of` in Table.antt.
use Prim.Native.Char.{code}
use Rattle.std.specs.Prelude.{eqb}
use Rattle.logic.specs.Choice.{pick}
use Rattle.request.specs.Request.{Line}
use Rattle.steps.specs.declared.Row.{Row}

-- the line of a row, by its letter; 1 for any other letter
unfoldable pub line_of : Row → Line
line_of r =
    pick (eqb r.letter (code "a")) (Line.atom r.a r.b)
    (pick (eqb r.letter (code "t")) (Line.tensor r.a r.b)
    (pick (eqb r.letter (code "w")) (Line.with r.a r.b)
    (pick (eqb r.letter (code "p")) (Line.plus r.a r.b)
    (pick (eqb r.letter (code "l")) (Line.lolli r.a r.b)
    (pick (eqb r.letter (code "u")) (Line.implies r.a r.b)
    (pick (eqb r.letter (code "b")) (Line.bang r.a)
    (pick (eqb r.letter (code "h")) (Line.at r.a r.first)
    (pick (eqb r.letter (code "s")) (Line.says r.a r.b)
    (pick (eqb r.letter (code "g")) (Line.superset r.first r.second)
    (pick (eqb r.letter (code "n")) (Line.named r.a r.b r.holder)
    (pick (eqb r.letter (code "q")) (Line.for_every r.a)
    Line.one)))))))))))
