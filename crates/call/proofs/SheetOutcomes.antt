-- What the first line of a sheet tells.
use mathlib.Core.Path.{◌≡◌, sym, ap, subst, ◌∙◌}
use mathlib.Core.List.{List}
use mathlib.Core.Option.{Option, none, some}
use Prim.Native.Nat.{ℕ}
use Rattle.request.specs.Request.{Line, Request, word}
use Rattle.request.specs.Read.{request_of}
use Rattle.steps.specs.declared.Row.{Row}
use Rattle.ledger.specs.Ledger.{is_none}
use Rattle.ledger.proofs.Firsts.{if_some, none_there}
use Rattle.store.specs.Store.{line_of, Canonical}
use Rattle.store.proofs.LinesOfRows.{line_of_row, row_canonical}
use Rattle.read_heads.specs.declared.First.{First}
use Rattle.read_heads.specs.First.{WordIs, FormBroken, LineIs}

-- what the first line is, by the match on it
pub line_as : (b c : List ℕ) {f g : First} → LineIs (request_of b) c f → f ≡ g → LineIs (request_of b) c g
line_as b c l e = subst (LineIs (request_of b) c) e l

-- 2 fails where there is no request
pub no_request : {q : Option Request} → FormBroken q → q ≡ none
no_request {q} b = none_there q (if_some 2 (is_none q) (sym b.check))

-- a row that was read is a line's
pub word_canonical : {q : Option Request} {x : Row} → WordIs q x → Canonical x
word_canonical w = subst Canonical w.row (row_canonical w.line)

pub word_reads : {q : Option Request} {x : Row} → WordIs q x → q ≡ some (word (line_of x))
word_reads w = w.reads ∙ ap (λ (m : Line). some (word m)) (sym (line_of_row w.line) ∙ ap line_of w.row)
