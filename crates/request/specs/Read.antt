-- The five requests, the 13 formula lines and the 23 step lines: which fields, in which order, from which range.
use Rattle.std.specs.Prelude.{ℕ, List, [], ◌∷◌}
use Rattle.std.proofs.Math.Option.{Option}
use Rattle.logic.specs.declared.Interval.{Interval}
use Rattle.logic.specs.Interval.{span}
use Rattle.request.specs.declared.Kind.{Kind}
use Rattle.request.specs.declared.Kind.TheVariants.{Linear, Unrestricted}
use Rattle.request.specs.Range.{Range, predicate, session, principal, minute, formula_number, serial, label}
use Rattle.request.specs.Range.{holds, steps, holder, named_holder}
use Rattle.request.specs.Text.{and_then, lines, number_in, label_set_in}
use Rattle.request.specs.Reader.{Reader, return, ◌>>=◌, next, many, choose, whole, line}
use Rattle.request.specs.Request.{Line, Step, Request, word, issue, withdraw, book, tally}

-- Fields

unfoldable pub number : Range → Reader ℕ
number r = next (number_in r)

unfoldable pub label_set : Reader ℕ
label_set = next label_set_in

-- `from,to` and the break's `first,last`: "two more fields .. after from and to. .. Lines of the old length break the
-- form."
unfoldable pub interval : Reader Interval
interval = do
  i ← number minute
  j ← number minute
  p ← number minute
  q ← number minute
  return (span i j p q)

-- "kind s is single-use, r standing"
unfoldable pub kind : Reader Kind
kind = choose (("s", return Linear) ∷ ("r", return Unrestricted) ∷ [])

-- Formula lines

-- one number of an earlier formula, or two
unfoldable pub part : (ℕ → Line) → Reader Line
part make = do
  i ← number formula_number
  return (make i)

unfoldable pub parts : (ℕ → ℕ → Line) → Reader Line
parts make = do
  i ← number formula_number
  j ← number formula_number
  return (make i j)

-- "`a,predicate,session` atom; `o` is 1; `t,i,j` ⊗; `w,i,j` &; `p,i,j` ⊕; `l,i,j` ⊸; `u,i,j` ⊃; `b,i` !;
-- `h,i,from,to` @; `s,principal,i` ⟨K⟩; `g,from,to,from,to` first window ⊇ second", each window with its break.
-- Document 02: "wordings `n,predicate,session,holder` and `q,i`, for every holder". The range of sessions is an
-- argument, since document 02 has widened it (`SheetsAsBefore` in Statements.antt).
unfoldable pub formula_line_with : Range → Reader Line
formula_line_with sessions = choose (
    ("a", do p ← number predicate; s ← number sessions; return (Line.atom p s)) ∷
    ("o", return Line.one) ∷
    ("t", parts Line.tensor) ∷
    ("w", parts Line.with) ∷
    ("p", parts Line.plus) ∷
    ("l", parts Line.lolli) ∷
    ("u", parts Line.implies) ∷
    ("b", part Line.bang) ∷
    ("h", do i ← number formula_number; w ← interval; return (Line.at i w)) ∷
    ("s", do k ← number principal; i ← number formula_number; return (Line.says k i)) ∷
    ("g", do v ← interval; w ← interval; return (Line.superset v w)) ∷
    ("n", do p ← number predicate; s ← number sessions; h ← number holder; return (Line.named p s h)) ∷
    ("q", part Line.for_every) ∷ [])

abbrev pub formula_line : Reader Line
formula_line = formula_line_with session

-- Step lines

unfoldable pub labelled : (ℕ → Step) → Reader Step
labelled make = do
  l ← number label
  return (make l)

unfoldable pub step_line : Reader Step
step_line = choose (
    ("ax", labelled Step.ax) ∷
    ("cp", labelled Step.cp) ∷
    ("tr", do s ← label_set; return (Step.tr s)) ∷
    ("tl", labelled Step.tl) ∷
    ("or", return Step.or) ∷
    ("ol", labelled Step.ol) ∷
    ("wr", return Step.wr) ∷
    ("w1", labelled Step.w1) ∷
    ("w2", labelled Step.w2) ∷
    ("p1", return Step.p1) ∷
    ("p2", return Step.p2) ∷
    ("pl", labelled Step.pl) ∷
    ("ll", do l ← number label; s ← label_set; j ← interval; return (Step.ll l s j)) ∷
    ("ul", do l ← number label; j ← interval; return (Step.ul l j)) ∷
    ("br", return Step.br) ∷
    ("bl", labelled Step.bl) ∷
    ("hr", return Step.hr) ∷
    ("hl", labelled Step.hl) ∷
    ("sr", return Step.sr) ∷
    ("af", return Step.af) ∷
    ("sl", labelled Step.sl) ∷
    ("gr", return Step.gr) ∷
    ("al", do l ← number label; h ← number named_holder; return (Step.al l h)) ∷ [])

-- `hold,serial`
unfoldable pub hold_line : Reader ℕ
hold_line = choose (("hold", number serial) ∷ [])

-- Requests

-- the first line: a whole request, or a booking's head, which says how many lines follow
pub data Head : Type 0 where
  alone : Request → Head
  booking : ℕ → ℕ → Interval → ℕ → ℕ → Head

-- `book,now,wording,from,to,first,last,holds,steps`
unfoldable pub book_line : Reader Head
book_line = do
  now ← number minute
  n ← number formula_number
  i ← interval
  h ← number holds
  k ← number steps
  return (booking now n i h k)

unfoldable pub first_line_with : Range → Reader Head
first_line_with sessions = choose (
    ("word", do l ← formula_line_with sessions; return (alone (word l))) ∷
    ("issue", do k ← kind; n ← number formula_number; i ← interval; return (alone (issue k n i))) ∷
    ("withdraw", do n ← number serial; return (alone (withdraw n))) ∷
    ("book", book_line) ∷
    ("tally", do s ← number sessions; m ← number minute; return (alone (tally s m))) ∷ [])

abbrev pub first_line : Reader Head
first_line = first_line_with session

-- "then that many lines `hold,serial`, then that many step lines"
unfoldable pub rest : Head → Reader Request
rest (alone r) = return r
rest (booking now n i h k) = do
  hs ← many h (line hold_line)
  ss ← many k (line step_line)
  return (book (record { now = now; formula = n; interval = i; holds = hs; steps = ss }))

unfoldable pub request_lines : Range → Reader Request
request_lines sessions = do
  h ← line (first_line_with sessions)
  rest h

unfoldable pub request_with : Range → List ℕ → Option Request
request_with sessions b = and_then (lines b) (whole (request_lines sessions))

-- the request that the bytes are, or none: refusal 2
abbrev pub request_of : List ℕ → Option Request
request_of = request_with session
