-- The ledger's state as one list of numbers. The caller keeps one block of a fixed length and lends it to every call,
-- so nothing is copied and nothing is allocated. Formula rows and credential rows each have one width, so that one law
-- is enough for both.
--
--   0                  the count of formula lines
--   1                  the count of live credentials
--   2                  the next serial
--   3                  the count of credential rows in use
--   line_base ..        200 rows of 20: a formula line's (document 01: a wording's) letter, a, b, holder, its first
--                      interval and its second, each from, to, first, last; then its formula's size, whether it is
--                      plain, balanced, has an unbound holder and has a `q` (1 or 0), kept so that no later request
--                      goes through the formula's parts again; two numbers between which all sessions of its atoms are,
--                      so that a tally passes it by; and what the formula gives of the lower of these sessions, in one
--                      number
--   group_base ..       64 rows of 8: for each group of sessions a set of lines, in seven numbers, 32 lines to a
--                      number, bit j of number w for line 32 w + j; then a number whose bit w is set where number w is
--                      not 0.
--                      Session s is of group s mod 64, and every line between whose two numbers a session is stands in
--                      the set of that session's group: a tally looks at one set alone
--   credential_base ..  4,096 rows of 8: a credential's (a coupon's) serial, kind (0 linear: single-use, 1
--                      unrestricted: standing, 2 for one that has left: a gap), formula number (wording), and its
--                      interval (window), from, to, first, last; the eighth number is not used, and nothing is asked of
--                      it: a row is as wide as a power of 2, so that its place is a shift. Rows stand in the order of
--                      their serials, and a row that leaves is only marked, so that no other one moves; there are twice
--                      as many rows as may live, and when all are in use the live ones are moved together
--   hint_base ..        4,096 hints: at serial mod 4,096 the row where the credential of that serial may stand. A hint
--                      is only a guess that the search tests first: nothing is asked of its value
--   link_base ..        4,297 links, by which the rows of one formula are chained, gaps too: number 0 is not used; then
--                      one for each row, number i + 1 for row i; then one for each formula. A formula's link leads to
--                      its last row, a row's link to the row before it of the same formula; a link is the row's number
--                      and one, or 0 where there is none. So a link is itself the number of the link that comes next
use Rattle.std.specs.Prelude.{List, [], ◌∷◌, Bool, ℕ, ◌+◌, ◌*◌, ◌/◌, ◌%◌, eqb, ltb, get_or, set}
use Rattle.std.specs.Prelude.{Option as Maybe, Some, None}
use Rattle.std.proofs.Math.Option.{Option, none, some}
use Rattle.std.proofs.lemmas.List.Edits.{sets}
use Rattle.logic.specs.declared.Interval.{Interval}
use Rattle.logic.specs.Interval.{span}
use Rattle.logic.specs.Formula.{bit}
use Rattle.request.specs.declared.Kind.{Kind}
use Rattle.request.specs.declared.Kind.TheVariants.{Linear, Unrestricted}
use Rattle.request.specs.Request.{Line}
use Rattle.labels.specs.Labels.{insert}
use Rattle.steps.specs.declared.Row.{Row}
use Rattle.ledger.specs.declared.Credential.{Credential}
use Rattle.ledger.specs.Table.{row_of}
use Rattle.ledger.specs.Checks.{max_formulas, max_live}
use Rattle.logic.specs.Choice.{pick}
use Rattle.store_cells.specs.declared.head.Number.{Number}
use Rattle.store_cells.specs.declared.head.Number.TheVariants.{Lines, Live, Next, Rows}
use Rattle.store_cells.specs.declared.lines.Facts.{Facts}

-- Where each table starts, and how wide its rows are

abbrev pub line_base : ℕ
line_base = 4

-- in a row the line's own numbers stand before what is kept of its formula
abbrev pub size_cell : ℕ
size_cell = 12

abbrev pub plain_cell : ℕ
plain_cell = size_cell + 1

abbrev pub balanced_cell : ℕ
balanced_cell = plain_cell + 1

abbrev pub unbound_cell : ℕ
unbound_cell = balanced_cell + 1

abbrev pub quantified_cell : ℕ
quantified_cell = unbound_cell + 1

abbrev pub low_cell : ℕ
low_cell = quantified_cell + 1

abbrev pub high_cell : ℕ
high_cell = low_cell + 1

abbrev pub gives_cell : ℕ
gives_cell = high_cell + 1

abbrev pub line_width : ℕ
line_width = gives_cell + 1

abbrev pub group_base : ℕ
group_base = line_base + max_formulas * line_width

-- how many groups of sessions there are
abbrev pub groups : ℕ
groups = 64

-- how many lines a number of a set has room for, and how many numbers a set has
abbrev pub set_lines : ℕ
set_lines = 32

abbrev pub set_width : ℕ
set_width = 7

-- how wide a group's row is: after its set stands which of the set's numbers are not 0
abbrev pub group_width : ℕ
group_width = set_width + 1

abbrev pub credential_base : ℕ
credential_base = group_base + groups * group_width

-- how many numbers of a row are the credential's, and how wide the row is
abbrev pub credential_numbers : ℕ
credential_numbers = 7

abbrev pub credential_width : ℕ
credential_width = credential_numbers + 1

-- how many credential rows there are: twice as many as may live
abbrev pub max_rows : ℕ
max_rows = 2 * max_live

abbrev pub hint_base : ℕ
hint_base = credential_base + max_rows * credential_width

abbrev pub link_base : ℕ
link_base = hint_base + max_rows

-- the number of the link of row i, and of formula n
abbrev pub row_link : ℕ → ℕ
row_link i = i + 1

abbrev pub formula_link : ℕ → ℕ
formula_link n = row_link max_rows + n

-- how many links there are
abbrev pub links : ℕ
links = formula_link max_formulas

-- how many numbers there are
abbrev pub cells : ℕ
cells = link_base + links

-- the kind of a credential that has left
abbrev pub gap_kind : ℕ
gap_kind = 2

-- A table starts at b and its rows are w numbers wide: cell f of row i, and a row put in its place.
unfoldable pub cell : List ℕ → ℕ → ℕ → ℕ → ℕ → ℕ
cell l b w i f = get_or l (b + i * w + f) 0

unfoldable pub put_row : List ℕ → ℕ → ℕ → ℕ → List ℕ → List ℕ
put_row l b w i vs = sets l (b + i * w) vs

-- The counts and the next serial

abbrev pub head_place : Number → ℕ
head_place Lines = 0
head_place Live = 1
head_place Next = 2
head_place Rows = 3

abbrev pub head_at : List ℕ → Number → ℕ
head_at l n = get_or l (head_place n) 0

abbrev pub put_head : List ℕ → Number → ℕ → List ℕ
put_head l n v = set l (head_place n) v

abbrev pub line_count : List ℕ → ℕ
line_count l = get_or l 0 0

abbrev pub live_count : List ℕ → ℕ
live_count l = get_or l 1 0

abbrev pub next_serial : List ℕ → ℕ
next_serial l = get_or l 2 0

abbrev pub row_count : List ℕ → ℕ
row_count l = get_or l 3 0

abbrev pub put_line_count : List ℕ → ℕ → List ℕ
put_line_count l n = set l 0 n

abbrev pub put_live_count : List ℕ → ℕ → List ℕ
put_live_count l n = set l 1 n

abbrev pub put_next : List ℕ → ℕ → List ℕ
put_next l n = set l 2 n

abbrev pub put_row_count : List ℕ → ℕ → List ℕ
put_row_count l n = set l 3 n

-- Formula rows

unfoldable pub line_cell : List ℕ → ℕ → ℕ → ℕ
line_cell l i f = cell l line_base line_width i f

abbrev pub row_from : (ℕ → ℕ) → Row
row_from g = record {
  letter = g 0;
  a = g 1;
  b = g 2;
  holder = g 3;
  first = span (g 4) (g 5) (g 6) (g 7);
  second = span (g 8) (g 9) (g 10) (g 11);
}

-- the row of a formula's number; a number that names none reads as 1
unfoldable pub row_at : List ℕ → ℕ → Row
row_at l n =
    pick (ltb n max_formulas) (pick (ltb n (line_count l)) (row_from (line_cell l n)) (row_of Line.one))
    (row_of Line.one)

unfoldable pub size_at : List ℕ → ℕ → ℕ
size_at l n = line_cell l n size_cell

unfoldable pub plain_at : List ℕ → ℕ → ℕ
plain_at l n = line_cell l n plain_cell

unfoldable pub balanced_at : List ℕ → ℕ → ℕ
balanced_at l n = line_cell l n balanced_cell

unfoldable pub unbound_at : List ℕ → ℕ → ℕ
unbound_at l n = line_cell l n unbound_cell

unfoldable pub quantified_at : List ℕ → ℕ → ℕ
quantified_at l n = line_cell l n quantified_cell

unfoldable pub low_at : List ℕ → ℕ → ℕ
low_at l n = line_cell l n low_cell

unfoldable pub high_at : List ℕ → ℕ → ℕ
high_at l n = line_cell l n high_cell

unfoldable pub gives_at : List ℕ → ℕ → ℕ
gives_at l n = line_cell l n gives_cell

-- these eight, each bit read as 1 or not
abbrev pub facts_at : List ℕ → ℕ → Facts
facts_at l n = record {
  size = size_at l n;
  plain = eqb (plain_at l n) 1;
  balanced = eqb (balanced_at l n) 1;
  unbound = eqb (unbound_at l n) 1;
  quantified = eqb (quantified_at l n) 1;
  low = low_at l n;
  high = high_at l n;
  gives = gives_at l n;
}

abbrev pub line_cells : Row → Facts → List ℕ
line_cells r k =
    let v = r.first in
    let w = r.second in
    r.letter ∷ r.a ∷ r.b ∷ r.holder ∷ v.from ∷ v.to ∷ v.first ∷ v.last ∷ w.from ∷ w.to ∷ w.first ∷ w.last ∷
    k.size ∷ bit k.plain ∷ bit k.balanced ∷ bit k.unbound ∷ bit k.quantified ∷ k.low ∷ k.high ∷ k.gives ∷ []

unfoldable pub put_line : List ℕ → ℕ → Row → Facts → List ℕ
put_line l i r k = put_row l line_base line_width i (line_cells r k)

-- Groups of sessions

unfoldable pub group_at : List ℕ → ℕ → ℕ → ℕ
group_at l g w = cell l group_base group_width g w

abbrev pub filled_at : List ℕ → ℕ → ℕ
filled_at l g = group_at l g set_width

abbrev pub group_place : ℕ → ℕ → ℕ
group_place g w = group_base + g * group_width + w

-- line n joins the set of group g
unfoldable pub put_mark : List ℕ → ℕ → ℕ → List ℕ
put_mark l g n =
    set (set l (group_place g (n / set_lines)) (insert (group_at l g (n / set_lines)) (n % set_lines)))
    (group_place g set_width) (insert (filled_at l g) (n / set_lines))

-- Credential rows

abbrev pub kind_from : ℕ → Kind
kind_from n = pick (eqb n 0) Linear Unrestricted

abbrev pub kind_number : Kind → ℕ
kind_number Linear = 0
kind_number Unrestricted = 1

abbrev pub credential_from : (ℕ → ℕ) → Credential
credential_from g = record {
  serial = g 0;
  kind = kind_from (g 1);
  formula = g 2;
  interval = span (g 3) (g 4) (g 5) (g 6);
}

-- cell f of row i, and its place in the list
abbrev pub credential_cell : List ℕ → ℕ → ℕ → ℕ
credential_cell l i = cell l credential_base credential_width i

abbrev pub credential_place : ℕ → ℕ → ℕ
credential_place i f = credential_base + i * credential_width + f

unfoldable pub credential_at : List ℕ → ℕ → Credential
credential_at l i = credential_from (credential_cell l i)

-- whether the credential of row i has left
unfoldable pub gap_at : List ℕ → ℕ → Bool
gap_at l i = eqb (credential_cell l i 1) gap_kind

-- the credential that stands in row i, if it has not left
unfoldable pub entry_at : List ℕ → ℕ → Option Credential
entry_at l i = pick (gap_at l i) none (some (credential_at l i))

-- its kind
unfoldable pub kind_at : List ℕ → ℕ → Maybe Kind
kind_at l i = let n = credential_cell l i 1 in pick (eqb n gap_kind) None (Some (kind_from n))

abbrev pub credential_cells : Credential → List ℕ
credential_cells c =
    let i = c.interval in
    c.serial ∷ kind_number c.kind ∷ c.formula ∷ i.from ∷ i.to ∷ i.first ∷ i.last ∷ []

-- the credential of row i leaves
unfoldable pub put_gap : List ℕ → ℕ → List ℕ
put_gap l i = set l (credential_place i 1) gap_kind

-- Hints

-- the row where the credential of serial s may stand: a guess, of which nothing is known
unfoldable pub hint_at : List ℕ → ℕ → ℕ
hint_at l s = get_or l (hint_base + s % max_rows) 0

unfoldable pub put_hint : List ℕ → ℕ → ℕ → List ℕ
put_hint l s i = set l (hint_base + s % max_rows) i

-- Links

unfoldable pub link_at : List ℕ → ℕ → ℕ
link_at l k = get_or l (link_base + k) 0

unfoldable pub put_link : List ℕ → ℕ → ℕ → List ℕ
put_link l k v = set l (link_base + k) v

-- the formula of row i
abbrev pub of_at : List ℕ → ℕ → ℕ
of_at l i = (credential_at l i).formula

-- a credential is put in row i, and the row before the chain of its formula
unfoldable pub put_credential : List ℕ → ℕ → Credential → List ℕ
put_credential l i c =
    let k = formula_link c.formula in
    put_row (put_link (put_link l (row_link i) (link_at l k)) k (row_link i)) credential_base credential_width i
    (credential_cells c)
