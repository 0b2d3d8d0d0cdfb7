-- The writer: the one spelling of a request in the house form (Text.antt reads it).
use Rattle.std.specs.Prelude.{ℕ, zero, suc, ◌+◌, ◌/◌, ◌%◌, List, [], ◌∷◌, ◌++◌, map, true, false, ltb, length}
use Rattle.logic.specs.declared.Interval.{Interval}
use Rattle.request.specs.declared.Kind.{Kind}
use Rattle.request.specs.declared.Kind.TheVariants.{Linear, Unrestricted}
use Rattle.request.specs.Text.{bytes, hex_shift}
use Rattle.request.specs.Request.{Line, Step, Request, word, issue, withdraw, book, tally}

-- Texts

-- n in decimal digits, at most k + 1 of them
unfoldable pub written : ℕ → ℕ → List ℕ
written zero n = (48 + n) ∷ []
written (suc k) n = elim (ltb n 10) [ true ↦ (48 + n) ∷ [] | false ↦ written k (n / 10) ++ ((48 + n % 10) ∷ []) ]

-- n in decimal without leading zeros; n + 1 digits are always enough
unfoldable pub digits : ℕ → List ℕ
digits n = written n n

-- 0 to 9, a to f
unfoldable pub hex_byte : ℕ → ℕ
hex_byte d = elim (ltb d 10) [ true ↦ 48 + d | false ↦ hex_shift + d ]

-- s in k hexadecimal digits
unfoldable pub hex_written : ℕ → ℕ → List ℕ
hex_written zero s = []
hex_written (suc k) s = hex_written k (s / 16) ++ (hex_byte (s % 16) ∷ [])

-- a set of labels
unfoldable pub hex_digits : ℕ → List ℕ
hex_digits s = hex_written 16 s

-- fields parted by commas
unfoldable pub joined : List (List ℕ) → List ℕ
joined [] = []
joined (f ∷ []) = f
joined (f ∷ g ∷ gs) = f ++ (44 ∷ joined (g ∷ gs))

-- lines, each ended by byte 10
unfoldable pub ended_lines : List (List ℕ) → List ℕ
ended_lines [] = []
ended_lines (l ∷ ls) = l ++ (10 ∷ ended_lines ls)

-- Fields

-- `from,to,first,last`
unfoldable pub minutes : Interval → List (List ℕ)
minutes i = digits i.from ∷ digits i.to ∷ digits i.first ∷ digits i.last ∷ []

unfoldable pub kind_field : Kind → List ℕ
kind_field Linear = bytes "s"
kind_field Unrestricted = bytes "r"

-- the fields of a formula line
unfoldable pub line_fields : Line → List (List ℕ)
line_fields (Line.atom p s) = bytes "a" ∷ digits p ∷ digits s ∷ []
line_fields Line.one = bytes "o" ∷ []
line_fields (Line.tensor i j) = bytes "t" ∷ digits i ∷ digits j ∷ []
line_fields (Line.with i j) = bytes "w" ∷ digits i ∷ digits j ∷ []
line_fields (Line.plus i j) = bytes "p" ∷ digits i ∷ digits j ∷ []
line_fields (Line.lolli i j) = bytes "l" ∷ digits i ∷ digits j ∷ []
line_fields (Line.implies i j) = bytes "u" ∷ digits i ∷ digits j ∷ []
line_fields (Line.bang i) = bytes "b" ∷ digits i ∷ []
line_fields (Line.at i w) = bytes "h" ∷ digits i ∷ minutes w
line_fields (Line.says k i) = bytes "s" ∷ digits k ∷ digits i ∷ []
line_fields (Line.superset v w) = bytes "g" ∷ minutes v ++ minutes w
line_fields (Line.named p s h) = bytes "n" ∷ digits p ∷ digits s ∷ digits h ∷ []
line_fields (Line.for_every i) = bytes "q" ∷ digits i ∷ []

-- the fields of a step line
unfoldable pub step_fields : Step → List (List ℕ)
step_fields (Step.ax l) = bytes "ax" ∷ digits l ∷ []
step_fields (Step.cp l) = bytes "cp" ∷ digits l ∷ []
step_fields (Step.tr s) = bytes "tr" ∷ hex_digits s ∷ []
step_fields (Step.tl l) = bytes "tl" ∷ digits l ∷ []
step_fields Step.or = bytes "or" ∷ []
step_fields (Step.ol l) = bytes "ol" ∷ digits l ∷ []
step_fields Step.wr = bytes "wr" ∷ []
step_fields (Step.w1 l) = bytes "w1" ∷ digits l ∷ []
step_fields (Step.w2 l) = bytes "w2" ∷ digits l ∷ []
step_fields Step.p1 = bytes "p1" ∷ []
step_fields Step.p2 = bytes "p2" ∷ []
step_fields (Step.pl l) = bytes "pl" ∷ digits l ∷ []
step_fields (Step.ll l s j) = bytes "ll" ∷ digits l ∷ hex_digits s ∷ minutes j
step_fields (Step.ul l j) = bytes "ul" ∷ digits l ∷ minutes j
step_fields Step.br = bytes "br" ∷ []
step_fields (Step.bl l) = bytes "bl" ∷ digits l ∷ []
step_fields Step.hr = bytes "hr" ∷ []
step_fields (Step.hl l) = bytes "hl" ∷ digits l ∷ []
step_fields Step.sr = bytes "sr" ∷ []
step_fields Step.af = bytes "af" ∷ []
step_fields (Step.sl l) = bytes "sl" ∷ digits l ∷ []
step_fields Step.gr = bytes "gr" ∷ []
step_fields (Step.al l h) = bytes "al" ∷ digits l ∷ digits h ∷ []

-- `hold,serial`
unfoldable pub hold_fields : ℕ → List (List ℕ)
hold_fields n = bytes "hold" ∷ digits n ∷ []

-- `book,now,wording,from,to,first,last,holds,steps`
unfoldable pub book_fields : ℕ → ℕ → Interval → ℕ → ℕ → List (List ℕ)
book_fields now n i h k = bytes "book" ∷ digits now ∷ digits n ∷ minutes i ++ (digits h ∷ digits k ∷ [])

-- Requests

-- the fields of the first line
unfoldable pub head_fields : Request → List (List ℕ)
head_fields (word l) = bytes "word" ∷ line_fields l
head_fields (issue k n i) = bytes "issue" ∷ kind_field k ∷ digits n ∷ minutes i
head_fields (withdraw n) = bytes "withdraw" ∷ digits n ∷ []
head_fields (book b) = book_fields b.now b.formula b.interval (length b.holds) (length b.steps)
head_fields (tally s m) = bytes "tally" ∷ digits s ∷ digits m ∷ []

-- the lines that follow
unfoldable pub more_lines : Request → List (List ℕ)
more_lines (word l) = []
more_lines (issue k n i) = []
more_lines (withdraw n) = []
more_lines (book b) = map (λ n. joined (hold_fields n)) b.holds ++ map (λ s. joined (step_fields s)) b.steps
more_lines (tally s m) = []

unfoldable pub request_texts : Request → List (List ℕ)
request_texts r = joined (head_fields r) ∷ more_lines r

unfoldable pub write : Request → List ℕ
write r = ended_lines (request_texts r)
