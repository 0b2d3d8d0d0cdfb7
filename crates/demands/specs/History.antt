-- The history of a list of calls, and what was issued and withdrawn, counted from it alone. "The history is the
-- accepted sheets of the list with their answers: .."
use Rattle.std.specs.Prelude.{List, true, false, ℕ, ◌+◌, eqb}
use Rattle.std.proofs.Math.Option.{Option, none, some}
use Rattle.logic.specs.Formula.{Formula, seats, places}
use Rattle.logic.specs.Multiset.{sum}
use Rattle.request.specs.declared.Kind.{Kind}
use Rattle.request.specs.declared.Kind.TheVariants.{Linear}
use Rattle.request.specs.Request.{Request, word, issue, withdraw, book, tally}
use Rattle.ledger.specs.declared.Credential.{Credential}
use Rattle.ledger.specs.declared.Answer.{Answer}
use Rattle.ledger.specs.declared.Answer.TheVariants.{Accepted, Counted, Refused}
use Rattle.ledger.specs.Table.{form}
use Rattle.ledger.specs.Ledger.{Ledger, formula, by_kind, find}
use Rattle.ledger.specs.Calls.{answers, traced}

-- an accepted request and its answer
pub record Event : Type 0 where
  pub request : Request
  pub answer : Answer

-- The latest first, upon the ledger that the calls began at: the empty one, or that of an opened text. Document 02:
-- "After opening, issued begins at what the opened singles hold, withdrawn at 0 and the history at that text"
infixr 5 ◌upon◌
pub data History : Type 0 where
  begun : Ledger → History
  ◌upon◌ : Event → History → History

-- A refused call leaves no event: "A sheet that fits no form stands in the list as a refused call."
abbrev pub note : Option Request → Answer → History → History
note none a h = h
note (some r) (Accepted n) h = record { request = r; answer = Accepted n } upon h
note (some r) (Counted x y z) h = record { request = r; answer = Counted x y z } upon h
note (some r) (Refused n k) h = h

-- of a list of calls from a ledger on
abbrev pub history_of : Ledger → List (List ℕ) → History
history_of t bs = traced note (begun t) bs (answers t bs)

-- what f tells of the numbers answered before, and x of this one
abbrev pub learn : {A : Type 0} → Answer → A → (ℕ → A) → ℕ → A
learn (Accepted k) x f n = elim (eqb n k) [ true ↦ x | false ↦ f n ]
learn (Counted o s p) x f n = f n
learn (Refused c k) x f n = f n

-- "wording n is the line that was answered n": its parts are those of the history before it; or it is the text's
abbrev pub formula_by : Request → Answer → (ℕ → Formula) → ℕ → Formula
formula_by (word l) a T = learn a (form T l) T
formula_by (issue k n i) a T = T
formula_by (withdraw n) a T = T
formula_by (book b) a T = T
formula_by (tally s m) a T = T

unfoldable pub formula_in : History → ℕ → Formula
formula_in (begun t) = formula t
formula_in (e upon h) = formula_by e.request e.answer (formula_in h)

-- "a serial's coupon is the one issued, or the goal booked, by the issue or booking that answered that serial"; or the
-- text's
pub record Given : Type 0 where
  pub kind : Kind
  pub formula : ℕ

abbrev pub given_by : Request → Answer → (ℕ → Option Given) → ℕ → Option Given
given_by (word l) a f = f
given_by (issue k n i) a f = learn a (some (record { kind = k; formula = n })) f
given_by (withdraw n) a f = f
given_by (book b) a f = learn a (some (record { kind = Linear; formula = b.formula })) f
given_by (tally s m) a f = f

abbrev pub given_of : Option Credential → Option Given
given_of none = none
given_of (some c) = some (record { kind = c.kind; formula = c.formula })

unfoldable pub given_in : History → ℕ → Option Given
given_in (begun t) = λ n. given_of (find t.live n)
given_in (e upon h) = given_by e.request e.answer (given_in h)

-- a formula's seats and places of a session
abbrev pub seats_and_places : ℕ → Formula → ℕ
seats_and_places s a = seats s a + places s a

-- "Issued counts, for a session, its seats and places in the wordings of accepted `issue,s`"
abbrev pub issued_by : ℕ → History → Request → ℕ
issued_by s h (word l) = 0
issued_by s h (issue k n i) = by_kind k (seats_and_places s (formula_in h n)) 0
issued_by s h (withdraw n) = 0
issued_by s h (book b) = 0
issued_by s h (tally x m) = 0

-- "what the opened singles hold"; the empty ledger has none
abbrev pub singles_hold : ℕ → Ledger → ℕ
singles_hold s t = sum (λ c. by_kind c.kind (seats_and_places s (formula t c.formula)) 0) t.live

unfoldable pub issued : ℕ → History → ℕ
issued s (begun t) = singles_hold s t
issued s (e upon h) = issued_by s h e.request + issued s h

-- "withdrawn counts, for each accepted withdraw, those of the single coupon that the history gave that serial, and
-- nothing for a standing one"
abbrev pub seats_and_places_of : ℕ → History → Option Given → ℕ
seats_and_places_of s h none = 0
seats_and_places_of s h (some g) = by_kind g.kind (seats_and_places s (formula_in h g.formula)) 0

abbrev pub withdrawn_by : ℕ → History → Request → ℕ
withdrawn_by s h (word l) = 0
withdrawn_by s h (issue k n i) = 0
withdrawn_by s h (withdraw n) = seats_and_places_of s h (given_in h n)
withdrawn_by s h (book b) = 0
withdrawn_by s h (tally x m) = 0

unfoldable pub withdrawn : ℕ → History → ℕ
withdrawn s (begun t) = 0
withdrawn s (e upon h) = withdrawn_by s h e.request + withdrawn s h
