-- What is proved of the logic (in proofs/).
use Rattle.std.specs.Prelude.{◌≡◌, true, false, ◌&&◌, ◌↔◌, List, [], ◌∷◌, ℕ, ◌≤◌, leb, ℤ, pos, ◌+ℤ◌, ◌-ℤ◌}
use Rattle.logic.specs.declared.Interval.{Interval}
use Rattle.logic.specs.Interval.{span, ◌⊇◌, contains, has, same_interval, reversed, broken, WellFormed}
use Rattle.logic.specs.Formula.{Formula, seats, house_seats, plain, with_holder, unbound}
use Rattle.logic.specs.Weight.{weight, WellWeighed, BalancedFor, Balanced}
use Rattle.logic.specs.Multiset.{Every}
use Rattle.logic.specs.Derives.{Hyp, Judgment, holds, affirms, Derives, letters, taken}
use Rattle.logic.specs.Counts.{up, down, balanced}

-- the formula of a goal
abbrev pub subject : Judgment → Formula
subject (holds a i) = a
subject (affirms k a i) = a

-- the weights of hypotheses, added up
abbrev pub total : ℕ → List Hyp → ℤ
total s [] = pos 0
total s (h ∷ d) = weight s h.formula +ℤ total s d

-- Conservation, for a session left general: a derivation whose unrestricted hypotheses are balanced and whose linear
-- hypotheses and goal are well weighed has linear hypotheses whose weights add up to the goal's.
abbrev pub Conservation : Type 0
Conservation = (s : ℕ) (R D : List Hyp) (g : Judgment) → Derives R D g
    → Every (λ h. BalancedFor s h.formula) R
    → Every (λ h. WellWeighed s h.formula) D
    → WellWeighed s (subject g)
    → total s D ≡ weight s (subject g)

-- The same goal at an interval within its own, for each judgment.
pub data Narrows : Judgment → Judgment → Type 0 where
  at_holds : {a : Formula} {i j : Interval} → i ⊇ j → Narrows (holds a i) (holds a j)
  at_affirms : {k : ℕ} {a : Formula} {i j : Interval} → i ⊇ j → Narrows (affirms k a i) (affirms k a j)

-- A derivation of h by the rules of x: the same rules in the same order, so as many uses of them, with the same
-- intervals chosen at `ll` and `ul`; and as many labels taken.
abbrev pub ByRulesOf : {R D : List Hyp} {g : Judgment} → Derives R D g → Judgment → Type 0
ByRulesOf {R} {D} x h = (y : Derives R D h) × (letters y ≡ letters x) × (taken y ≡ taken x)

-- Theorem 3 (Subsumption) of the report (source document 000) for the rules of Derives.antt, both parts: 1 is
-- `at_holds`, "If .. A[I], then .. A[I']", 2 is `at_affirms`, "If .. (K affirms A) at I, then .. (K affirms A) at I'".
-- The report says nothing of the rules used or the labels taken. Of its rules that document 01 leaves out, using ∀ is
-- `al` (document 02, ask 7); proving ⊸ and ⊃ and using ⊇ wait for ask 13, where hypotheses I ⊇ J stand in a sequent
-- (the report's Ψ, its Lemmas 1 and 2); ⊤ and proving ∀ stay out.
abbrev pub Subsumption : Type 0
Subsumption = (R D : List Hyp) (g h : Judgment) → Narrows g h → (x : Derives R D g) → ByRulesOf x h

-- Plain formulas are well weighed.
abbrev pub PlainWeighed : Type 0
PlainWeighed = (s : ℕ) (a : Formula) → plain a ≡ true → WellWeighed s a

-- The test for balanced decides it for every session.
abbrev pub BalancedTest : Type 0
BalancedTest = (a : Formula) → (balanced a ≡ true) ↔ Balanced a

-- The signed weight is what is added less what is taken away.
abbrev pub WeightParts : Type 0
WeightParts = (s : ℕ) (a : Formula) → weight s a ≡ pos (up s a) -ℤ pos (down s a)

-- House seats are among the seats, so that those which are not open are the other ones.
abbrev pub HouseSeats : Type 0
HouseSeats = (s : ℕ) (a : Formula) → house_seats s a ≤ seats s a

-- The test for ⊇ decides it for any four numbers of both intervals.
abbrev pub ContainsTest : Type 0
ContainsTest = (i j : Interval) → (contains i j ≡ true) ↔ (i ⊇ j)

-- The tests of 3 and 43 stop an interval exactly if it is none.
abbrev pub FormedTest : Type 0
FormedTest = (i : Interval) → ((reversed i ≡ false) × (broken i ≡ false)) ↔ WellFormed i

-- The test for the same four numbers decides equality.
abbrev pub SameTest : Type 0
SameTest = (i j : Interval) → (same_interval i j ≡ true) ↔ (i ≡ j)

-- Each set of minutes has one spelling: intervals as requests may name them that have the same minutes are the same.
abbrev pub SameSet : Type 0
SameSet = (i j : Interval) → WellFormed i → WellFormed j → i ⊇ j → j ⊇ i → i ≡ j

-- Without a break, document 01's windows: "I ⊇ J: I.from ≤ J.from and J.to ≤ I.to", both ends of an interval are in it,
-- and 43 stops none.
pub record AsBefore : Type 0 where
  pub contains : (a b c d : ℕ) → c ≤ d → contains (span a b 0 0) (span c d 0 0) ≡ (leb a c && leb d b)
  pub has : (a b m : ℕ) → has (span a b 0 0) m ≡ (leb a m && leb m b)
  pub unbroken : (a b : ℕ) → broken (span a b 0 0) ≡ false

-- Holders: putting one in changes nothing where no holder 0 stands outside `q`, and putting in 0 changes nothing at
-- all; after a holder is put in none stands there; and the weights stay, for every session, with what is well weighed.
pub record HolderPutIn (h : ℕ) (a : Formula) : Type 0 where
  pub nowhere : unbound a ≡ false → with_holder h a ≡ a
  pub zero : with_holder 0 a ≡ a
  pub everywhere : 1 ≤ h → unbound (with_holder h a) ≡ false
  pub weights : (s : ℕ) → weight s (with_holder h a) ≡ weight s a
  pub weighed : (s : ℕ) → WellWeighed s a → WellWeighed s (with_holder h a)

abbrev pub Holders : Type 0
Holders = (h : ℕ) (a : Formula) → HolderPutIn h a
