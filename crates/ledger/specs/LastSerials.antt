-- Sessions at the last serials: "serial 999,999 was given" (23), alone and with 2,048 live (22). They begin at ledgers
-- that nobody would reach by hand, and calls give these: `IdleGiven`, `CrowdGiven`.
use Rattle.std.specs.Prelude.{◌≡◌, List, [], ◌∷◌, ℕ, zero, suc, ◌+◌, ◌≤◌}
use Rattle.logic.specs.Interval.{span}
use Rattle.request.specs.declared.Kind.{Kind}
use Rattle.request.specs.declared.Kind.TheVariants.{Linear, Unrestricted}
use Rattle.request.specs.Range.{serial}
use Rattle.request.specs.Request.{Line}
use Rattle.ledger.specs.declared.Credential.{Credential}
use Rattle.ledger.specs.Ledger.{Ledger, empty}
use Rattle.ledger.specs.Calls.{Told, after}
use Rattle.ledger.specs.Cases.{Turn, ◌⇒◌, ◌⇛◌, accepted, refused, AnsweredFrom}

-- one free atom, no live credential, n the next serial
abbrev pub idle : ℕ → Ledger
idle n = record { lines = Line.atom 9 7 ∷ []; live = []; next = n }

-- "A till is what calls give": for every serial there are calls after which it comes next
abbrev pub IdleGiven : Type 0
IdleGiven = (n : ℕ) → n ≤ serial.last → (calls : List (List ℕ)) × (after empty calls ≡ idle (n + 1))

-- Serial 999,999 is given, and none after it, also when it is no longer live.
abbrev pub last : List Turn
last =
    ("issue,s,0,0,9,0,0\n" ⇒ accepted 999999) ∷
    ("issue,s,0,0,9,0,0\n" ⇒ refused 23) ∷
    ("issue,r,0,0,9,0,0\n" ⇒ refused 23) ∷
    (("book,5,0,0,9,0,0,1,1" ∷ "hold,999999" ∷ "ax,0" ∷ []) ⇛ refused 23) ∷
    ("withdraw,999999\n" ⇒ accepted 999999) ∷
    ("issue,s,0,0,9,0,0\n" ⇒ refused 23) ∷ []

-- of that atom a credential, and n linear ones from serial k on
abbrev pub coupon : Kind → ℕ → Credential
coupon k n = record { serial = n; kind = k; formula = 0; interval = span 0 9 0 0 }

unfoldable pub crowd : ℕ → ℕ → List Credential
crowd zero k = []
crowd (suc n) k = coupon Linear k ∷ crowd n (k + 1)

-- 2,048 are live, the first of them standing, and no serial is left
abbrev pub crowded : Ledger
crowded = record {
  lines = Line.atom 9 7 ∷ [];
  live = coupon Unrestricted 997952 ∷ crowd 2047 997953;
  next = 1000000;
}

abbrev pub CrowdGiven : Type 0
CrowdGiven = (calls : List (List ℕ)) × (after empty calls ≡ crowded)

-- There: 10, 20, 21 and 40 before 22, "live, less singles held", 22 before 23.
abbrev pub full : List Turn
full =
    ("issue,s,0,0,9,0,0\n" ⇒ refused 22) ∷
    ("word,o\n" ⇒ accepted 1) ∷
    ("word,a,1,7\n" ⇒ accepted 2) ∷
    ("issue,s,1,0,9,0,0\n" ⇒ refused 20) ∷
    ("issue,r,2,0,9,0,0\n" ⇒ refused 21) ∷
    ("issue,s,3,0,9,0,0\n" ⇒ refused 10) ∷
    (("book,5,0,0,9,0,0,1,1" ∷ "hold,997952" ∷ "ax,0" ∷ []) ⇛ Told.no 40 1) ∷
    (("book,5,0,0,9,0,0,1,2" ∷ "hold,997952" ∷ "cp,0" ∷ "ax,1" ∷ []) ⇛ refused 22) ∷
    (("book,5,0,0,9,0,0,1,1" ∷ "hold,997953" ∷ "ax,0" ∷ []) ⇛ refused 23) ∷
    ("withdraw,997953\n" ⇒ accepted 997953) ∷
    ("issue,s,0,0,9,0,0\n" ⇒ refused 23) ∷ []

abbrev pub LastSerialsPlay : Type 0
LastSerialsPlay = AnsweredFrom (idle 999999) last × AnsweredFrom crowded full
