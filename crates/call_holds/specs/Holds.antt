-- The holds of a booking: what the code's answers say of them, by the definitions of crate ledger.
use Rattle.std.specs.Prelude.{◌≡◌, List, [], ◌∷◌, map, false, ℕ, Option as Answered, Some, None}
use Rattle.std.proofs.Math.Option.{none, some}
use Rattle.request.specs.declared.Kind.TheVariants.{Linear, Unrestricted}
use Rattle.steps.specs.declared.Hypothesis.{Hypothesis}
use Rattle.steps.specs.Check.{puts}
use Rattle.ledger.specs.declared.Credential.{Credential}
use Rattle.ledger.specs.Ledger.{Ledger, held, linear_count, spend}
use Rattle.ledger.specs.Checks.{Check, ◌if◌, any_of, dead, twice, hypothesis, labels_of}
use Rattle.store.specs.Store.{ledger_of, Good}
use Rattle.step_rows.specs.LabelRows.{put_label}
use Rattle.call_holds.specs.declared.Sides.{Sides}

-- the live credentials once the hold of a serial is spent
abbrev pub spent : List Credential → ℕ → List Credential
spent cs n = spend cs (held cs (n ∷ []))

-- the serials ns are all live, and their credentials have taken labels 0, 1, .. in order in the table
pub record AllHeld (t : Ledger) (ns : List ℕ) (table : List Hypothesis) (s : Sides) (table' : List Hypothesis)
    : Type 0 where
  pub alive : any_of (dead t) ns ≡ false
  pub unrestricted : labels_of Unrestricted 0 (held t.live ns) 0 ≡ s.unrestricted
  pub linear : labels_of Linear 0 (held t.live ns) 0 ≡ s.linear
  pub linears : linear_count (held t.live ns) ≡ s.linears
  pub shown : puts put_label table 0 (map hypothesis (held t.live ns)) ≡ table'

-- what the answer says of the check 24, "serial not live"
abbrev pub held_check : Answered Sides → Check
held_check None = some (record { number = 24; step = 0 })
held_check (Some s) = none

pub record HeldIs (t : Ledger) (ns : List ℕ) (table : List Hypothesis) (r : Answered Sides) (table' : List Hypothesis)
    : Type 0 where
  pub check : held_check r ≡ (24 if any_of (dead t) ns)
  pub held : (s : Sides) → r ≡ Some s → AllHeld t ns table s table'

-- what the checks 24 and 31 have found before the holds are spent
pub record Spendable (l ns : List ℕ) : Type 0 where
  pub good : Good l
  pub alive : any_of (dead (ledger_of l)) ns ≡ false
  pub apart : twice ns ≡ false
