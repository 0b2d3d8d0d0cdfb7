-- What the ledgers that have a text keep: the ranges of the lines, and the rules that opening asks.
use Rattle.std.specs.Prelude.{◌≡◌, [], false, length}
use Rattle.logic.specs.Multiset.{Every}
use Rattle.request.specs.Range.{serial, next_serial, formula_number}
use Rattle.request.specs.InRange.{◌in_range◌, IntervalInRange, LineInRange}
use Rattle.ledger.specs.declared.Credential.{Credential}
use Rattle.ledger.specs.Ledger.{Ledger}
use Rattle.ledger.specs.Bounds.{Bounded}
use Rattle.ledger.specs.Statements.{Pass}
use Rattle.snapshot.specs.declared.Title.{Title}
use Rattle.snapshot.specs.Snapshot.{line_count, live_count, credential_rules, bad_lines}

pub record TitleInRange (h : Title) : Type 0 where
  pub next : h.next in_range next_serial
  pub lines : h.lines in_range line_count
  pub live : h.live in_range live_count

pub record CredentialInRange (c : Credential) : Type 0 where
  pub serial : c.serial in_range serial
  pub formula : c.formula in_range formula_number
  pub interval : IntervalInRange c.interval

-- every field of the text is in range
pub record InForm (t : Ledger) : Type 0 where
  pub next : t.next in_range next_serial
  pub line_count : length t.lines in_range line_count
  pub live_count : length t.live in_range live_count
  pub lines : Every LineInRange t.lines
  pub live : Every CredentialInRange t.live

-- what opening asks, and every call keeps: bounded, the fields in range, and no line and no credential breaks a rule
pub record Lawful (t : Ledger) : Type 0 where
  pub bounded : Bounded t
  pub lines : Every LineInRange t.lines
  pub live : Every CredentialInRange t.live
  pub ruled : bad_lines [] t.lines ≡ false
  pub obeys : Every (λ c. Pass (credential_rules t c)) t.live
