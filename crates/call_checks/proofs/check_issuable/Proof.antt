-- `check_issuable` meets its contract.
use borrow.Author.Rules.{rules}
use Rattle.call_checks.proofs.Verdicts.{by_kind}
use Rattle.call_checks.proofs.check_issuable.Statement.{statement}
use Rattle.call_checks.proofs.check_issuable.Tie as tie

returns : tie.Need-returns-in-Linear
returns c = by_kind c.in-Linear.is _ c.check_plain.ensures

returns_2 : tie.Need-returns-in-Unrestricted
returns_2 c = by_kind c.in-Unrestricted.is _ c.check_balanced.ensures

pub check_issuable_spec : {M : Type 1} → statement M
check_issuable_spec =
    tie.close
    (tie.spec (λ c. search rules) (λ c κs. search rules) (λ c. search rules) (λ c κs. search rules) returns returns_2)
