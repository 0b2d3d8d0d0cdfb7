-- `serial` meets its contract: one read.
use native.Mathlib.Nat.{add-zero}
use Rattle.store_cells.specs.Layout.{cell, credential_at}
use borrow.Author.Rules.{rules}
use Rattle.store_cells.proofs.credentials.serial.Statement.{statement}
use Rattle.store_cells.proofs.credentials.serial.Tie as tie

returns : tie.Need-returns
unfolding credential_at cell
returns c = simp add-zero

pub serial_spec : {M : Type 1} → statement M
serial_spec =
    tie.close (tie.spec (λ c. search rules) (λ c. search rules) (λ c. search rules) (λ c. search rules) returns)
