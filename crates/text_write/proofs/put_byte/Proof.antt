-- `put_byte` meets its contract.
use borrow.Author.Rules.{rules}
use Rattle.text_write.proofs.Puts.{wrote_byte}
use Rattle.text_write.proofs.put_byte.Statement.{statement}
use Rattle.text_write.proofs.put_byte.Tie as tie

pub put_byte_spec : {M : Type 1} → statement M
put_byte_spec = tie.close (tie.spec (λ c. search rules) (λ c. search rules) (λ c. wrote_byte _ _ c.requires))
