-- `put_letter` meets its contract.
use native.Mathlib.Omega.{arith}
use borrow.Author.Rules.{rules}
use Rattle.request.specs.Write.{joined}
use Rattle.text_write.specs.Put.{ended}
use Rattle.text_write.proofs.Puts.{wrote_byte, wrote_more}
use Rattle.text_write.proofs.put_letter.Statement.{statement}
use Rattle.text_write.proofs.put_letter.Tie as tie

pub put_letter_spec : {M : Type 1} → statement M
unfolding ended joined
put_letter_spec =
    tie.close
    (tie.spec
    (λ c. search rules)
    (λ c. search rules)
    (λ c. search rules)
    (λ c. wrote_more _ c.requires (wrote_byte _ _ (omega (arith, c.requires)))))
