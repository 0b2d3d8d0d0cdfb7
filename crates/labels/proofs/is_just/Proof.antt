-- `is_just` meets its contract.
use mathlib.Core.Path.{◌∙◌, ap}
use mathlib.Core.Bool.{Bool, ◌&&◌}
use lib.Dec.{eqb}
use lib.Count.{ones}
use borrow.Author.Rules.{rules}
use Rattle.labels.proofs.Single.{single}
use Rattle.labels.proofs.is_just.Statement.{statement}
use Rattle.labels.proofs.is_just.Tie as tie

returns : tie.Need-returns
returns c =
    let d = c.before.args.d in
    ap (λ (b : Bool). eqb (ones d) 1 && b) c.member.ensures ∙ single d c.before.args.k

pub is_just_spec : {M : Type 1} → statement M
is_just_spec = tie.close (tie.spec (λ c κs. search rules) returns)
