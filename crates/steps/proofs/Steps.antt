-- The step checker and derivations: lines pass exactly if they spell a derivation, and are refused exactly where they
-- are stopped; lines that spell a derivation give one; every derivation within the limits has such lines.
use mathlib.Core.Path.{subst, ◌∙◌}
use mathlib.Core.List.{List, [], append-nil}
use Prim.Native.Nat.{ℕ}
use native.Mathlib.Omega.{arith}
use lib.ListN.{length}
use Rattle.logic.specs.Derives.{Derives, letters, taken}
use Rattle.logic.proofs.Multisets.{perm_sym}
use Rattle.request.specs.Request.{Step}
use Rattle.labels.proofs.Permutations.{perm_in}
use Rattle.steps.specs.declared.Hypothesis.{Hypothesis}
use Rattle.steps.specs.Check.{premise_of, check_of}
use Rattle.steps.specs.Spells.{Spells}
use Rattle.steps.specs.Labelling.{Fits, labelled_by}
use Rattle.steps.specs.Statements.{Spelt, Complete, Exactly, asked, Sound, Passing}
use Rattle.steps.specs.Unroll.{goal_of, labelled_of}
use Rattle.steps.proofs.Sound.{derived}
use Rattle.steps.proofs.Complete.{spelled}
use Rattle.steps.proofs.Runs.{closed}
use Rattle.steps.proofs.LabelTables.{Table}
use Rattle.steps.proofs.Checker.{exact}
use Rattle.steps.proofs.Finish.{passed_spells, spells_passed, stopped_refused, refused_stopped}
use Rattle.steps.proofs.HoldLabels.{begins_fits}

pub spelt : Spelt
spelt ss ls after q s fits w =
    let d = derived s fits w in
    (d.derivation, d.lines ∙ append-nil (letters d.derivation), omega (arith, d.labels, d.room), d.minutes)

pub complete : Complete
complete ls r d known-r known-d R D g x mn sub m room =
    let fits : Fits ls (labelled_by r d g) = record { unrestricted = known-r; linear = known-d; room = omega arith } in
    let c = spelled x mn ls r d fits sub m room in
    (c.steps, c.letters, c.writable, c.after, c.spells)

module _ {T : Type 0} {held : T → ℕ → Hypothesis} {put : T → ℕ → Hypothesis → T} (table : Table held put) where
  pub exactly : Exactly table.Good held put
  unfolding check_of
  exactly row formula u t next ls q shows fits ss =
      let m = exact u table (length ss) (length ss) ss t next ls q shows fits (omega arith) in
      let outcome = premise_of row held put (length ss) (length ss) ss t next q in
      record {
        passes = (
          λ p. passed_spells u table (length ss) outcome m.end m.shown m.ends p.2,
          λ s. spells_passed u table (length ss) outcome (m.only (closed [] s.0) s.1),
        );
        refused = λ c k. (
          λ p. stopped_refused u table (length ss) outcome m.end m.shown m.ends p,
          refused_stopped u table (length ss) outcome m.only,
        );
      }

  pub sound : Sound table.Good held put
  unfolding letters taken
  sound row formula u t n r d ls R D begins room g ss writable p =
      let q = asked r d g in
      let fits = begins_fits u table begins room (goal_of u g) in
      let s = (exactly row formula u t n ls q begins.shows fits ss).passes.0 p in
      let w = spelt ss ls s.0 (labelled_of u q) s.1 fits writable in
      (Derives.same (perm_sym begins.unrestricted) (perm_sym begins.linear) w.0, w.1, w.2, w.3)

  pub passing : Passing table.Good held put
  passing row formula u t n r d ls R D begins g x mn room =
      let q = asked r d g in
      let fits = begins_fits u table begins (omega arith) (goal_of u g) in
      let c = complete ls r d begins.unrestricted_known begins.linear_known R D (goal_of u g) x mn
      (perm_in begins.unrestricted) begins.linear room in
      let s = subst (λ (l : List Step). Spells l ls (labelled_of u q) [] c.3) (append-nil c.0) (c.4 []) in
      (c.0, c.1, c.2, (exactly row formula u t n ls q begins.shows fits c.0).passes.1 (c.3, s))
