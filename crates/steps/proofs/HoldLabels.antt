-- Labels for the hypotheses that a booking holds, taken one after another: "Holds take labels 0, 1, .. in order."
use mathlib.Core.Path.{◌≡◌, sym, subst}
use mathlib.Core.List.{List, [], ◌∷◌, ◌++◌}
use Prim.Native.Nat.{ℕ, suc, ◌≤◌, ◌<◌}
use lib.ListN.{length}
use lib.Pow.{pow_pos}
use Rattle.logic.specs.Formula.{Formula}
use Rattle.logic.specs.Derives.{Hyp, Judgment}
use Rattle.logic.specs.Multiset.{Perm}
use Rattle.logic.proofs.Multisets.{perm_trans}
use Rattle.labels.specs.Labels.{insert}
use Rattle.labels.proofs.Permutations.{on}
use Rattle.steps.specs.declared.Row.{Row}
use Rattle.steps.specs.declared.Hypothesis.{Hypothesis}
use Rattle.steps.specs.Check.{max_labels}
use Rattle.steps.specs.Spells.{Labels}
use Rattle.steps.specs.Labelling.{Begins as BeginsWith}
use Rattle.steps.specs.Labelling.{hyps, Fits, labelled_by}
use Rattle.steps.specs.Unroll.{Unrolls, hyp_of}
use Rattle.steps.proofs.Labelling.{no_hyps, Known, known_up, kept, ext_snoc, known_snoc, fresh}
use Rattle.steps.proofs.LabelTables.{Table, shows_none, shows_put}

-- d with the new label of h stands for h besides
joined : (ls : Labels) (d n : ℕ) (h : Hyp) {D : List Hyp} → n ≡ length ls → Known ls d → length ls < max_labels
    → Perm D (hyps ls d)
    → Known (ls ++ (h ∷ [])) (insert d n) × Perm (h ∷ D) (hyps (ls ++ (h ∷ [])) (insert d n))
joined ls d n h e k room m = rw e (known_snoc ls h d k, perm_trans (on m) (fresh ls d h k room))

-- d stands for what it did
passed : (ls : Labels) (d : ℕ) (h : Hyp) {D : List Hyp} → Known ls d → Perm D (hyps ls d)
    → Known (ls ++ (h ∷ [])) d × Perm D (hyps (ls ++ (h ∷ [])) d)
passed ls d h {D} k m = (known_up d (ext_snoc ls h) k, subst (Perm D) (sym (kept d (ext_snoc ls h) k)) m)

module _ {row : ℕ → Row} {formula : ℕ → Formula} (u : Unrolls row formula) {T : Type 0} {held : T → ℕ → Hypothesis}
    {put : T → ℕ → Hypothesis → T} (table : Table held put) where
  abbrev pub Begins : T → ℕ → ℕ → ℕ → Labels → List Hyp → List Hyp → Type 0
  Begins = BeginsWith u table.Good held

  pub begins_fits : {t : T} {n r d : ℕ} {ls : Labels} {R D : List Hyp} → Begins t n r d ls R D → length ls ≤ max_labels
      → (g : Judgment) → Fits ls (labelled_by r d g)
  begins_fits b room g =
      record { unrestricted = b.unrestricted_known; linear = b.linear_known; room = room }

  -- the order of the hypotheses is free
  pub begins_same : {t : T} {n r d : ℕ} {ls : Labels} {R R' D D' : List Hyp} → Perm R' R → Perm D' D
      → Begins t n r d ls R D → Begins t n r d ls R' D'
  begins_same x y b = record {
    shows = b.shows;
    unrestricted_known = b.unrestricted_known;
    linear_known = b.linear_known;
    unrestricted = perm_trans x b.unrestricted;
    linear = perm_trans y b.linear;
  }

  pub begins_none : (t : T) → table.Good t → Begins t 0 0 0 [] [] []
  begins_none t good = record {
    shows = shows_none u table t good;
    unrestricted_known = pow_pos 0;
    linear_known = pow_pos 0;
    unrestricted = no_hyps [];
    linear = no_hyps [];
  }

  module _ {t : T} {n r d : ℕ} {ls : Labels} {R D : List Hyp} (h : Hypothesis) (b : Begins t n r d ls R D)
      (room : length ls < max_labels) where
    -- one linear hypothesis more, and one unrestricted
    pub add_linear : Begins (put t n h) (suc n) r (insert d n) (ls ++ (hyp_of u h ∷ [])) R (hyp_of u h ∷ D)
    add_linear =
        let x = passed ls r (hyp_of u h) b.unrestricted_known b.unrestricted in
        let y = joined ls d n (hyp_of u h) b.shows.next b.linear_known room b.linear in
        record {
          shows = shows_put u table t n ls h b.shows room;
          unrestricted_known = x.0;
          linear_known = y.0;
          unrestricted = x.1;
          linear = y.1;
        }

    pub add_unrestricted : Begins (put t n h) (suc n) (insert r n) d (ls ++ (hyp_of u h ∷ [])) (hyp_of u h ∷ R) D
    add_unrestricted =
        let x = joined ls r n (hyp_of u h) b.shows.next b.unrestricted_known room b.unrestricted in
        let y = passed ls d (hyp_of u h) b.linear_known b.linear in
        record {
          shows = shows_put u table t n ls h b.shows room;
          unrestricted_known = x.0;
          linear_known = y.0;
          unrestricted = x.1;
          linear = y.1;
        }
