-- The statements on the sheets of a stream.
use mathlib.Core.Path.{◌≡◌, refl, sym, ap, ◌∙◌}
use mathlib.Core.List.{List, [], ◌∷◌, ◌++◌, append_assoc, append-nil, map}
use mathlib.Core.Bool.{Bool, true, ◌&&◌}
use Prim.Native.Nat.{ℕ}
use lib.Dec.{eqb}
use lib.ListN.{take}
use borrow.Author.Tests.{eqb-true}
use Rattle.logic.specs.Multiset.{Every}
use Rattle.logic.proofs.Multisets.{every_snoc}
use Rattle.ledger.specs.declared.Answer.{Answer}
use Rattle.ledger.specs.Calls.{Reply, call, answers}
use Rattle.read_fields.proofs.Then.{by_test}
use Rattle.stream_sheets.specs.Sheets.{Split, start, next, split_from, one_more, empty_line, line_begins, most}
use Rattle.stream_sheets.specs.Statements.{Unparted, Sheet, with_empty_lines}
use Rattle.stream_sheets.specs.Statements.{ReadBack, AllParts, InPieces, RestSkipped}
use Rattle.logic.proofs.Tests.{left_true, right_true}
use Rattle.stream_sheets.proofs.EmptyLines.{begins_snoc, empty_snoc}
use Rattle.stream_sheets.proofs.Splits.{split_append, cut, kept, ended, run, closes}

pub in_pieces : InPieces
in_pieces b c = split_append start b c

pub rest_skipped : RestSkipped
unfolding answers
rest_skipped t [] = refl
rest_skipped t (b ∷ bs) =
    ap (λ (d : Reply). d.answer ∷ answers d.ledger (map (take most) bs)) (cut t b)
    ∙ ap (λ (more : List Answer). (call t b).answer ∷ more) (rest_skipped (call t b).ledger bs)

-- Sheets that are read back

all : (e ss : List (List ℕ)) (r : List ℕ) → Every Sheet ss → Unparted r
    → split_from (record { ended = e; begun = []; fresh = true }) (with_empty_lines ss ++ r)
    ≡ record { ended = e ++ ss; begun = r; fresh = line_begins true r }
unfolding with_empty_lines
all e [] r h u =
    run e [] true r u
    ∙ ap (λ (z : List (List ℕ)). record { ended = z; begun = r; fresh = line_begins true r }) (sym (append-nil e))
all e (s ∷ ss) r h u =
    ap (split_from _) (append_assoc s (10 ∷ with_empty_lines ss) r)
    ∙ closes e [] true s (with_empty_lines ss ++ r) h.0.unparted h.0.lines
    ∙ all (e ++ (s ∷ [])) ss r h.1 u
    ∙ ap (λ (z : List (List ℕ)). record { ended = z; begun = r; fresh = line_begins true r })
    (append_assoc e (s ∷ []) ss)

pub read_back : ReadBack
read_back ss r h u = ap (λ (z : Split). z.ended ++ one_more z.begun) (all [] ss r h u)

-- Every stream

lines_snoc : (ss : List (List ℕ)) (s : List ℕ)
    → with_empty_lines (ss ++ (s ∷ [])) ≡ with_empty_lines ss ++ (s ++ (10 ∷ []))
unfolding with_empty_lines
lines_snoc [] s = refl
lines_snoc (t ∷ ss) s =
    ap (λ (z : List ℕ). t ++ (10 ∷ z)) (lines_snoc ss s) ∙ sym (append_assoc t (10 ∷ with_empty_lines ss) _)

-- what has come of the bytes b
record Parted (s : Split) (b : List ℕ) : Type 0 where
  bytes : with_empty_lines s.ended ++ s.begun ≡ b
  sheets : Every Sheet s.ended
  rest : Unparted s.begun
  fresh : s.fresh ≡ line_begins true s.begun

parted_next : (s : Split) (b : List ℕ) (x : ℕ) → Parted s b → Parted (next s x) (b ++ (x ∷ []))
unfolding empty_line line_begins
parted_next s b x p = by_test (s.fresh && eqb x 10)
    (λ e. rw (ended s x e) (record {
      bytes =
          append-nil _ ∙ lines_snoc s.ended s.begun
          ∙ ap (λ (z : ℕ). with_empty_lines s.ended ++ (s.begun ++ (z ∷ [])))
          (sym (eqb-true x 10 (right_true s.fresh (eqb x 10) e)))
          ∙ sym (append_assoc (with_empty_lines s.ended) s.begun (x ∷ []))
          ∙ ap (λ (z : List ℕ). z ++ (x ∷ [])) p.bytes;
      sheets =
          every_snoc Sheet s.ended s.begun p.sheets
          (record { unparted = p.rest; lines = sym p.fresh ∙ left_true s.fresh (eqb x 10) e });
      rest = refl;
      fresh = refl;
    }))
    (λ e. rw (kept s x e) (record {
      bytes =
          sym (append_assoc (with_empty_lines s.ended) s.begun (x ∷ []))
          ∙ ap (λ (z : List ℕ). z ++ (x ∷ [])) p.bytes;
      sheets = p.sheets;
      rest = empty_snoc true s.begun x p.rest (ap (λ (z : Bool). z && eqb x 10) (sym p.fresh) ∙ e);
      fresh = sym (begins_snoc true s.begun x);
    }))

parted_from : (s : Split) (b c : List ℕ) → Parted s b → Parted (split_from s c) (b ++ c)
unfolding split_from
parted_from s b [] p = rw append-nil p
parted_from s b (x ∷ c) p = rw append_assoc at (parted_from (next s x) (b ++ (x ∷ [])) c (parted_next s b x p))

pub all_parts : AllParts
unfolding with_empty_lines empty_line line_begins
all_parts b =
    let p = parted_from start [] b (record { bytes = refl; sheets = tt; rest = refl; fresh = refl }) in
    record { bytes = p.bytes; sheets = p.sheets; rest = p.rest }
