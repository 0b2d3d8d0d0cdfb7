-- What is proved of the sheets of a stream (in proofs/Parting.antt).
use Rattle.std.specs.Prelude.{◌≡◌, List, [], ◌∷◌, ◌++◌, map, true, false, ℕ, take}
use Rattle.logic.specs.Multiset.{Every}
use Rattle.ledger.specs.Ledger.{Ledger}
use Rattle.ledger.specs.Calls.{answers}
use Rattle.stream_sheets.specs.Sheets.{split_from, split, one_more, sheets_of, empty_line, line_begins, most}

-- bytes without an empty line, and those of them that an empty line can follow
abbrev pub Unparted : List ℕ → Type 0
Unparted s = empty_line true s ≡ false

pub record Sheet (s : List ℕ) : Type 0 where
  pub unparted : Unparted s
  pub lines : line_begins true s ≡ true

-- sheets, each with an empty line after it
unfoldable pub with_empty_lines : List (List ℕ) → List ℕ
with_empty_lines [] = []
with_empty_lines (s ∷ ss) = s ++ (10 ∷ with_empty_lines ss)

-- "sheets parted by an empty line": sheets with an empty line after each, and bytes without one, are read as just these
abbrev pub ReadBack : Type 0
ReadBack =
    (ss : List (List ℕ)) (r : List ℕ) → Every Sheet ss → Unparted r
    → sheets_of (with_empty_lines ss ++ r) ≡ ss ++ one_more r

-- and every stream is of that form
pub record Parts (b : List ℕ) : Type 0 where
  pub bytes : with_empty_lines (split b).ended ++ (split b).begun ≡ b
  pub sheets : Every Sheet (split b).ended
  pub rest : Unparted (split b).begun

abbrev pub AllParts : Type 0
AllParts = (b : List ℕ) → Parts b

-- in which pieces a stream comes makes no difference
abbrev pub InPieces : Type 0
InPieces = (b c : List ℕ) → split (b ++ c) ≡ split_from (split b) c

-- "It skips an overlong sheet's rest": the first 16,385 bytes of each sheet get the answers of the whole
abbrev pub RestSkipped : Type 0
RestSkipped = (t : Ledger) (bs : List (List ℕ)) → answers t (map (take most) bs) ≡ answers t bs
