-- Texts by computation: whoever unfolds `rewritten` unfolds every definition of closing and opening, and those from the
-- bytes of a request to the answers.
use mathlib.Core.List.{List}
use Prim.Native.Nat.{ℕ}
use Rattle.request.specs.Write.{written, digits, joined, ended_lines, minutes, kind_field, line_fields}
use Rattle.ledger.specs.Ledger.{empty}
use Rattle.ledger.specs.Calls.{after}
use Rattle.ledger.proofs.Compute.{played}
use Rattle.snapshot.specs.Snapshot.{holder_line, edition_of, edition_fields, title_fields, credential_fields, texts_in}
use Rattle.snapshot.specs.Snapshot.{text, counts, edition, title_line, credential_line, body, saved_lines}
use Rattle.snapshot.specs.Snapshot.{saved_of, as_written, snapshot_of, rising, bad_lines, bad_credential, unruly}
use Rattle.snapshot.specs.Snapshot.{open_checks}
use Rattle.snapshot.specs.Reopen.{settle, reopen, close}

-- the text of the ledger that a text is opened as
unfoldable pub rewritten : List ℕ → List ℕ
unfolding played after written digits joined ended_lines minutes kind_field line_fields holder_line edition_of
    edition_fields
    title_fields credential_fields texts_in text counts edition title_line credential_line body saved_lines saved_of
    as_written snapshot_of
    rising bad_lines bad_credential unruly open_checks settle reopen close
rewritten b = text (reopen empty b).ledger
