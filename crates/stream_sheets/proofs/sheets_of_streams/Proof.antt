-- `sheets_of_streams` meets its contract.
use Rattle.stream_sheets.proofs.Parting.{read_back, all_parts, in_pieces, rest_skipped}
use Rattle.stream_sheets.proofs.sheets_of_streams.Statement.{statement}
use Rattle.stream_sheets.proofs.sheets_of_streams.Tie as tie

pub sheets_of_streams_spec : {M : Type 1} → statement M
sheets_of_streams_spec = tie.close (tie.spec (λ c. (read_back, (all_parts, (in_pieces, rest_skipped)))))
