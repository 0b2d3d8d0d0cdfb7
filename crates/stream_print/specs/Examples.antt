-- Lines that are printed, byte by byte: a refusal with its step, an answer of one number and one of three.
use Rattle.std.specs.Prelude.{◌≡◌, [], ◌∷◌}
use Rattle.request.specs.Text.{bytes}
use Rattle.ledger.specs.Calls.{ok, no}
use Rattle.stream_print.specs.Printed.{line}

pub record LineExamples : Type 0 where
  pub refused : line (no 40 5) ≡ bytes "no,40,5\n"
  pub without_step : line (no 2 0) ≡ bytes "no,2,0\n"
  pub serial : line (ok (999999 ∷ [])) ≡ bytes "ok,999999\n"
  pub tallied : line (ok (1 ∷ 20 ∷ 0 ∷ [])) ≡ bytes "ok,1,20,0\n"
