-- The further sessions, by computation.
use mathlib.Core.Path.{refl}
use Rattle.request.specs.Write.{digits, written}
use Rattle.ledger.specs.Sessions.{times}
use Rattle.ledger.specs.Cases.{AnsweredFrom, AllAnswered, CasesPlay, many_bytes}
use Rattle.ledger.specs.FormulaCases.{FormulaCasesPlay, atoms_from}
use Rattle.ledger.specs.StepCases.{StepCasesPlay}
use Rattle.ledger.specs.PauseCases.{PauseCasesPlay}
use Rattle.ledger.specs.ConnectiveCases.{ConnectiveCasesPlay, refused_left, refused_left_affirmed, refused_right}
use Rattle.ledger.specs.ConnectiveCases.{refused_axiom, refused_standing, refused_affirmed}
use Rattle.ledger.specs.HolderCases.{HolderCasesPlay, proves_every, uses_every}
use Rattle.ledger.proofs.Compute.{played}

pub cases_play : CasesPlay
unfolding played AnsweredFrom AllAnswered many_bytes
cases_play = (refl, (refl, (refl, (refl, (refl, (refl, (refl, (refl, tt))))))))

pub formula_cases_play : FormulaCasesPlay
unfolding played AnsweredFrom AllAnswered digits written atoms_from
formula_cases_play = (refl, (refl, (refl, (refl, tt))))

pub step_cases_play : StepCasesPlay
unfolding played AnsweredFrom AllAnswered times
step_cases_play =
    (refl, (refl, (refl, (refl, (refl, (refl, (refl, (refl, (refl, (refl, (refl, (refl, (refl, (refl, tt))))))))))))))

pub pause_cases_play : PauseCasesPlay
unfolding played AnsweredFrom AllAnswered
pause_cases_play = (refl, (refl, (refl, tt)))

pub connective_cases_play : ConnectiveCasesPlay
unfolding played AnsweredFrom AllAnswered refused_left refused_left_affirmed refused_right refused_axiom
    refused_standing
    refused_affirmed
connective_cases_play = (refl, (refl, (refl, (refl, (refl, (refl, tt))))))

pub holder_cases_play : HolderCasesPlay
unfolding played AnsweredFrom AllAnswered times refused_left refused_left_affirmed proves_every uses_every
holder_cases_play = (refl, (refl, (refl, (refl, (refl, (refl, (refl, (refl, (refl, (refl, (refl, tt)))))))))))
