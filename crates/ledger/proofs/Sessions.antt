-- M1 to M9, and M1 for guests who are late, by computation.
use mathlib.Core.Path.{refl}
use Rattle.ledger.specs.Sessions.{Plays, AllPlay, SessionsPlay, LaterPlay}
use Rattle.ledger.proofs.Compute.{played}

pub sessions_play : SessionsPlay
unfolding played Plays AllPlay
sessions_play = (refl, (refl, (refl, (refl, (refl, (refl, (refl, (refl, (refl, tt)))))))))

pub later_play : LaterPlay
unfolding played Plays AllPlay
later_play = (refl, (refl, (refl, (refl, (refl, (refl, (refl, tt)))))))
