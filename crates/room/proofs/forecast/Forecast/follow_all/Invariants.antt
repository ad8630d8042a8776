use Rattle.room.proofs.Following.{Going}
use Rattle.room.proofs.forecast.Forecast.follow_all.Given as goal

abbrev pub invariant-loop-i : goal.invariant-loop-i
invariant-loop-i g l = Going l.clock.delay l.clock.time l.initial.self l.i l.self
