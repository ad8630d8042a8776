use Rattle.std.proofs.Common.{◌+◌}
use Rattle.room.proofs.Replying.{Replying}
use Rattle.room.proofs.forecast.Forecast.add_replies.Given as goal

abbrev pub invariant-loop-x : goal.invariant-loop-x
invariant-loop-x g l = Replying l.clock.delay l.clock.time (l.i + 1) l.to l.initial.self l.x-index l.self
