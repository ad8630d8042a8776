use Rattle.std.proofs.Common.{◌≡◌, ◌+◌, ◌≤◌, drop}
use Rattle.protocol.specs.Tick.{activations}
use Rattle.tables.specs.HeadPlaces.{heads_of}
use Rattle.turning.proofs.activity.activations.Given as goal

abbrev pub invariant-loop-h : goal.invariant-loop-h
invariant-loop-h g l =
    (l.count ≤ l.h-index)
    × (l.count + activations l.clock.delay l.clock.time (heads_of (drop l.h-index l.heads)) ≡ activations l.clock.delay l.clock.time (heads_of l.heads))
