use Rattle.std.proofs.Common.{◌≡◌, drop}
use Rattle.protocol.specs.Heads.{inquiring_named}
use Rattle.tables.specs.HeadPlaces.{heads_of}
use Rattle.turning.proofs.inquirers.is_inquiring.Given as goal

abbrev pub invariant-loop-h : goal.invariant-loop-h
invariant-loop-h g l = inquiring_named l.name (heads_of (drop l.h-index l.heads)) ≡ inquiring_named l.name (heads_of l.heads)
