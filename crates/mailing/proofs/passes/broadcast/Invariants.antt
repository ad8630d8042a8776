use Rattle.std.proofs.Common.{◌≡◌, length, take, drop}
use Rattle.mailing.specs.EmptyPlaces.{placed}
use Rattle.mailing.proofs.passes.broadcast.Given as goal

abbrev pub invariant-loop-k : goal.invariant-loop-k
invariant-loop-k g l =
    placed l.item (drop l.k (take (length l.names) l.places)) (drop l.k l.names) l.mail
    ≡ placed l.item (take (length l.names) l.places) l.names l.initial.mail
