use Rattle.std.proofs.Common.{◌+◌, map}
use Rattle.protocol.specs.Make.{originals}
use Rattle.tables.specs.HeadPlaces.{head_of, heads_of, lacking}
use Rattle.tables.proofs.Rewritten.{Rewriting}
use Rattle.heads.proofs.places.fill.Given as goal

abbrev pub invariant-loop-i : goal.invariant-loop-i
invariant-loop-i g l = Rewriting head_of (λ i hs. originals l.start (i + 1) (map lacking hs)) l.heads (originals l.start 1 (map lacking (heads_of l.initial.heads))) l.i
