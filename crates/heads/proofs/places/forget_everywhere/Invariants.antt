use Rattle.std.proofs.Common.{map}
use Rattle.protocol.specs.Heads.{forgetting}
use Rattle.tables.specs.HeadPlaces.{head_of, heads_of}
use Rattle.tables.proofs.Rewritten.{Rewriting}
use Rattle.heads.proofs.places.forget_everywhere.Given as goal

abbrev pub invariant-loop-h : goal.invariant-loop-h
invariant-loop-h g l = Rewriting head_of (λ _. map (forgetting l.name)) l.heads (map (forgetting l.name) (heads_of l.initial.heads)) l.h-index
