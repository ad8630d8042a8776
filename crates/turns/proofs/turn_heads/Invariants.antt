use Rattle.std.proofs.Common.{◌≡◌, ◌≤◌, length}
use Rattle.tables.specs.HeadPlaces.{heads_of}
use Rattle.tables.specs.MailPlaces.{items_of}
use Rattle.turns.proofs.Going.{amid, Going}
use Rattle.turns.proofs.turn_heads.Given as goal

abbrev pub invariant-loop-i : goal.invariant-loop-i
invariant-loop-i g l =
    (heads_of l.heads ≡ amid l.clock.delay l.clock.time (heads_of l.initial.heads) l.i)
    × (length l.initial.heads ≤ 64 → Going l.clock.delay l.clock.time (heads_of l.initial.heads) (length l.initial.mail) (items_of l.initial.mail) l.i (items_of l.mail))
