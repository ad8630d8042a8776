use Rattle.std.proofs.Common.{◌≡◌, ◌≤◌, ◌++◌, length, take, drop}
use Rattle.mailing.specs.EmptyPlaces.{empties_from}
use Rattle.mailing.proofs.passes.note_empty_places.Given as goal

abbrev pub invariant-loop-i : goal.invariant-loop-i
invariant-loop-i g l =
    (l.count ≤ l.wanted) × (length l.places ≡ 64) × (take l.count l.places ++ empties_from l.i (drop l.i l.mail) ≡ empties_from 0 l.mail)
