use Rattle.std.proofs.Common.{◌≡◌, drop}
use Rattle.protocol.specs.Heads.{is_named}
use Rattle.tables.specs.FirstPlaces.{place_from, place_of}
use Rattle.tables.specs.HeadPlaces.{head_of}
use Rattle.heads.proofs.searches.find.Given as goal

abbrev pub invariant-loop-i : goal.invariant-loop-i
invariant-loop-i g l =
    place_from (λ h. is_named l.name (head_of h)) l.i (drop l.i l.heads) ≡ place_of (λ h. is_named l.name (head_of h)) l.heads
