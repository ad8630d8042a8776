use Rattle.std.proofs.Common.{◌≡◌, length, take, drop}
use Rattle.protocol.specs.Heads.{holds_of}
use Rattle.protocol.specs.Items.{is_due}
use Rattle.tables.specs.FirstPlaces.{place_from}
use Rattle.tables.specs.MailPlaces.{item_of, items_of}
use Rattle.room.specs.Counting.{Foresees, place_due}
use Rattle.room.proofs.survey.survey.Given as goal

abbrev pub invariant-loop-i : goal.invariant-loop-i
invariant-loop-i g l =
    (place_from (λ p. holds_of (is_due l.clock.delay l.clock.time) (item_of p)) l.i (drop l.i l.mail) ≡ place_due l.clock.delay l.clock.time l.mail)
    × Foresees l.heads (length l.mail) (items_of (take l.i l.mail)) l.forecast
