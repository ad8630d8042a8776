use Rattle.std.proofs.Common.{length}
use Rattle.tables.specs.MailPlaces.{items_of}
use Rattle.room.proofs.Refusals.{overdue, foretold}
use Rattle.room.proofs.tick.foresee.Goals as goal

pub returns-in_default : goal.returns-in_default
returns-in_default g c = overdue c.args.heads.now c.args.mail.now c.args.clock.delay c.args.clock.time c.if-heads-gt-MOST_HEADS.false c.if-clock-ge-LAST_TICK.false c.in_default.field-0 c.in_default.ensures

pub returns : goal.returns
returns g c =
    let hs = c.args.heads.now in
    let ms = c.args.mail.now in
    foretold hs ms c.args.clock.delay c.args.clock.time c.if-heads-gt-MOST_HEADS.false c.if-clock-ge-LAST_TICK.false c.in-Ok.ensures.0 c.follow_all.result (c.follow_all.ensures hs (length ms) (items_of ms) c.in-Ok.ensures.1)
