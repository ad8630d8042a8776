use Rattle.std.proofs.Common.{ap, ◌∙◌}
use Rattle.protocol.specs.Items.{goes_with}
use Rattle.tables.specs.MailPlaces.{items_of}
use Rattle.tables.specs.Passes.{cleared}
use Rattle.tables.proofs.Refilling.{clearing_all}
use Rattle.tables.proofs.Bags.{cleared_item, cleared_items}
use Rattle.mailing.proofs.passes.drop_mail_with.Goals as goal

pub returns : goal.returns
returns g c =
    let t = goes_with c.args.name in
    ap items_of (clearing_all (cleared t) c.args.mail.now c.loop-p.mail c.loop-p.p-index c.loop-p.invariant c.loop-p-test.false) ∙ cleared_items (cleared t) t (cleared_item t) c.args.mail.now
