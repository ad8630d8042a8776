use Rattle.std.proofs.Common.{ap, ◌∙◌}
use Rattle.tables.specs.MailPlaces.{items_of}
use Rattle.tables.specs.Passes.{without_item}
use Rattle.tables.proofs.Refilling.{clearing_all}
use Rattle.tables.proofs.Bags.{no_items}
use Rattle.mailing.proofs.passes.take_out_all.Goals as goal

pub returns : goal.returns
returns g c = ap items_of (clearing_all without_item c.args.mail.now c.loop-p.mail c.loop-p.p-index c.loop-p.invariant c.loop-p-test.false) ∙ no_items c.args.mail.now
