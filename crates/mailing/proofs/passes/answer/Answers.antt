use Rattle.std.specs.Slice.Iter.{iter_rest}
use Rattle.protocol.specs.Items.{is_reply_to}
use Rattle.tables.specs.Passes.{cleared}
use Rattle.tables.proofs.Refilling.{refilling_all}
use Rattle.tables.proofs.Bags.{cleared_item, refilled_bag, left_as}
use Rattle.mailing.proofs.passes.answer.Goals as goal

pub returns : goal.returns
returns g c =
    let t = is_reply_to c.args.name in
    let xs = c.args.mail.now in
    let names = c.args.names.now in
    left_as (refilling_all (cleared t) c.args.item names xs c.loop-place.mail (iter_rest c.loop-place.left) c.loop-place.place-index c.loop-place.invariant c.loop-place-test.false)
    (refilled_bag (cleared t) t (cleared_item t) c.args.item xs names)
