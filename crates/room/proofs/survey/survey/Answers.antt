use Rattle.std.proofs.Common.{length, take, sym, refl, ◌∙◌, subst, arith}
use Rattle.std.proofs.lemmas.List.{take_all, length-take-le}
use Rattle.protocol.specs.Heads.{holds_of}
use Rattle.protocol.specs.Items.{is_due}
use Rattle.tables.specs.MailPlaces.{item_of, items_of}
use Rattle.tables.proofs.Searches.{place_here, place_past, place_none}
use Rattle.room.specs.Counting.{Foresees}
use Rattle.room.proofs.CountedItems.{none_counted, items_more, items_within}
use Rattle.room.proofs.survey.survey.Goals as goal

pub loop-i-init : goal.loop-i-init
loop-i-init g c = (refl, record { lent = refl; size = refl; counted = none_counted c.args.heads.now c.requires })

pub add_place-requires : goal.add_place-requires
add_place-requires g c =
    let so_far = take c.loop-i.i c.args.mail.now in
    let foreseen = c.loop-i.invariant.1 in
    omega (arith, foreseen.counted.all, foreseen.size, items_within so_far, length-take-le c.loop-i.i c.args.mail.now (omega arith))

pub loop-i-preserved : goal.loop-i-preserved
loop-i-preserved g c =
    let ps = c.args.mail.now in
    let i = c.loop-i.i in (
      place_past (λ p. holds_of (is_due c.args.clock.delay c.args.clock.time) (item_of p)) ps i c.index-mail-i.result c.loop-i-test.true c.index-mail-i.is c.if-is_due.ensures
          ∙ c.loop-i.invariant.0,
      subst (λ is. Foresees c.args.heads.now (length ps) is c.add_place.new.self) (sym (items_more ps i c.index-mail-i.result c.loop-i-test.true c.index-mail-i.is)) (c.add_place.ensures c.args.heads.now (length ps) (items_of (take i ps)) c.loop-i.invariant.1),
    )

pub returns-then-is_due : goal.returns-then-is_due
returns-then-is_due g c =
    sym c.loop-i.invariant.0
    ∙ place_here (λ p. holds_of (is_due c.args.clock.delay c.args.clock.time) (item_of p)) c.args.mail.now c.loop-i.i c.index-mail-i.result c.loop-i-test.true c.index-mail-i.is c.if-is_due.ensures

pub returns-after-loop-i : goal.returns-after-loop-i
returns-after-loop-i g c =
    let ps = c.args.mail.now in
    let i = c.loop-i.i in (
      sym c.loop-i.invariant.0 ∙ place_none (λ p. holds_of (is_due c.args.clock.delay c.args.clock.time) (item_of p)) ps i c.loop-i-test.false,
      subst (λ qs. Foresees c.args.heads.now (length ps) (items_of qs) c.loop-i.forecast) (take_all i ps c.loop-i-test.false) c.loop-i.invariant.1,
    )
