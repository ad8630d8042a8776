use Rattle.std.proofs.Common.{◌+◌, get_or, sym, ◌∙◌}
use Rattle.std.proofs.lemmas.List.{get_or_default}
use Rattle.std.proofs.lemmas.Result.{err_from_is_err_and}
use Rattle.room.proofs.Following.{no_room_found}
use Rattle.room.proofs.Replying.{replying_past, replying_full, replying_more, replying_end}
use Rattle.room.proofs.forecast.Forecast.add_replies.Goals as goal
use Rattle.room.proofs.forecast.Forecast.add_replies.Goals.{then-is_inquiring+in_ok-check_room, else-is_inquiring}

pub returns-in_err-check_room : goal.returns-in_err-check_room
returns-in_err-check_room g c heads places is a cp foreseen =
    let to = c.args.to.now in
    let j = c.loop-x.x-index in
    let f = c.loop-x.self in
    let p = err_from_is_err_and c.from_residual.result c.from_residual.ensures.1 in
    let q = no_room_found (f.items + 1) f.places c.in_err-check_room.field-0.0 c.in_err-check_room.ensures in
    rw (p.1, p.2, sym q.1)
    (replying_full c.args.clock.delay c.args.clock.time (c.args.i + 1) to c.args.self.now j f c.loop-x.invariant (get_or to j 0) c.loop-x-test.true (get_or_default to j 0 (get_or to j 0) c.loop-x-test.true) (sym c.if-is_inquiring.ensures) q.0 heads places is a cp foreseen)

pub loop-x-preserved : goal.loop-x-preserved
loop-x-preserved g c =
    let to = c.args.to.now in
    let j = c.loop-x.x-index in
    let read = get_or_default to j 0 (get_or to j 0) c.loop-x-test.true in
    elim c.if-is_inquiring.branch [
      | then-is_inquiring+in_ok-check_room w ↦ rw w.self-is
          (replying_more c.args.clock.delay c.args.clock.time (c.args.i + 1) to c.args.self.now j c.loop-x.self c.loop-x.invariant (get_or to j 0) c.loop-x-test.true read (sym c.is_inquiring.ensures ∙ w.if-is_inquiring.true) w.add_reply.new.self w.add_reply.ensures)
      | else-is_inquiring w ↦ rw w.self-is
          (replying_past c.args.clock.delay c.args.clock.time (c.args.i + 1) to c.args.self.now j c.loop-x.self c.loop-x.invariant (get_or to j 0) c.loop-x-test.true read (sym c.is_inquiring.ensures ∙ w.if-is_inquiring.false))
    ]

pub returns : goal.returns
returns g c heads places is a cp foreseen =
    replying_end c.args.clock.delay c.args.clock.time (c.args.i + 1) c.args.to.now c.args.self.now c.loop-x.x-index c.loop-x.self c.loop-x.invariant heads places is a cp foreseen c.loop-x-test.false c.loop-x.self.within
