use Rattle.std.proofs.lemmas.Result.{err_from_is_err_and}
use Rattle.room.proofs.Following.{going_stop, going_more, going_end}
use Rattle.room.proofs.forecast.Forecast.follow_all.Goals as goal

pub returns-in_err-follow : goal.returns-in_err-follow
returns-in_err-follow g c =
    let p = err_from_is_err_and c.from_residual.result c.from_residual.ensures.1 in
    rw (p.1, p.2)
    (going_stop c.args.clock.delay c.args.clock.time c.args.self.now c.loop-i.i c.loop-i.self c.loop-i.invariant c.index-heads-i.result c.loop-i-test.true c.index-heads-i.is c.follow.result c.follow.new.self c.follow.ensures c.in_err-follow.field-0.0 c.in_err-follow.was)

pub loop-i-preserved : goal.loop-i-preserved
loop-i-preserved g c =
    going_more c.args.clock.delay c.args.clock.time c.args.self.now c.loop-i.i c.loop-i.self c.loop-i.invariant c.index-heads-i.result c.loop-i-test.true c.index-heads-i.is c.follow.result c.follow.new.self c.follow.ensures c.in_ok-follow.was

pub returns : goal.returns
returns g c = going_end c.args.clock.delay c.args.clock.time c.args.self.now c.loop-i.i c.loop-i.self c.loop-i.invariant c.loop-i-test.false
