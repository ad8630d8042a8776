use Rattle.std.proofs.Common.{sym, ap, ◌+◌, ◌∙◌, arith}
use Rattle.protocol.specs.Heads.{is_inquiring}
use Rattle.protocol.specs.Tick.{turned_by}
use Rattle.tables.specs.HeadPlaces.{head_of}
use Rattle.room.proofs.AmidHeads.{nobody_amid, turned_amid, waiting_amid}
use Rattle.room.proofs.forecast.Forecast.is_inquiring.Goals as goal

pub returns-in_default : goal.returns-in_default
returns-in_default g c = sym (nobody_amid c.args.clock.delay c.args.clock.time c.args.name c.args.self.now.heads.now (c.args.i + 1) (sym c.in_default.ensures.named))

pub returns-then-k-i : goal.returns-then-k-i
returns-then-k-i g c =
    let h = c.index-heads-k.result in
    c.inquires.ensures
    ∙ ap (λ k. is_inquiring k.state) (c.turned.ensures ∙ ap (λ t. turned_by c.args.clock.time t (head_of h)) c.turn_at.ensures)
    ∙ sym (turned_amid c.args.clock.delay c.args.clock.time c.args.name c.args.self.now.heads.now (c.args.i + 1) c.in-Some.k (sym c.in-Some.ensures.named) h c.index-heads-k.is (omega (arith, c.if-k-i.true)))

pub returns-else-k-i : goal.returns-else-k-i
returns-else-k-i g c =
    c.inquires-else-k-i.ensures
    ∙ sym (waiting_amid c.args.clock.delay c.args.clock.time c.args.name c.args.self.now.heads.now (c.args.i + 1) c.in-Some.k (sym c.in-Some.ensures.named) c.index-heads-k.result c.index-heads-k.is (omega (arith, c.if-k-i.false)))
