use Rattle.std.proofs.Common.{sym, ◌∙◌}
use Rattle.tables.proofs.Counts.{inquiring_here, inquiring_past, nobody_inquiring}
use Rattle.turning.proofs.inquirers.is_inquiring.Goals as goal

pub returns-then-has_name : goal.returns-then-has_name
returns-then-has_name g c =
    c.inquires.ensures
    ∙ sym (sym c.loop-h.invariant
    ∙ inquiring_here c.args.heads.now c.loop-h.h-index c.h-item.result c.loop-h-test.true c.h-item.is c.args.name c.if-has_name.ensures)

pub loop-h-preserved : goal.loop-h-preserved
loop-h-preserved g c =
    inquiring_past c.args.heads.now c.loop-h.h-index c.h-item.result c.loop-h-test.true c.h-item.is c.args.name c.if-has_name.ensures
    ∙ c.loop-h.invariant

pub returns : goal.returns
returns g c = sym (sym c.loop-h.invariant ∙ nobody_inquiring c.args.heads.now c.loop-h.h-index c.args.name c.loop-h-test.false)
