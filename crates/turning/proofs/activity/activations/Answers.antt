use Rattle.std.proofs.Common.{true, false, sym, ◌∙◌, arith}
use Rattle.tables.proofs.Counts.{activation_here, no_more_activations}
use Rattle.turning.proofs.activity.activations.Goals as goal
use Rattle.turning.proofs.activity.activations.Goals.{then-activates, else-activates}

pub loop-h-preserved : goal.loop-h-preserved
loop-h-preserved g c =
    let xs = c.args.heads.now in
    let i = c.loop-h.h-index in
    elim c.if-activates.branch [
      | then-activates w ↦ (
        omega (arith, w.count-is, c.loop-h.invariant.0),
        omega (arith, w.count-is, c.loop-h.invariant.1, activation_here xs i c.h-item.result c.loop-h-test.true c.h-item.is c.args.clock.delay c.args.clock.time true (sym w.if-activates.true ∙ c.activates.ensures)),
      )
      | else-activates w ↦ (
        omega (arith, w.count-is, c.loop-h.invariant.0),
        omega (arith, w.count-is, c.loop-h.invariant.1, activation_here xs i c.h-item.result c.loop-h-test.true c.h-item.is c.args.clock.delay c.args.clock.time false (sym w.if-activates.false ∙ c.activates.ensures)),
      )
    ]

pub returns : goal.returns
returns g c = omega (arith, c.loop-h.invariant.1, no_more_activations c.args.heads.now c.loop-h.h-index c.args.clock.delay c.args.clock.time c.loop-h-test.false)
