use Rattle.std.proofs.Common.{◌+◌, ◌<◌, ◌++◌, length, take, drop, sym, ap, ◌∙◌, ap₂, arith}
use Rattle.std.proofs.lemmas.List.{length-set}
use Rattle.mailing.specs.EmptyPlaces.{empties_from}
use Rattle.mailing.proofs.EmptyPlaces.{noted, not_noted, noted_enough, noted_all}
use Rattle.mailing.proofs.passes.note_empty_places.Goals as goal
use Rattle.mailing.proofs.passes.note_empty_places.Goals.{then-is_empty, else-is_empty}

pub loop-i-preserved : goal.loop-i-preserved
loop-i-preserved g c =
    let ps = c.args.mail.now in
    let xs = c.loop-i.places in
    let k = c.loop-i.count in
    let i = c.loop-i.i in
    let p = c.index-mail-i.result in
    let es = empties_from (i + 1) (drop (i + 1) ps) in
    let long = c.loop-i.invariant.1 in
    let h : k < length xs = omega arith in
    elim c.if-is_empty.branch [
      | then-is_empty w ↦ (
        omega (arith, w.count-is),
        ap length w.places-is ∙ length-set xs k i ∙ long,
        ap₂ (λ n ys. take n ys ++ es) w.count-is w.places-is ∙ noted ps xs k i p c.loop-i-test.true c.index-mail-i.is (sym w.if-is_empty.true ∙ c.is_empty.ensures) h ∙ c.loop-i.invariant.2,
      )
      | else-is_empty w ↦ (
        omega (arith, w.count-is, c.loop-i.invariant.0),
        ap length w.places-is ∙ long,
        ap₂ (λ n ys. take n ys ++ es) w.count-is w.places-is ∙ not_noted ps xs k i p c.loop-i-test.true c.index-mail-i.is (sym w.if-is_empty.false ∙ c.is_empty.ensures) ∙ c.loop-i.invariant.2,
      )
    ]

pub returns-then-count-wanted : goal.returns-then-count-wanted
returns-then-count-wanted g c =
    let r = noted_enough c.loop-i.places (empties_from c.loop-i.i (drop c.loop-i.i c.args.mail.now)) c.args.mail.now c.loop-i.count c.args.wanted (omega (arith, c.loop-i.invariant.0)) (omega (arith, c.loop-i.invariant.0, c.loop-i.invariant.1)) c.loop-i.invariant.2 in
    record { places = r.0; count = r.1 }

pub returns : goal.returns
returns g c =
    let r = noted_all c.loop-i.places c.args.mail.now c.loop-i.count c.loop-i.i c.args.wanted c.loop-i.invariant.0 (omega (arith, c.loop-i.invariant.0, c.loop-i.invariant.1)) c.loop-i-test.false c.loop-i.invariant.2 in
    record { places = r.0; count = r.1 }
