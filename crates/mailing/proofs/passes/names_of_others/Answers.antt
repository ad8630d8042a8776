use Rattle.std.proofs.Common.{◌+◌, ◌<◌, ◌++◌, ◌∷◌, [], length, sym, ap, ◌∙◌, arith}
use Rattle.std.proofs.lemmas.Bool.{leb-false}
use Rattle.std.proofs.lemmas.List.{length_push}
use Rattle.records.specs.NameLists.{names_of}
use Rattle.tables.proofs.SentItems.{another, left_out}
use Rattle.mailing.proofs.passes.names_of_others.Goals as goal
use Rattle.mailing.proofs.passes.names_of_others.Goals.{then-i-but+else-is_full, else-i-but}

pub loop-i-preserved : goal.loop-i-preserved
loop-i-preserved g c =
    let hs = c.args.heads.now in
    let h = c.index-heads-i.result in
    let names = names_of c.loop-i.names in
    elim c.if-i-but.branch [
      | then-i-but+else-is_full w ↦
          let room : length names < 64 = leb-false 64 (length names) (sym w.is_full.ensures ∙ w.if-is_full.false) in
          let free : c.loop-i.names.count < 64 = omega (arith, c.loop-i.invariant.0) in
          let put = w.push.ensures.put free in (
            ap (λ n. n.count) w.names-is ∙ w.push.ensures.count free ∙ ap (λ n. n + 1) c.loop-i.invariant.0
                ∙ sym (ap (λ n. length (names_of n)) w.names-is ∙ ap length put ∙ length_push names h.name),
            ap names_of w.names-is ∙ put ∙ ap (λ ns. ns ++ h.name ∷ []) c.loop-i.invariant.1 ∙ sym (another hs c.loop-i.i c.args.but h c.loop-i-test.true c.index-heads-i.is w.if-i-but.true),
          )
      | else-i-but w ↦ (
        ap (λ n. n.count) w.names-is ∙ c.loop-i.invariant.0 ∙ sym (ap (λ n. length (names_of n)) w.names-is),
        ap names_of w.names-is ∙ c.loop-i.invariant.1 ∙ sym (left_out hs c.loop-i.i c.args.but h c.loop-i-test.true c.index-heads-i.is w.if-i-but.false),
      )
    ]
