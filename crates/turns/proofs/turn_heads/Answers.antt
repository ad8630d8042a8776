use Rattle.std.proofs.Common.{◌≡◌, suc, ◌<◌, ◌≤◌, ◌++◌, map, length, get_or, take, drop, sym, refl, ap, ◌∙◌, arith}
use Rattle.std.proofs.lemmas.List.Edits.{map_over_more}
use Rattle.std.proofs.lemmas.List.{length-map, get_or-map, take_all, drop_all, append-nil}
use Rattle.protocol.specs.Tick.{turn, turned, turn_mail}
use Rattle.tables.specs.HeadPlaces.{head_of, heads_of}
use Rattle.tables.specs.MailPlaces.{items_of}
use Rattle.turns.proofs.Going.{one_at, before, amid_before, amid_after, amid_here, going_start, going_more, going_end}
use Rattle.turns.proofs.turn_heads.Goals as goal

pub loop-i-init : goal.loop-i-init
loop-i-init g c = (refl, λ few. going_start c.args.clock.delay c.args.clock.time (heads_of c.args.heads.now) (length c.args.mail.now) (items_of c.args.mail.now))

pub loop-i-preserved : goal.loop-i-preserved
loop-i-preserved g c =
    let D = c.args.clock.delay in
    let T = c.args.clock.time in
    let H = heads_of c.args.heads.now in
    let K = heads_of c.loop-i.heads in
    let i = c.loop-i.i in
    let (k, read) = one_at c.loop-i.heads i (omega arith) in
    let h = head_of k in
    let is = items_of c.loop-i.mail in
    let places = length c.args.mail.now in
    let inv = c.loop-i.invariant.0 in
    let l : i < length H = omega (arith, length-map c.args.heads.now head_of, c.loop-i-test.true) in
    let r : h ≡ get_or K i h = ap head_of read ∙ sym (get_or-map head_of c.loop-i.heads i k h (omega arith)) in (
      c.take_turn.ensures.heads k read ∙ map_over_more (turned D T) H K i h l inv r,
      λ few. going_more D T H places (items_of c.args.mail.now) i l h (amid_here D T H i l K inv h r) is (items_of c.take_turn.new.mail) (c.loop-i.invariant.1 few)
          (λ made e. c.take_turn.ensures.mail k made read (omega arith)
          (ap (λ n. turn_mail n T (take i K) h (drop (suc i) K) is (turn D T h)) c.loop-i.auto.mail
          ∙ ap (λ bs. turn_mail places T bs h (drop (suc i) K) is (turn D T h)) (amid_before D T H i l K inv)
          ∙ ap (λ bs. turn_mail places T (before D T H i) h bs is (turn D T h)) (amid_after D T H i l K inv)
          ∙ e)),
    )

pub returns : goal.returns
returns g c =
    let H = heads_of c.args.heads.now in
    let i = c.loop-i.i in
    let f = turned c.args.clock.delay c.args.clock.time in
    let l : length H ≤ i = omega (arith, length-map c.args.heads.now head_of, c.loop-i-test.false) in
    record {
      heads = c.loop-i.invariant.0 ∙ ap (λ ys. map f ys ++ drop i H) (take_all i H l) ∙ ap (λ ys. map f H ++ ys) (drop_all i H l) ∙ append-nil (map f H);
      mail = λ items few e. going_end c.args.clock.delay c.args.clock.time H (length c.args.mail.now) (items_of c.args.mail.now) i (items_of c.loop-i.mail) l (c.loop-i.invariant.1 few) items e;
    }
