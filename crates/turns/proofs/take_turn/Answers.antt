use Rattle.std.proofs.Common.{◌≡◌, suc, length, take, drop, set, sym, ap, ◌∙◌, arith}
use Rattle.std.proofs.lemmas.List.{length-set, map-set, take-set-le, drop-set-lt, get_or_default}
use Rattle.protocol.specs.Tick.{turn, turned, turned_by, turn_mail}
use Rattle.tables.specs.HeadPlaces.{head_of, heads_of}
use Rattle.tables.specs.MailPlaces.{items_of}
use Rattle.tables.specs.Turns.{turn_of}
use Rattle.turns.proofs.take_turn.Goals as goal

pub returns-clause-heads : goal.returns-clause-heads
returns-clause-heads g c h here =
    let hs = c.args.heads.now in
    let i = c.args.i in
    let x = c.index-heads-i.result in
    let same : x ≡ h = sym (here ∙ get_or_default hs i h x c.requires.inside ∙ sym c.index-heads-i.is) in
    ap heads_of c.put.ensures
    ∙ map-set head_of hs i c.turned.result
    ∙ ap (set (heads_of hs) i) (c.turned.ensures ∙ ap (λ u. turned_by c.args.clock.time u (head_of x)) c.turn_at-turn.ensures ∙ ap (λ k. turned c.args.clock.delay c.args.clock.time (head_of k)) same)

pub returns-clause-mail : goal.returns-clause-mail
returns-clause-mail g c h items here few e =
    let hs = heads_of c.args.heads.now in
    let i = c.args.i in
    let x = c.index-heads-i.result in
    let y = head_of c.turned.result in
    let is = items_of c.args.mail.now in
    let places = length c.args.mail.now in
    let time = c.args.clock.time in
    let same : x ≡ h = sym (here ∙ get_or_default c.args.heads.now i h x c.requires.inside ∙ sym c.index-heads-i.is) in
    let left : heads_of c.put.new.places ≡ set hs i y = ap heads_of c.put.ensures ∙ map-set head_of c.args.heads.now i c.turned.result in
    c.send_in_turn.ensures items (omega (arith, few, ap length c.put.ensures, length-set c.args.heads.now i c.turned.result))
    (ap (λ ks. turn_mail places time (take i ks) (head_of x) (drop (suc i) ks) is (turn_of c.turn_at-turn.result)) left
    ∙ ap (λ bs. turn_mail places time bs (head_of x) (drop (suc i) (set hs i y)) is (turn_of c.turn_at-turn.result)) (take-set-le i hs i y (omega arith))
    ∙ ap (λ bs. turn_mail places time (take i hs) (head_of x) bs is (turn_of c.turn_at-turn.result)) (drop-set-lt (suc i) hs i y (omega arith))
    ∙ ap (turn_mail places time (take i hs) (head_of x) (drop (suc i) hs) is) c.turn_at-turn.ensures
    ∙ ap (λ k. turn_mail places time (take i hs) (head_of k) (drop (suc i) hs) is (turn c.args.clock.delay time (head_of k))) same
    ∙ e)
