use Rattle.std.proofs.Common.{◌≡◌, ◌-◌, ◌<◌, ◌++◌, length, get_or, filter, ap, ◌∙◌, subst, arith}
use Rattle.std.specs.List.Sorted.{IsPermutation}
use Rattle.std.proofs.lemmas.List.{length-map, get_or-map}
use Rattle.protocol.specs.declared.kind.MailKind.TheVariants.{Reply}
use Rattle.protocol.specs.Heads.{inquiring_named}
use Rattle.protocol.specs.Items.{dropping, is_reply_to}
use Rattle.protocol.specs.Tick.{turned_by}
use Rattle.mail.specs.Sending.{place_from}
use Rattle.tables.specs.HeadPlaces.{head_of, heads_of}
use Rattle.tables.specs.MailPlaces.{items_of}
use Rattle.tables.specs.Passes.{sent}
use Rattle.tables.specs.Turns.{turn_of}
use Rattle.turns.proofs.Sending.{as_activation}
use Rattle.turns.proofs.send_in_turn.Goals as goal

pub returns-in-Activate : goal.returns-in-Activate
returns-in-Activate g c items few e =
    let hs = c.args.heads.now in
    let i = c.args.i in
    let time = c.args.time in
    let h = head_of c.args.h in
    let t = turn_of c.args.turn in
    let es = items_of c.answer.new.mail in
    let ds = dropping (is_reply_to h.name) (items_of c.args.mail.now) in
    let n = length c.args.mail.now - length ds in
    let l : i < length (heads_of hs) = omega (arith, length-map hs head_of, c.requires.inside) in
    let here : get_or (heads_of hs) i (turned_by time t h) ≡ turned_by time t h = get_or-map head_of hs i c.args.h (turned_by time t h) c.requires.inside ∙ c.requires.turned c.args.h in
    let replies : sent n c.item_from-reply.result c.as_slice.result.now ≡ sent n (place_from Reply h.name c.in-Activate.copy time) (filter (λ x. inquiring_named x (heads_of hs)) h.held) =
    ap (λ item. sent n item c.as_slice.result.now) c.item_from-reply.ensures
    ∙ ap (sent n (place_from Reply h.name c.in-Activate.copy time)) (c.as_slice.ensures ∙ c.inquirers.ensures) in
    as_activation (length c.args.mail.now) time (heads_of hs) i h (items_of c.args.mail.now) es items t e c.in-Activate.copy (ap turn_of c.in-Activate.is) c.if-is_there.ensures l here
    (subst (λ zs. IsPermutation es (ds ++ zs)) replies c.answer.ensures)
