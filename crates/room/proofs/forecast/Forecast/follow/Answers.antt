use Rattle.std.proofs.Common.{◌≡◌, ◌+◌, ◌++◌, map, take, drop, Ok, Some, filter, sym, refl, ap, ◌∙◌, subst}
use Rattle.protocol.specs.Heads.{inquiring_named}
use Rattle.protocol.specs.Items.{reply, is_reply_to, dropping, put}
use Rattle.protocol.specs.Tick.{turn, rests, inquires, activates, activates_or, strands}
use Rattle.records.specs.Copies.{copied}
use Rattle.tables.specs.HeadPlaces.{head_of, heads_of}
use Rattle.room.specs.Amid.{turned_heads, amid}
use Rattle.room.specs.Counting.{Followed}
use Rattle.room.proofs.AmidHeads.{has_place, amid_here, others_length}
use Rattle.room.proofs.Following.{copy_there, turn_followed, activate_followed}
use Rattle.room.proofs.forecast.Forecast.follow.Goals as goal

pub returns-in-Activate : goal.returns-in-Activate
returns-in-Activate g c hs places items inside here foreseen =
    let h = c.args.h in
    let i = c.args.i in
    let now = c.args.clock.time in
    let delay = c.args.clock.delay in
    let t = turn delay now (head_of h) in
    let (k, there) = copy_there (copied c.in-Activate.copy) c.if-is_there.ensures in
    let q : t ≡ activates k = sym c.in-Activate.ensures ∙ ap (activates_or rests) there in
    let mid = amid delay now (i + 1) hs in
    let left = dropping (is_reply_to h.name) items in
    activate_followed hs places now (turned_heads delay now (take i hs)) (head_of h) (heads_of (drop (i + 1) hs)) items t c.add_replies.result c.add_replies.new.self k mid q (amid_here hs i h inside here delay now)
    (subst (λ xs. Followed hs places (put places left (map (λ x. reply h.name x now (Some k)) (filter (λ x. inquiring_named x mid) xs))) c.add_replies.result c.add_replies.new.self) c.as_slice.ensures
    (c.add_replies.ensures hs places left h.name (Some k) (c.drop_replies.ensures hs places items (has_place hs i h inside here) foreseen)))

pub returns-in-Inquire : goal.returns-in-Inquire
returns-in-Inquire g c hs places items inside here foreseen =
    let h = head_of c.args.h in
    let i = c.args.i in
    let now = c.args.clock.time in
    let delay = c.args.clock.delay in
    let before = turned_heads delay now (take i hs) in
    let after = heads_of (drop (i + 1) hs) in
    turn_followed hs places now before h after items (turn delay now h) c.add_inquiries.result c.add_inquiries.new.self inquires (sym c.in-Inquire.ensures)
    (c.add_inquiries.ensures hs places items h.name now (before ++ after) (others_length delay now hs i inside) foreseen)

pub returns-in-Strand : goal.returns-in-Strand
returns-in-Strand g c hs places items inside here foreseen =
    let h = head_of c.args.h in
    let i = c.args.i in
    let now = c.args.clock.time in
    let delay = c.args.clock.delay in
    turn_followed hs places now (turned_heads delay now (take i hs)) h (heads_of (drop (i + 1) hs)) items (turn delay now h) (Ok tt) c.drop_replies-in-Strand.new.self strands (sym c.in-Strand.ensures)
    (refl, c.drop_replies-in-Strand.ensures hs places items (has_place hs i c.args.h inside here) foreseen)
