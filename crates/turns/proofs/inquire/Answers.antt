use Rattle.std.proofs.Common.{◌++◌, map, length, subst}
use Rattle.std.specs.List.Sorted.{IsPermutation}
use Rattle.tables.specs.MailPlaces.{items_of, addressed}
use Rattle.tables.specs.Passes.{names_but}
use Rattle.turns.proofs.Sending.{asked}
use Rattle.turns.proofs.inquire.Goals as goal

pub returns : goal.returns
returns g c items few e =
    let es = items_of c.broadcast.new.mail in
    let is = items_of c.args.mail.now in
    asked (length c.args.mail.now) c.args.h.name c.args.time c.cleared.result c.args.heads.now c.args.i is es items c.broadcast.result (c.broadcast.ensures.room few)
    (λ s. subst (λ item. IsPermutation es (is ++ items_of (map (addressed item) (names_but c.args.i c.args.heads.now)))) c.item_from-item.ensures (c.broadcast.ensures.sent s)) e
