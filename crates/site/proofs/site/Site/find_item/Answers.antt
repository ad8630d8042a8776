use Rattle.std.proofs.Common.{sym, refl, arith}
use Rattle.protocol.specs.declared.refusal.Refusal.TheVariants.{ForeignTables, NoSuchItem}
use Rattle.acts.proofs.BringSteps.{not_there, receiver_within, item_within, delivery, both_there}
use Rattle.acts.proofs.Checks.{refused_here, refused_later}
use Rattle.site.proofs.Records.{own_tables}
use Rattle.site.proofs.site.Site.find_item.Goals as goal

pub returns-in-None : goal.returns-in-None
returns-in-None g c =
    refused_later _ ForeignTables _ (own_tables c.args.self c.args.heads.now c.args.mail.now c.in_ok-check_tables.ensures)
    (refused_here _ NoSuchItem _ (not_there c.args.heads.now c.args.mail.now c.args.label.kind c.args.label.sender c.args.label.receiver (sym c.in-None.ensures)))

pub offset_bounds-heads-i : goal.offset_bounds-heads-i
offset_bounds-heads-i g c = omega (arith, receiver_within c.args.heads.now c.args.mail.now c.args.label.kind c.args.label.sender c.args.label.receiver c.in-Some.i c.in-Some.k (sym c.in-Some.ensures))

pub bounds-heads-i : goal.bounds-heads-i
bounds-heads-i g c = receiver_within c.args.heads.now c.args.mail.now c.args.label.kind c.args.label.sender c.args.label.receiver c.in-Some.i c.in-Some.k (sym c.in-Some.ensures)

pub offset_bounds-mail-k : goal.offset_bounds-mail-k
offset_bounds-mail-k g c = omega (arith, item_within c.args.heads.now c.args.mail.now c.args.label.kind c.args.label.sender c.args.label.receiver c.in-Some.i c.in-Some.k (sym c.in-Some.ensures))

pub bounds-mail-k : goal.bounds-mail-k
bounds-mail-k g c = item_within c.args.heads.now c.args.mail.now c.args.label.kind c.args.label.sender c.args.label.receiver c.in-Some.i c.in-Some.k (sym c.in-Some.ensures)

pub returns-in-Some : goal.returns-in-Some
returns-in-Some g c =
    let d = delivery c.args.heads.now c.args.mail.now c.args.label.kind c.args.label.sender c.args.label.receiver c.in-Some.i c.in-Some.k (sym c.in-Some.ensures) c.index-heads-i.result c.index-mail-k.result c.index-heads-i.is c.index-mail-k.is in (
      refused_later _ ForeignTables _ (own_tables c.args.self c.args.heads.now c.args.mail.now c.in_ok-check_tables.ensures)
          (refused_later _ NoSuchItem _ (both_there c.args.heads.now c.args.mail.now c.args.label.kind c.args.label.sender c.args.label.receiver c.in-Some.i c.index-heads-i.result c.in-Some.k c.index-mail-k.result d) refl),
      d,
    )
