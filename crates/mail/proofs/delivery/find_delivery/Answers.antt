use mathlib.Core.Path.{sym, ap, ap₂, ◌∙◌}
use mathlib.Core.Bool.{Bool}
use Rattle.protocol.specs.Heads.{is_named, holds_of}
use Rattle.protocol.specs.Items.{is_told}
use Rattle.tables.specs.declared.mail.MailPlace.{MailPlace}
use Rattle.tables.specs.FirstPlaces.{place_of, both_places}
use Rattle.tables.specs.HeadPlaces.{head_of}
use Rattle.tables.specs.MailPlaces.{item_of}
use Rattle.tables.proofs.Searches.{place_here, place_past, place_none}
use Rattle.mail.proofs.delivery.find_delivery.Goals as goal

pub loop-k-preserved : goal.loop-k-preserved
loop-k-preserved g c =
    place_past (λ p. holds_of (is_told c.args.label.kind c.args.label.sender c.args.label.receiver) (item_of p)) c.args.mail.now c.loop-k.k c.index-mail-k.result c.loop-k-test.true c.index-mail-k.is c.if-has_label.ensures
    ∙ c.loop-k.invariant

pub loop-i-preserved : goal.loop-i-preserved
loop-i-preserved g c =
    place_past (λ h. is_named c.args.label.receiver (head_of h)) c.args.heads.now c.loop-i.i c.index-heads-i.result c.loop-i-test.true c.index-heads-i.is c.if-has_name.ensures
    ∙ c.loop-i.invariant

pub returns-then-has_label : goal.returns-then-has_label
returns-then-has_label g c =
    sym (ap₂ both_places
    (sym c.loop-i.invariant
    ∙ place_here (λ h. is_named c.args.label.receiver (head_of h)) c.args.heads.now c.loop-i.i c.index-heads-i.result c.loop-i-test.true c.index-heads-i.is c.if-has_name.ensures)
    (sym c.loop-k.invariant
    ∙ place_here (λ p. holds_of (is_told c.args.label.kind c.args.label.sender c.args.label.receiver) (item_of p)) c.args.mail.now c.loop-k.k c.index-mail-k.result c.loop-k-test.true c.index-mail-k.is c.if-has_label.ensures))

pub returns-after-loop-k : goal.returns-after-loop-k
returns-after-loop-k g c =
    sym (ap₂ both_places
    (sym c.loop-i.invariant
    ∙ place_here (λ h. is_named c.args.label.receiver (head_of h)) c.args.heads.now c.loop-i.i c.index-heads-i.result c.loop-i-test.true c.index-heads-i.is c.if-has_name.ensures)
    (sym c.loop-k.invariant
    ∙ place_none (λ p. holds_of (is_told c.args.label.kind c.args.label.sender c.args.label.receiver) (item_of p)) c.args.mail.now c.loop-k.k c.loop-k-test.false))

pub returns-after-loop-i : goal.returns-after-loop-i
returns-after-loop-i g c =
    let items : MailPlace g.row.V.Denot → Bool = λ p. holds_of (is_told c.args.label.kind c.args.label.sender c.args.label.receiver) (item_of p) in
    sym (ap (λ o. both_places o (place_of items c.args.mail.now))
    (sym c.loop-i.invariant ∙ place_none (λ h. is_named c.args.label.receiver (head_of h)) c.args.heads.now c.loop-i.i c.loop-i-test.false))
