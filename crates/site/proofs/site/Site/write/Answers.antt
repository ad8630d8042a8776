use Rattle.std.proofs.Common.{◌≡◌, Ok, Err, refl, ◌∙◌, w64, SFits, to_z, of_z, rules}
use Rattle.std.proofs.lemmas.Result.{err_from_is_err_and}
use Rattle.std.proofs.lemmas.Int.{to_z-of_z}
use Rattle.protocol.specs.declared.refusal.Refusal.TheVariants.{NoRoom}
use Rattle.acts.proofs.WriteSteps.{write_refused, write_not_begun, write_full, write_begun}
use Rattle.site.specs.States.{site_of}
use Rattle.site.proofs.Records.{few_lent, writes_told}
use Rattle.site.proofs.site.Site.write.Goals as goal

pub returns-in_err-i-clause-step : goal.returns-in_err-i-clause-step
returns-in_err-i-clause-step g c =
    let p = err_from_is_err_and c.from_residual.result c.from_residual.ensures.1 in
    rw (p.1, p.2)
    (λ m. write_refused g.V.Value.lawful (site_of c.args.self.now) c.args.heads.now c.args.mail.now m c.args.name c.args.value c.in_err-i.field-0.0 c.in_err-i.ensures)

pub returns-in_err-writer-clause-step : goal.returns-in_err-writer-clause-step
returns-in_err-writer-clause-step g c =
    let p = err_from_is_err_and c.from_residual-in_err-writer.result c.from_residual-in_err-writer.ensures.1 in
    let e = c.in_ok-i.ensures in
    let why = c.in_err-writer.field-0.0 in
    let w = writes_told c.args.self.now g.V.Value.lawful c.is_some.result c.in_ok-i.h c.args.value (Err why) c.is_some.ensures c.in_err-writer.ensures in
    rw (p.1, p.2)
    (λ m.
    write_not_begun g.V.Value.lawful (site_of c.args.self.now) c.args.heads.now c.args.mail.now m c.args.name c.args.value
    e.0 c.in_ok-i.i e.1 c.in_ok-i.h e.2 why w)

pub returns-in_err-broadcast-clause-step : goal.returns-in_err-broadcast-clause-step
returns-in_err-broadcast-clause-step g c =
    let p = err_from_is_err_and c.from_residual-in_err-broadcast.result c.from_residual-in_err-broadcast.ensures.1 in
    let e = c.in_ok-i.ensures in
    let b = c.in_err-broadcast.ensures in
    let w = writes_told c.args.self.now g.V.Value.lawful c.is_some.result c.in_ok-i.h c.args.value (Ok c.in_ok-writer.writer) c.is_some.ensures c.in_ok-writer.ensures in
    let few = few_lent c.args.self.now c.args.heads.now c.args.mail.now c.args.name e.0 in
    let r = (b.refused refl).0 in
    let n : c.in_err-broadcast.field-0.0 ≡ NoRoom = cc in
    rw (p.1, p.2 ∙ n)
    (λ m.
    write_full g.V.Value.lawful (site_of c.args.self.now) c.args.heads.now c.args.mail.now m c.args.name c.args.value
    e.0 c.in_ok-i.i e.1 c.in_ok-i.h e.2 c.in_ok-writer.writer w c.write_item.result c.write_item.ensures
    (b.room few) c.broadcast.new.mail (b.refused refl).1)

pub returns-clause-step : goal.returns-clause-step
returns-clause-step g c =
    let e = c.in_ok-i.ensures in
    let b = c.in_ok-broadcast.ensures in
    let w = writes_told c.args.self.now g.V.Value.lawful c.is_some.result c.in_ok-i.h c.args.value (Ok c.in_ok-writer.writer) c.is_some.ensures c.in_ok-writer.ensures in
    let few = few_lent c.args.self.now c.args.heads.now c.args.mail.now c.args.name e.0 in
    let z = c.in_ok-writer.writer.copy.stamp in
    let f : SFits w64 z = search rules in
    λ m.
    write_begun g.V.Value.lawful (site_of c.args.self.now) c.args.heads.now c.args.mail.now m c.args.name c.args.value
    e.0 c.in_ok-i.i e.1 c.in_ok-i.h e.2 c.in_ok-writer.writer w c.write_item.result c.write_item.ensures
    (b.room few) c.broadcast.new.mail (b.sent refl) c.broadcast.auto.mail c.put.new.places c.put.ensures
    (site_of c.after_write.result) c.after_write.ensures (to_z w64 (of_z w64 z)) (to_z-of_z w64 z f)
