use Rattle.std.proofs.lemmas.Result.{err_from_is_err_and}
use Rattle.acts.proofs.BringSteps.{bring_refused, bring_overfills, brought}
use Rattle.site.specs.States.{site_of}
use Rattle.site.proofs.site.Site.bring.Goals as goal

pub returns-in_err-i-clause-step : goal.returns-in_err-i-clause-step
returns-in_err-i-clause-step g c =
    let p = err_from_is_err_and c.from_residual.result c.from_residual.ensures.1 in
    rw (p.1, p.2)
    (λ m. bring_refused g.V.Value.lawful (site_of c.args.self.now) c.args.heads.now c.args.mail.now m c.args.label.kind c.args.label.sender c.args.label.receiver c.in_err-i.field-0.0 c.in_err-i.ensures)

pub returns-in_err-after-clause-step : goal.returns-in_err-after-clause-step
returns-in_err-after-clause-step g c =
    let p = err_from_is_err_and c.from_residual-in_err-after.result c.from_residual-in_err-after.ensures.1 in
    let d = c.in_ok-i.ensures in
    rw (p.1, p.2)
    (λ m.
    bring_overfills g.V.Value.lawful (site_of c.args.self.now) c.args.heads.now c.args.mail.now m c.args.label.kind c.args.label.sender c.args.label.receiver
    d.0 c.in_ok-i.i c.in_ok-i.h c.in_ok-i.k c.in_ok-i.p d.1 c.in_err-after.field-0.0 c.in_err-after.ensures)

pub returns-clause-step : goal.returns-clause-step
returns-clause-step g c =
    let d = c.in_ok-i.ensures in
    λ m.
    brought g.V.Value.lawful (site_of c.args.self.now) c.args.heads.now c.args.mail.now m c.args.label.kind c.args.label.sender c.args.label.receiver
    d.0 c.in_ok-i.i c.in_ok-i.h c.in_ok-i.k c.in_ok-i.p d.1
    c.in_ok-after.after c.in_ok-after.answer c.in_ok-after.ensures c.put.new.places c.put-2.new.places c.put.ensures c.put-2.ensures
