use Rattle.std.proofs.lemmas.Result.{err_from_is_err_and}
use Rattle.acts.proofs.SwapSteps.{swap_refused, swap_limited, swap_made}
use Rattle.site.specs.States.{site_of}
use Rattle.site.proofs.site.Site.swap.Goals as goal

pub returns-in_err-i-clause-step : goal.returns-in_err-i-clause-step
returns-in_err-i-clause-step g c =
    let p = err_from_is_err_and c.from_residual.result c.from_residual.ensures.1 in
    rw (p.1, p.2)
    (λ m. swap_refused g.V.Value.lawful (site_of c.args.self.now) c.args.heads.now c.args.mail.now m c.args.name c.in_err-i.field-0.0 c.in_err-i.ensures)

pub returns-in_err-after-clause-step : goal.returns-in_err-after-clause-step
returns-in_err-after-clause-step g c =
    let p = err_from_is_err_and c.from_residual-in_err-after.result c.from_residual-in_err-after.ensures.1 in
    rw (p.1, p.2)
    (λ m. swap_limited g.V.Value.lawful (site_of c.args.self.now) c.args.heads.now c.args.mail.now m c.args.name c.in_ok-i.ensures.0 c.in_err-after.field-0.0 c.in_err-after.ensures)

pub returns-clause-step : goal.returns-clause-step
returns-clause-step g c =
    λ m.
    let e = c.in_ok-i.ensures in
    let t = c.in_ok-after.ensures in
    swap_made g.V.Value.lawful (site_of c.args.self.now) c.args.heads.now c.args.mail.now m c.args.name e.0
    (site_of c.in_ok-after.after) c.forget_everywhere.new.heads c.put.new.places c.drop_mail_with.new.mail
    c.in_ok-i.i c.newcomer.result c.in_ok-i.h.inquiry_tick
    t.0 c.put.ensures e.1 c.forget_everywhere.ensures c.newcomer.ensures c.drop_mail_with.ensures c.drop_mail_with.auto.mail t.1
