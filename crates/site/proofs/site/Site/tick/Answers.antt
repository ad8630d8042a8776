use Rattle.std.proofs.Common.{◌≡◌, [], map, length, refl, ap, ◌∙◌, arith}
use Rattle.std.proofs.lemmas.Result.{err_from_is_err_and}
use Rattle.turns.proofs.TickSteps.{tick_refused, tick_made, few_activations}
use Rattle.protocol.specs.Tick.{activations, turned, turns_mail}
use Rattle.tables.specs.HeadPlaces.{heads_of}
use Rattle.tables.specs.MailPlaces.{items_of}
use Rattle.site.specs.States.{site_of}
use Rattle.site.proofs.site.Site.tick.Goals as goal

pub returns-in_err-after-clause-step : goal.returns-in_err-after-clause-step
returns-in_err-after-clause-step g c =
    let p = err_from_is_err_and c.from_residual.result c.from_residual.ensures.1 in
    rw (p.1, p.2)
    (λ m. tick_refused g.V.Value.lawful (site_of c.args.self.now) c.args.heads.now c.args.mail.now m c.in_err-after.field-0.0 c.in_err-after.ensures)

pub overflow_cast-turned : goal.overflow_cast-turned
overflow_cast-turned g c =
    let few = few_activations c.clock-clock.result.delay c.clock-clock.result.time c.args.heads.now in
    omega (arith, few, c.activations-turned.ensures, c.in_ok-after.ensures.2)

pub returns-clause-step : goal.returns-clause-step
returns-clause-step g c =
    let t = c.in_ok-after.ensures in
    let after = c.in_ok-after.after in
    let hs = c.args.heads.now in
    let ms = c.args.mail.now in
    let k : c.clock-clock.result ≡ record { delay = c.args.self.now.delay; time = after.time } = c.clock-clock.ensures ∙ ap (λ s. record { delay = s.delay; time = after.time }) t.1 in
    λ m. tick_made g.V.Value.lawful (site_of c.args.self.now) hs ms m (site_of after) after.time c.activations-turned.result c.turn_heads.new.heads c.turn_heads.new.mail
    t.0 t.1 refl
    (c.activations-turned.ensures ∙ ap (λ q. activations q.delay q.time (heads_of hs)) k)
    (c.turn_heads.ensures.heads ∙ ap (λ q. map (turned q.delay q.time) (heads_of hs)) k)
    (λ items e. c.turn_heads.ensures.mail items t.2 (ap (λ q. turns_mail (length ms) q.delay q.time [] (heads_of hs) (items_of ms)) k ∙ e))
    c.turn_heads.auto.mail
