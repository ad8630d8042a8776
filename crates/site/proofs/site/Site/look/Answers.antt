use Rattle.std.proofs.Common.{sym, refl, ap, ◌∙◌, w64, SFits, rules}
use Rattle.std.proofs.lemmas.Result.{err_from_is_err_and}
use Rattle.std.proofs.lemmas.Int.{to_z-of_z}
use Rattle.protocol.specs.declared.answer.Answer.TheVariants.{Seen}
use Rattle.protocol.specs.Steps.{refused, accepted, look_answer}
use Rattle.acts.proofs.Checks.{same}
use Rattle.acts.proofs.Named.{named}
use Rattle.site.specs.States.{state_of}
use Rattle.site.proofs.site.Site.look.Goals as goal

pub returns-in_err-h : goal.returns-in_err-h
returns-in_err-h g c =
    let p = err_from_is_err_and c.from_residual.result c.from_residual.ensures.1 in
    rw (p.1, p.2) (λ m. refused c.in_err-h.field-0.0 c.in_err-h.ensures refl refl)

pub returns : goal.returns
returns g c m =
    let e = c.in_ok-h.ensures in
    let h = c.in_ok-h.h in
    let f : SFits w64 c.copy_stamp.result = search rules in
    accepted 0 e.0
    (ap (Seen h.state) (to_z-of_z w64 c.copy_stamp.result f ∙ c.copy_stamp.ensures)
    ∙ sym (ap look_answer (named c.args.name c.args.heads.now c.in_ok-h.field-0-0 e.1 h e.2)))
    (same (state_of c.args.self.now c.args.heads.now c.args.mail.now m))
