use Rattle.std.proofs.Common.{◌≡◌, Ok, Err, sym, ap, ◌∙◌, w64, SFits, rules}
use Rattle.std.proofs.lemmas.Int.{to_z-of_z}
use Rattle.std.proofs.lemmas.Result.{err_from_is_err_and}
use Rattle.protocol.specs.declared.call.Call.TheVariants.{Write}
use Rattle.law.proofs.Laws.{carried_on}
use Rattle.site.specs.States.{state_of, written_answer}
use Rattle.passes.specs.Passes.{bare}
use Rattle.passes.proofs.Passing.{bare_told}
use Rattle.passes.proofs.Member.write.Goals as goal

pub returns-in_err-stamp-clause-step : goal.returns-in_err-stamp-clause-step
returns-in_err-stamp-clause-step g c =
    let p = err_from_is_err_and c.from_residual.result c.from_residual.ensures.1 in
    let b : c.write.result ≡ Err c.in_err-stamp.field-0.0.why = bare_told (λ why d h. search rules) c.write.result c.map_err.result c.map_err.ensures.cases ∙ ap bare c.in_err-stamp.was in
    rw (p.1, p.2, sym (ap (written_answer {V = g.row.V.Denot}) b)) c.write.ensures.step

pub returns-in_err-stamp-clause-law : goal.returns-in_err-stamp-clause-law
returns-in_err-stamp-clause-law g c =
    let p = err_from_is_err_and c.from_residual.result c.from_residual.ensures.1 in
    let b : c.write.result ≡ Err c.in_err-stamp.field-0.0.why = bare_told (λ why d h. search rules) c.write.result c.map_err.result c.map_err.ensures.cases ∙ ap bare c.in_err-stamp.was in
    rw (p.1, p.2, sym (ap (written_answer {V = g.row.V.Denot}) b)) (λ m. carried_on g.V.Value.lawful (state_of c.args.site.now c.args.heads.now c.args.mail.now m) (Write c.args.self.name c.args.value) (written_answer c.write.result) (state_of c.write.new.self c.write.new.heads c.write.new.mail m) (c.write.ensures.step m))

pub returns-clause-step : goal.returns-clause-step
returns-clause-step g c =
    let f : SFits w64 c.in_ok-stamp.stamp = search rules in
    let b : c.write.result ≡ Ok c.in_ok-stamp.stamp = bare_told (λ why d h. search rules) c.write.result c.map_err.result c.map_err.ensures.cases ∙ ap bare c.in_ok-stamp.was in
    rw (to_z-of_z w64 c.in_ok-stamp.stamp f, sym (ap (written_answer {V = g.row.V.Denot}) b)) c.write.ensures.step

pub returns-clause-law : goal.returns-clause-law
returns-clause-law g c =
    let f : SFits w64 c.in_ok-stamp.stamp = search rules in
    let b : c.write.result ≡ Ok c.in_ok-stamp.stamp = bare_told (λ why d h. search rules) c.write.result c.map_err.result c.map_err.ensures.cases ∙ ap bare c.in_ok-stamp.was in
    rw (to_z-of_z w64 c.in_ok-stamp.stamp f, sym (ap (written_answer {V = g.row.V.Denot}) b)) (λ m. carried_on g.V.Value.lawful (state_of c.args.site.now c.args.heads.now c.args.mail.now m) (Write c.args.self.name c.args.value) (written_answer c.write.result) (state_of c.write.new.self c.write.new.heads c.write.new.mail m) (c.write.ensures.step m))
