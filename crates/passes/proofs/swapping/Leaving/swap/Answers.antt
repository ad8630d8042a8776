use Rattle.std.proofs.Common.{is_err, sym, ap, ◌∙◌, rules}
use Rattle.protocol.specs.declared.call.Call.TheVariants.{Swap}
use Rattle.law.proofs.Laws.{carried_on}
use Rattle.site.specs.States.{state_of, swapped_answer}
use Rattle.passes.proofs.Passing.{bare_told, bare_is_err}
use Rattle.passes.proofs.swapping.Leaving.swap.Goals as goal

pub returns-clause-step : goal.returns-clause-step
returns-clause-step g c =
    let b = bare_told (λ why d h. search rules) c.swap.result c.map_err.result c.map_err.ensures.cases in
    rw (sym b, sym c.name-name.ensures) c.swap.ensures.step

pub returns-clause-law : goal.returns-clause-law
returns-clause-law g c =
    let b = bare_told (λ why d h. search rules) c.swap.result c.map_err.result c.map_err.ensures.cases in
    rw (sym b, sym c.name-name.ensures)
    (λ m. carried_on g.V.Value.lawful (state_of c.args.site.now c.args.heads.now c.args.mail.now m) (Swap c.name-name.result) (swapped_answer c.swap.result) (state_of c.swap.new.self c.swap.new.heads c.swap.new.mail m) (c.swap.ensures.step m))

pub returns-clause-kept : goal.returns-clause-kept
returns-clause-kept g c e =
    let b = bare_told (λ why d h. search rules) c.swap.result c.map_err.result c.map_err.ensures.cases in
    c.swap.ensures.kept (ap is_err b ∙ bare_is_err c.map_err.result ∙ e)
