use Rattle.law.proofs.Laws.{carried_on}
use Rattle.protocol.specs.declared.answer.Answer.TheVariants.{Refused}
use Rattle.site.specs.States.{state_of}
use Rattle.register.proofs.perform.Goals as goal

pub returns-in-Ok-clause-law : goal.returns-in-Ok-clause-law
returns-in-Ok-clause-law g c = carried_on g.V.Value.lawful (state_of c.args.site.now c.args.heads.now c.args.mail.now (g.L.Log.meaning c.args.log.now)) c.args.call.now c.in-Ok.answer (state_of c.carry_out.new.site c.carry_out.new.heads c.carry_out.new.mail (g.L.Log.meaning c.carry_out.new.log)) c.in-Ok.ensures.step

pub returns-in-Err-clause-law : goal.returns-in-Err-clause-law
returns-in-Err-clause-law g c = carried_on g.V.Value.lawful (state_of c.args.site.now c.args.heads.now c.args.mail.now (g.L.Log.meaning c.args.log.now)) c.args.call.now (Refused c.in-Err.why) (state_of c.carry_out.new.site c.carry_out.new.heads c.carry_out.new.mail (g.L.Log.meaning c.carry_out.new.log)) c.in-Err.ensures.step
