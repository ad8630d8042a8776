use Rattle.protocol.specs.declared.call.Call.TheVariants.{Read}
use Rattle.law.proofs.Laws.{carried_on}
use Rattle.site.specs.States.{state_of, read_answer_of}
use Rattle.passes.proofs.Member.read.Goals as goal

pub returns-clause-law : goal.returns-clause-law
returns-clause-law g c = carried_on g.V.Value.lawful (state_of c.args.site.now c.args.heads.now c.args.mail.now (g.L.Log.meaning c.args.log.now)) (Read c.args.self.now.name) (read_answer_of c.read.result) (state_of c.args.site.now c.args.heads.now c.args.mail.now (g.L.Log.meaning c.read.new.log)) c.read.ensures.step
