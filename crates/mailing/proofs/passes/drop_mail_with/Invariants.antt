use Rattle.protocol.specs.Items.{goes_with}
use Rattle.tables.specs.Passes.{cleared}
use Rattle.tables.proofs.Refilling.{Clearing}
use Rattle.mailing.proofs.passes.drop_mail_with.Given as goal

abbrev pub invariant-loop-p : goal.invariant-loop-p
invariant-loop-p g l = Clearing (cleared (goes_with l.name)) l.initial.mail l.mail l.p-index
