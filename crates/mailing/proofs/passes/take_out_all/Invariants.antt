use Rattle.tables.specs.Passes.{without_item}
use Rattle.tables.proofs.Refilling.{Clearing}
use Rattle.mailing.proofs.passes.take_out_all.Given as goal

abbrev pub invariant-loop-p : goal.invariant-loop-p
invariant-loop-p g l = Clearing without_item l.initial.mail l.mail l.p-index
