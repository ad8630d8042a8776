use Rattle.law.proofs.Clocking.{always_progress}
use Rattle.theorems.proofs.progress.theorem.Goals as goal

pub returns : goal.returns
returns g c = always_progress _
