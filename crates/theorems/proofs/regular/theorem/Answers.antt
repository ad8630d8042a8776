use Rattle.law.proofs.Laws.{law}
use Rattle.theorems.proofs.regular.theorem.Goals as goal

pub returns : goal.returns
returns g c = law _
