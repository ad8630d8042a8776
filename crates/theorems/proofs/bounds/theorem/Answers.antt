use Rattle.law.proofs.Laws.{always_in_bounds}
use Rattle.theorems.proofs.bounds.theorem.Goals as goal

pub returns : goal.returns
returns g c = always_in_bounds _
