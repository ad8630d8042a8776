use Rattle.law.proofs.Laws.{law_of_make}
use Rattle.theorems.proofs.made.theorem.Goals as goal

pub returns : goal.returns
returns g c = law_of_make _
