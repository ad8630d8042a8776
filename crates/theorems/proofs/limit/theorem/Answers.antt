use Rattle.law.proofs.Making.{make_suffices}
use Rattle.theorems.proofs.limit.theorem.Goals as goal

pub returns : goal.returns
returns g c = make_suffices _
