use Rattle.edges.proofs.EdgeCases.{edges}
use Rattle.edges.proofs.edges_theorem.Goals as goal

pub returns : goal.returns
returns c = edges
