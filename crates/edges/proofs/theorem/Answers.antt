use Rattle.edges.proofs.EdgeCases.{all_edges}
use Rattle.edges.proofs.theorem.Goals as goal

pub returns : goal.returns
returns c = all_edges
