use Rattle.std.proofs.Common.{is_some, eqb, ap, ◌∙◌}
use Rattle.protocol.specs.Places.{first}
use Rattle.records.proofs.FirstNames.{any_first}
use Rattle.records.proofs.names.Names.contains.Goals as goal

pub returns : goal.returns
returns c = any_first c.args.name c.as_slice.result.now c.contains.result c.contains.ensures.cases ∙ ap (λ xs. is_some (first (eqb c.args.name) xs)) c.as_slice.ensures
