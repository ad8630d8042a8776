use Rattle.std.proofs.Common.{sym, ◌∙◌}
use Rattle.room.proofs.CountedItems.{place_within}
use Rattle.room.proofs.forecast.Forecast.place.Goals as goal

pub returns-clause-inside : goal.returns-clause-inside
returns-clause-inside g c k e = place_within c.args.self.now.heads.now c.args.name k (sym c.find.ensures ∙ e)
