use Rattle.std.proofs.Common.{◌≡◌, length, take}
use Rattle.records.specs.NameLists.{names_of}
use Rattle.tables.specs.Passes.{names_but}
use Rattle.mailing.proofs.passes.names_of_others.Given as goal

abbrev pub invariant-loop-i : goal.invariant-loop-i
invariant-loop-i g l = (l.names.count ≡ length (names_of l.names)) × (names_of l.names ≡ names_but l.but (take l.i l.heads))
