use Rattle.std.proofs.Common.{◌≡◌, ◌≤◌, filter, take}
use Rattle.records.specs.NameLists.{names_of}
use Rattle.records.proofs.names.Names.filtered.Given as goal

abbrev pub invariant-loop-x : goal.invariant-loop-x
invariant-loop-x g l =
    (l.passed.count ≤ l.x-index)
    × (names_of l.passed ≡ filter (g.T.NameTest.passing l.test) (take l.x-index (names_of l.fn.self)))
