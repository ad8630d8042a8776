-- Up to 64 names, in order of arrival.
use Rattle.std.specs.Prelude.{ℕ, Bool, cond, ◌||◌, List, [], ◌∷◌, ◌++◌, length, take, is_some, nat_eq, nat_lt}
use Rattle.protocol.specs.Places.{first}
use Rattle.records.specs.declared.names.Names.{Names}

abbrev pub names_of : Names → List ℕ
names_of n = take n.count n.list

-- the name is there already, or there are fewer than 64
abbrev pub has_room : ℕ → List ℕ → Bool
has_room x xs = is_some (first (nat_eq x) xs) || nat_lt (length xs) 64

-- with this name; one that is there already is not added again
abbrev pub joined : ℕ → List ℕ → List ℕ
joined x xs = cond (is_some (first (nat_eq x) xs)) xs (xs ++ x ∷ [])
