-- The heads amid a tick: those before some place have turned, the others have not.
use Rattle.std.specs.Prelude.{ℕ, List, ◌++◌, map, take, drop}
use Rattle.protocol.specs.Heads.{Head as Told}
use Rattle.protocol.specs.Tick.{turned}
use Rattle.tables.specs.declared.head.Head.{Head}
use Rattle.tables.specs.HeadPlaces.{head_of, heads_of}

abbrev pub turned_heads : {V : Type 0} → ℕ → ℕ → List (Head V) → List (Told V)
turned_heads delay time heads = map (λ h. turned delay time (head_of h)) heads

abbrev pub amid : {V : Type 0} → ℕ → ℕ → ℕ → List (Head V) → List (Told V)
amid delay time n heads = turned_heads delay time (take n heads) ++ heads_of (drop n heads)
