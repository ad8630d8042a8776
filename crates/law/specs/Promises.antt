-- The three promises of the register, between the tally of a run and the state that the run has reached.
use Rattle.std.specs.Prelude.{◌≡◌, ℕ, ◌+◌, ◌*◌, ◌≤◌, ◌⊎◌, List, ◌++◌, map, Some, None, Option}
use Rattle.std.specs.List.{AllByRecursion}
use Rattle.logs.specs.declared.entry.Entry.{Entry}
use Rattle.protocol.specs.declared.state.HeadState.TheVariants.{Active}
use Rattle.protocol.specs.Heads.{state_named}
use Rattle.protocol.specs.Sites.{State}
use Rattle.law.specs.Tallies.{Row, Tally}

-- the value read is the last finished value or that of the write under way, as they stood at that read
abbrev pub Regular : {V : Type 0} → Row V → Type 0
Regular row = (row.value ≡ row.finished) ⊎ (row.under_way ≡ Some row.value)

abbrev pub RegularReads : {V : Type 0} → Tally V → Type 0
RegularReads t = AllByRecursion Regular t.rows

-- a head that came with the site is ready at any time, another 3 × D ticks after its swap
abbrev pub Ready : ℕ → ℕ → Option ℕ → Type 0
Ready delay time None = Unit {0}
Ready delay time (Some tick) = tick + 3 * delay ≤ time

-- whoever is present and ready is active
abbrev pub ActiveInTime : {V : Type 0} → ℕ → Tally V → State V → Type 0
ActiveInTime delay t s = AllByRecursion (λ p. Ready delay t.time p.swap_tick → state_named p.name s.heads ≡ Some Active) t.present

abbrev pub row_entry : {V : Type 0} → Row V → Entry V
row_entry row = record { tick = row.tick; name = row.name; stamp = row.stamp; value = row.value }

-- the log has the entries that it had when the site was made, and then the rows, in order
abbrev pub FaithfulLog : {V : Type 0} → List (Entry V) → Tally V → State V → Type 0
FaithfulLog at-make t s = s.log.entries ≡ at-make ++ map row_entry t.rows
