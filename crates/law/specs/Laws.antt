-- The law of the register over whole runs, for every kind of value and every log.
use Rattle.std.specs.Prelude.{◌≡◌, ◌-◌, ◌*◌, ◌<◌, ◌≤◌, Bool, true, false, [], ◌∷◌, is_some, Some, None, ◌≢◌}
use Rattle.std.specs.List.{AllByRecursion}
use Rattle.logs.specs.declared.entry.LogRefusal.TheVariants.{Unsound}
use Rattle.protocol.specs.declared.state.HeadState.TheVariants.{Stranded}
use Rattle.protocol.specs.declared.refusal.Refusal.TheVariants.{ForeignTables, NoRoom, Log}
use Rattle.protocol.specs.declared.answer.Answer.{Answer}
use Rattle.protocol.specs.Answers.{refusal_told}
use Rattle.protocol.specs.Numbers.{last_tick}
use Rattle.protocol.specs.Places.{first}
use Rattle.protocol.specs.Items.{kind_of, sender_of, receiver_of, is_told, is_due}
use Rattle.protocol.specs.Sites.{State}
use Rattle.protocol.specs.Make.{Setup, make_refusal}
use Rattle.protocol.specs.Bring.{bring_refusal}
use Rattle.protocol.specs.Tick.{tick_refusal}
use Rattle.law.specs.Tallies.{History, tally}
use Rattle.protocol.specs.declared.call.Call.{Call}
use Rattle.law.specs.Runs.{Reached}
use Rattle.law.specs.Promises.{RegularReads, ActiveInTime, FaithfulLog}

-- the numbers and the starting value are such as make takes, whatever the churn
pub record Fits {V : Type 0} (lawful : V → Bool) (m : Setup V) : Type 0 where
  pub some_head : 1 ≤ m.size
  pub most_heads : m.size ≤ 64
  pub some_delay : 1 ≤ m.delay
  pub most_delay : m.delay ≤ 16
  pub mail : m.size * m.size ≤ m.places
  pub start : lawful m.start ≡ true

-- the swaps of 3 × D − 1 ticks in a row leave some head untouched
abbrev pub LowChurn : {V : Type 0} → Setup V → Type 0
LowChurn m = (3 * m.delay - 1) * m.swap_limit < m.size

-- what holds after each run
pub record Promises {V : Type 0} (m : Setup V) (es : History V) (s : State V) : Type 0 where
  pub regular : RegularReads (tally m es)
  pub in_time : ActiveInTime m.delay (tally m es) s
  pub faithful : FaithfulLog m.log.entries (tally m es) s

-- the three promises hold after every run
abbrev pub Law : Type 0 → Type 0
Law V = (lawful : V → Bool) (m : Setup V) → Fits lawful m → LowChurn m → (es : History V) (s : State V) → Reached lawful m es s → Promises m es s

-- the same of every site that make accepts
abbrev pub LawOfMake : Type 0 → Type 0
LawOfMake V = (lawful : V → Bool) (m : Setup V) → make_refusal lawful m ≡ None → (es : History V) (s : State V) → Reached lawful m es s → Promises m es s

-- what make accepts fits, and its churn is low
abbrev pub MakeSuffices : Type 0 → Type 0
MakeSuffices V = (lawful : V → Bool) (m : Setup V) → make_refusal lawful m ≡ None → Fits lawful m × LowChurn m

-- the answer is no refusal for foreign tables, for want of room or for an unsound entry
pub record AnswerInBounds {V : Type 0} (a : Answer V) : Type 0 where
  pub own_tables : refusal_told a ≡ Some ForeignTables → ⊥
  pub room : refusal_told a ≡ Some NoRoom → ⊥
  pub sound : refusal_told a ≡ Some (Log Unsound) → ⊥

pub record InBounds {V : Type 0} (es : History V) (s : State V) : Type 0 where
  pub answers : AllByRecursion (λ e. AnswerInBounds e.answer) es
  pub heads : AllByRecursion (λ h. h.state ≢ Stranded) s.heads

-- no call of a run is refused for its tables, for room or for an unsound entry, and nobody is ever stranded
abbrev pub AlwaysInBounds : Type 0 → Type 0
AlwaysInBounds V = (lawful : V → Bool) (m : Setup V) → Fits lawful m → LowChurn m → (es : History V) (s : State V) → Reached lawful m es s → InBounds es s

-- each item that is due can be brought, and bringing takes that very item; when none is due the clock moves on until the last tick
pub record ClockProgress {V : Type 0} (s : State V) : Type 0 where
  pub brought : AllByRecursion (λ i. is_due s.site.delay s.site.time i ≡ true → bring_refusal s (kind_of i) (sender_of i) (receiver_of i) ≡ None) s.items
  pub itself : AllByRecursion (λ i. is_due s.site.delay s.site.time i ≡ true → first (is_told (kind_of i) (sender_of i) (receiver_of i)) s.items ≡ Some i) s.items
  pub ticks : s.site.time < last_tick → is_some (first (is_due s.site.delay s.site.time) s.items) ≡ false → tick_refusal s ≡ None

abbrev pub AlwaysProgress : Type 0 → Type 0
AlwaysProgress V = (lawful : V → Bool) (m : Setup V) → Fits lawful m → LowChurn m → (es : History V) (s : State V) → Reached lawful m es s → ClockProgress s

-- a run is begun in the state s, and the three promises hold there
pub record Begun {V : Type 0} (lawful : V → Bool) (m : Setup V) (s : State V) : Type 0 where
  pub reached : Reached lawful m [] s
  pub promises : Promises m [] s

-- a run is carried on by this call with this answer to the state t: there the three promises hold, and the answer is in bounds
pub record CarriedOn {V : Type 0} (lawful : V → Bool) (m : Setup V) (es : History V) (c : Call V) (a : Answer V) (t : State V) : Type 0 where
  pub reached : Reached lawful m (record { call = c; answer = a } ∷ es) t
  pub promises : Promises m (record { call = c; answer = a } ∷ es) t
  pub in_bounds : AnswerInBounds a

-- whatever run of a site that make accepts has reached the state s, this call with this answer carries it on to t
abbrev pub KeepsLaw : {V : Type 0} → (V → Bool) → State V → Call V → Answer V → State V → Type 0
KeepsLaw {V} lawful s c a t = (m : Setup V) (es : History V) → make_refusal lawful m ≡ None → Reached lawful m es s → CarriedOn lawful m es c a t
