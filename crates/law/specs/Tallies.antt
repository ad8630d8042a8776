-- The tally of a run: what an observer knows who sees each call with its answer, and nothing of heads, mail or log.
use Rattle.std.specs.Prelude.{ℕ, zero, suc, ◌+◌, Bool, cond, not, List, [], ◌∷◌, ◌++◌, ℤ, is_some, Some, None, filter, Option, ◌==◌}
use Rattle.protocol.specs.declared.call.Call.{Call}
use Rattle.protocol.specs.declared.call.Call.TheVariants.{Swap, Read, Write, Bring, Tick, Look}
use Rattle.protocol.specs.declared.answer.Answer.{Answer}
use Rattle.protocol.specs.Answers.{refusal_told, new_name, value_read}
use Rattle.protocol.specs.Make.{Setup}

-- a call with its answer
pub record Event (V : Type 0) : Type 0 where
  pub call : Call V
  pub answer : Answer V

-- the calls of a run with their answers, the latest first
abbrev pub History : Type 0 → Type 0
History V = List (Event V)

-- a name that is present; a head that came with the site has no swap tick
pub record Presence : Type 0 where
  pub name : ℕ
  pub swap_tick : Option ℕ

pub record Writing (V : Type 0) : Type 0 where
  pub writer : ℕ
  pub value : V
  pub begin : ℕ

-- a read that was answered, with the last finished value and the value under way as they stood at that read
pub record Row (V : Type 0) : Type 0 where
  pub tick : ℕ
  pub name : ℕ
  pub stamp : ℤ
  pub value : V
  pub finished : V
  pub under_way : Option V

-- finished: the value of the last finished write; the starting value counts as finished
pub record Tally (V : Type 0) : Type 0 where
  pub time : ℕ
  pub present : List Presence
  pub finished : V
  pub under_way : Option (Writing V)
  pub rows : List (Row V)

-- n names from x on, of heads that came with the site
abbrev pub came_with : ℕ → ℕ → List Presence
came_with x zero = []
came_with x (suc n) = record { name = x; swap_tick = None } ∷ came_with (x + 1) n

abbrev pub tally_at_make : {V : Type 0} → Setup V → Tally V
tally_at_make m = record { time = 0; present = came_with 1 m.size; finished = m.start; under_way = None; rows = [] }

-- a swap takes the name asked for out and puts the answered name in
abbrev pub tally_swap : {V : Type 0} → Tally V → ℕ → Option ℕ → Tally V
tally_swap t x None = t
tally_swap t x (Some y) = record { time = t.time; present = filter (λ p. not (p.name == x)) t.present ++ record { name = y; swap_tick = Some t.time } ∷ []; finished = t.finished; under_way = t.under_way; rows = t.rows }

abbrev pub value_under_way : {V : Type 0} → Option (Writing V) → Option V
value_under_way None = None
value_under_way (Some w) = Some w.value

-- a read adds a row
abbrev pub tally_read : {V : Type 0} → Tally V → ℕ → Option (ℤ × V) → Tally V
tally_read t x None = t
tally_read t x (Some r) = record { time = t.time; present = t.present; finished = t.finished; under_way = t.under_way; rows = t.rows ++ record { tick = t.time; name = x; stamp = r.0; value = r.1; finished = t.finished; under_way = value_under_way t.under_way } ∷ [] }

-- a write puts one under way
abbrev pub tally_write : {V : Type 0} → Tally V → ℕ → V → Tally V
tally_write t x v = record { time = t.time; present = t.present; finished = t.finished; under_way = Some (record { writer = x; value = v; begin = t.time }); rows = t.rows }

-- a write is finished D ticks after its begin
abbrev pub is_finished : {V : Type 0} → ℕ → ℕ → Writing V → Bool
is_finished delay now w = w.begin + delay == now

abbrev pub finished_at : {V : Type 0} → ℕ → ℕ → V → Option (Writing V) → V
finished_at delay now v None = v
finished_at delay now v (Some w) = cond (is_finished delay now w) w.value v

abbrev pub unfinished_at : {V : Type 0} → ℕ → ℕ → Option (Writing V) → Option (Writing V)
unfinished_at delay now None = None
unfinished_at delay now (Some w) = cond (is_finished delay now w) None (Some w)

-- a tick adds 1 to the time, and a write that is due finishes
abbrev pub tally_tick : {V : Type 0} → ℕ → Tally V → Tally V
tally_tick delay t = record { time = t.time + 1; present = t.present; finished = finished_at delay (t.time + 1) t.finished t.under_way; under_way = unfinished_at delay (t.time + 1) t.under_way; rows = t.rows }

-- a refused call, a bring and a look leave the tally as it is
abbrev pub fed : {V : Type 0} → ℕ → Tally V → Call V → Answer V → Tally V
fed delay t (Swap x) a = tally_swap t x (new_name a)
fed delay t (Read x) a = tally_read t x (value_read a)
fed delay t (Write x v) a = cond (is_some (refusal_told a)) t (tally_write t x v)
fed delay t (Bring kind x y) a = t
fed delay t Tick a = cond (is_some (refusal_told a)) t (tally_tick delay t)
fed delay t (Look x) a = t

abbrev pub tally : {V : Type 0} → Setup V → History V → Tally V
tally m [] = tally_at_make m
tally m (e ∷ es) = fed m.delay (tally m es) e.call e.answer
