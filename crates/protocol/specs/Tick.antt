-- Tick: the clock moves on. A write that is due finishes, and then the heads turn, in the order of their places.
use Rattle.std.specs.Prelude.{ℕ, ◌+◌, ◌*◌, Bool, true, false, cond, not, List, [], ◌∷◌, ◌++◌, map, length, is_some, Some, None, filter, Option, ◌==◌, nat_le}
use Rattle.std.specs.Option.{unwrap_or}
use Rattle.protocol.specs.declared.state.HeadState.{HeadState}
use Rattle.protocol.specs.declared.state.HeadState.TheVariants.{Listening, Inquiring, Active, Stranded}
use Rattle.protocol.specs.declared.refusal.Refusal.{Refusal}
use Rattle.protocol.specs.declared.refusal.Refusal.TheVariants.{ForeignTables, NoRoom, MailDue, LastTick}
use Rattle.protocol.specs.Numbers.{last_tick}
use Rattle.protocol.specs.Places.{first}
use Rattle.protocol.specs.Heads.{Copy, Head, newer, inquiring_named}
use Rattle.protocol.specs.Items.{Item, inquiry, reply, is_due, is_reply_to, dropping, put, to_each}
use Rattle.protocol.specs.Sites.{UnderWay, Site, State, foreign, refused_by}

-- what a head does in a tick
pub data Turn (V : Type 0) : Type 0 where
  rests : Turn V
  inquires : Turn V
  activates : Copy V → Turn V
  strands : Turn V

abbrev pub activates_or : {V : Type 0} → Turn V → Option (Copy V) → Turn V
activates_or otherwise None = otherwise
activates_or otherwise (Some c) = activates c

-- a listening head turns D ticks after its swap, an inquiring one 2 × D ticks after its inquiry
abbrev pub turn_in : {V : Type 0} → ℕ → ℕ → Head V → HeadState → Turn V
turn_in delay now h Listening = cond (h.swap_tick + delay == now) (activates_or inquires h.copy) rests
turn_in delay now h Inquiring = cond (h.inquiry_tick + 2 * delay == now) (activates_or strands (newer h.copy h.best)) rests
turn_in delay now h Active = rests
turn_in delay now h Stranded = rests

abbrev pub turn : {V : Type 0} → ℕ → ℕ → Head V → Turn V
turn delay now h = turn_in delay now h h.state

-- what the turn makes of the head
abbrev pub turned_by : {V : Type 0} → ℕ → Turn V → Head V → Head V
turned_by now rests h = h
turned_by now inquires h = record { name = h.name; state = Inquiring; copy = h.copy; swap_tick = h.swap_tick; inquiry_tick = now; best = h.best; held = h.held }
turned_by now (activates c) h = record { name = h.name; state = Active; copy = Some c; swap_tick = h.swap_tick; inquiry_tick = h.inquiry_tick; best = h.best; held = [] }
turned_by now strands h = record { name = h.name; state = Stranded; copy = h.copy; swap_tick = h.swap_tick; inquiry_tick = h.inquiry_tick; best = h.best; held = h.held }

abbrev pub turned : {V : Type 0} → ℕ → ℕ → Head V → Head V
turned delay now h = turned_by now (turn delay now h) h

abbrev pub is_activation : {V : Type 0} → Turn V → Bool
is_activation rests = false
is_activation inquires = false
is_activation (activates c) = true
is_activation strands = false

abbrev pub activations : {V : Type 0} → ℕ → ℕ → List (Head V) → ℕ
activations delay now heads = length (filter (λ h. is_activation (turn delay now h)) heads)

-- what the turn of h makes of the mail: an INQUIRY to every other head; or the REPLY items to h are dropped, and then h replies to each name that it holds whose head is present and inquiring.
-- The heads before h have turned, those after it have not
abbrev pub turn_mail : {V : Type 0} → ℕ → ℕ → List (Head V) → Head V → List (Head V) → List (Item V) → Turn V → Option (List (Item V))
turn_mail places now before h after items rests = Some items
turn_mail places now before h after items inquires = put places items (to_each (λ b. inquiry h.name b now) (before ++ after))
turn_mail places now before h after items (activates c) =
    put places (dropping (is_reply_to h.name) items)
    (map (λ x. reply h.name x now (Some c)) (filter (λ x. inquiring_named x (before ++ turned_by now (activates c) h ∷ after)) h.held))
turn_mail places now before h after items strands = Some (dropping (is_reply_to h.name) items)

abbrev pub then_do : {X Y : Type 0} → Option X → (X → Option Y) → Option Y
then_do None f = None
then_do (Some x) f = f x

-- the mail after the turns of the heads that are left
abbrev pub turns_mail : {V : Type 0} → ℕ → ℕ → ℕ → List (Head V) → List (Head V) → List (Item V) → Option (List (Item V))
turns_mail places delay now before [] items = Some items
turns_mail places delay now before (h ∷ after) items =
    then_do (turn_mail places now before h after items (turn delay now h))
    (λ mail. turns_mail places delay now (before ++ turned delay now h ∷ []) after mail)

abbrev pub tick_mail : {V : Type 0} → State V → Option (List (Item V))
tick_mail s = turns_mail s.places s.site.delay (s.site.time + 1) [] s.heads s.items

abbrev pub tick_checks : {V : Type 0} → State V → List (Bool × Refusal)
tick_checks s =
    (foreign s, ForeignTables)
    ∷ ((nat_le last_tick s.site.time, LastTick)
    ∷ ((is_some (first (is_due s.site.delay s.site.time) s.items), MailDue)
    ∷ ((not (is_some (tick_mail s)), NoRoom)
    ∷ [])))

abbrev pub tick_refusal : {V : Type 0} → State V → Option Refusal
tick_refusal s = refused_by (tick_checks s) None

-- the write under way is finished D ticks after its begin
abbrev pub still_under_way : ℕ → ℕ → Option UnderWay → Option UnderWay
still_under_way delay now None = None
still_under_way delay now (Some u) = cond (u.begin + delay == now) None (Some u)

abbrev pub tick_site : Site → Site
tick_site t = record { size = t.size; delay = t.delay; swap_limit = t.swap_limit; time = t.time + 1; swaps = 0; next_name = t.next_name; under_way = still_under_way t.delay (t.time + 1) t.under_way }

abbrev pub tick_leaves : {V : Type 0} → State V → State V
tick_leaves s =
    record {
      site = tick_site s.site;
      heads = map (turned s.site.delay (s.site.time + 1)) s.heads;
      places = s.places;
      items = unwrap_or (tick_mail s) s.items;
      log = s.log;
    }
