-- What a place of a head tells: the head. What the head lacks is not spoken of.
use Rattle.std.specs.Prelude.{ℕ, Bool, List, map}
use Rattle.protocol.specs.Heads.{Head as Told}
use Rattle.protocol.specs.Make.{Lacking}
use Rattle.records.specs.Copies.{copied}
use Rattle.records.specs.NameLists.{names_of, has_room as room_for}
use Rattle.tables.specs.declared.head.Head.{Head}

-- the names that are held
abbrev pub held_of : {V : Type 0} → Head V → List ℕ
held_of h = names_of h.held

abbrev pub head_of : {V : Type 0} → Head V → Told V
head_of h =
    record {
      name = h.name;
      state = h.state;
      copy = copied h.copy;
      swap_tick = h.swap_tick;
      inquiry_tick = h.inquiry_tick;
      best = copied h.best;
      held = held_of h;
    }

abbrev pub heads_of : {V : Type 0} → List (Head V) → List (Told V)
heads_of hs = map head_of hs

-- the head holds the name already, or fewer than 64
abbrev pub has_room : {V : Type 0} → ℕ → Told V → Bool
has_room x h = room_for x h.held

-- what the place of a head that comes with the site keeps for the ticks that it lacks
abbrev pub lacking : {V : Type 0} → Told V → Lacking
lacking h = record { swap_tick = h.swap_tick; inquiry_tick = h.inquiry_tick }
