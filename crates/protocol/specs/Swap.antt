-- Swap: a newcomer takes the place of a head.
use Rattle.std.specs.Prelude.{ℕ, ◌+◌, Bool, not, List, [], ◌∷◌, map, None, Option, nat_eq, nat_le, nat_lt}
use Rattle.protocol.specs.declared.state.HeadState.TheVariants.{Listening}
use Rattle.protocol.specs.declared.refusal.Refusal.{Refusal}
use Rattle.protocol.specs.declared.refusal.Refusal.TheVariants.{ForeignTables, NoSuchHead, WritingHead, SwapLimit, NamesUsedUp}
use Rattle.protocol.specs.Numbers.{last_number}
use Rattle.protocol.specs.Places.{change_first}
use Rattle.protocol.specs.Heads.{Head, is_named, present, holds_of, forgetting}
use Rattle.protocol.specs.Items.{goes_with, dropping}
use Rattle.protocol.specs.Sites.{Site, State, foreign, refused_by}

-- the write under way is that of this head
abbrev pub writing : ℕ → Site → Bool
writing x site = holds_of (λ u. nat_eq u.writer x) site.under_way

abbrev pub swap_checks : {V : Type 0} → State V → ℕ → List (Bool × Refusal)
swap_checks s x =
    (foreign s, ForeignTables)
    ∷ ((not (present x s.heads), NoSuchHead)
    ∷ ((writing x s.site, WritingHead)
    ∷ ((nat_le s.site.swap_limit s.site.swaps, SwapLimit)
    ∷ ((nat_lt last_number s.site.next_name, NamesUsedUp)
    ∷ []))))

abbrev pub swap_refusal : {V : Type 0} → State V → ℕ → Option Refusal
swap_refusal s x = refused_by (swap_checks s x) None

-- free: what its place holds for the inquiry tick that it lacks
abbrev pub newcomer : {V : Type 0} → ℕ → ℕ → ℕ → Head V
newcomer x tick free = record { name = x; state = Listening; copy = None; swap_tick = tick; inquiry_tick = free; best = None; held = [] }

abbrev pub swap_site : Site → Site
swap_site t = record { size = t.size; delay = t.delay; swap_limit = t.swap_limit; time = t.time; swaps = t.swaps + 1; next_name = t.next_name + 1; under_way = t.under_way }

-- mail to the head, its inquiries and its name wherever it is held go too
abbrev pub swap_leaves : {V : Type 0} → State V → ℕ → ℕ → State V
swap_leaves s x free =
    record {
      site = swap_site s.site;
      heads = change_first (is_named x) (λ _. newcomer s.site.next_name s.site.time free) (map (forgetting x) s.heads);
      places = s.places;
      items = dropping (goes_with x) s.items;
      log = s.log;
    }
