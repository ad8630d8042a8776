-- Make: a site of heads 1 to n, all active with the starting value.
use Rattle.std.specs.Prelude.{◌≡◌, ℕ, ◌+◌, ◌*◌, Bool, not, ◌||◌, List, [], ◌∷◌, length, Some, None, Option, ◌==◌, nat_le, nat_lt}
use Rattle.logs.specs.Meanings.{Meaning}
use Rattle.protocol.specs.declared.state.HeadState.TheVariants.{Active}
use Rattle.protocol.specs.declared.refusal.Refusal.{Refusal}
use Rattle.protocol.specs.declared.refusal.Refusal.TheVariants.{HeadCount, DelayLimit, ChurnLimit, MailPlaces, StartUnlawful}
use Rattle.protocol.specs.Heads.{Head}
use Rattle.protocol.specs.Sites.{Site, State, refused_by}

-- what a site is made with: size is the number of head places; the log may hold entries already
pub record Setup (V : Type 0) : Type 0 where
  pub size : ℕ
  pub places : ℕ
  pub delay : ℕ
  pub swap_limit : ℕ
  pub start : V
  pub log : Meaning V

abbrev pub make_checks : {V : Type 0} → (V → Bool) → Setup V → List (Bool × Refusal)
make_checks lawful m =
    (m.size == 0 || nat_lt 64 m.size, HeadCount)
    ∷ ((m.delay == 0 || nat_lt 16 m.delay, DelayLimit)
    ∷ ((nat_le m.size (3 * m.delay * m.swap_limit), ChurnLimit)
    ∷ ((nat_lt m.places (m.size * m.size), MailPlaces)
    ∷ ((not (lawful m.start), StartUnlawful)
    ∷ []))))

abbrev pub make_refusal : {V : Type 0} → (V → Bool) → Setup V → Option Refusal
make_refusal lawful m = refused_by (make_checks lawful m) None

-- what the place of a head that came with the site holds for the ticks that it lacks
pub record Lacking : Type 0 where
  pub swap_tick : ℕ
  pub inquiry_tick : ℕ

abbrev pub original : {V : Type 0} → V → ℕ → Lacking → Head V
original start x free = record { name = x; state = Active; copy = Some (record { stamp = 0; value = start }); swap_tick = free.swap_tick; inquiry_tick = free.inquiry_tick; best = None; held = [] }

-- the heads that come with the site, named from x on
abbrev pub originals : {V : Type 0} → V → ℕ → List Lacking → List (Head V)
originals start x [] = []
originals start x (free ∷ rest) = original start x free ∷ originals start (x + 1) rest

abbrev pub make_site : {V : Type 0} → Setup V → Site
make_site m = record { size = m.size; delay = m.delay; swap_limit = m.swap_limit; time = 0; swaps = 0; next_name = m.size + 1; under_way = None }

abbrev pub make_leaves : {V : Type 0} → Setup V → List Lacking → State V
make_leaves m free = record { site = make_site m; heads = originals m.start 1 free; places = m.places; items = []; log = m.log }

-- the state is one that make leaves
pub record Made {V : Type 0} (m : Setup V) (s : State V) : Type 0 where
  pub free : List Lacking
  pub all : length free ≡ m.size
  pub left : s ≡ make_leaves m free
