-- The mail by its counts: how many items, and for each name of a head how many REPLY items to it.
use Rattle.std.specs.Prelude.{◌≡◌, ℕ, List, length, Some, None, Ok, Err, filter, Option, Result, slice_index}
use Rattle.protocol.specs.declared.refusal.Refusal.{Refusal}
use Rattle.protocol.specs.declared.refusal.Refusal.TheVariants.{NoRoom}
use Rattle.protocol.specs.Heads.{is_named, holds_of}
use Rattle.protocol.specs.Items.{Item, is_due, is_reply_to}
use Rattle.tables.specs.declared.head.Head.{Head}
use Rattle.tables.specs.declared.mail.MailPlace.{MailPlace}
use Rattle.tables.specs.FirstPlaces.{place_of}
use Rattle.tables.specs.HeadPlaces.{head_of}
use Rattle.tables.specs.MailPlaces.{item_of, items_of}
use Rattle.room.specs.declared.forecast.Forecast.{Forecast}

-- how many REPLY items to this name
abbrev pub replies_to : {V : Type 0} → List (Item V) → ℕ → ℕ
replies_to items x = length (filter (is_reply_to x) items)

-- the place of the first head with this name
abbrev pub place_named : {V : Type 0} → ℕ → List (Head V) → Option ℕ
place_named x heads = place_of (λ h. is_named x (head_of h)) heads

-- the place of the first item that is due
abbrev pub place_due : {V : Type 0} → ℕ → ℕ → List (MailPlace V) → Option ℕ
place_due delay time mail = place_of (λ p. holds_of (is_due delay time) (item_of p)) mail

-- the counts are those of the items
pub record Counted {V : Type 0} (heads : List (Head V)) (items : List (Item V)) (n : ℕ) (replies : List ℕ) : Type 0 where
  pub all : n ≡ length items
  pub each : (x k : ℕ) → place_named x heads ≡ Some k → slice_index replies k ≡ replies_to items x

-- the forecast is that of these items in so many places, for these heads
pub record Foresees {V : Type 0} (heads : List (Head V)) (places : ℕ) (items : List (Item V)) (f : Forecast V) : Type 0 where
  pub lent : f.heads.now ≡ heads
  pub size : f.places ≡ places
  pub counted : Counted heads items f.items f.replies

-- the place of the first item that is due, or else the forecast of the mail
abbrev pub Surveyed : {V : Type 0} → List (Head V) → List (MailPlace V) → ℕ → ℕ → Result (Forecast V) ℕ → Type 0
Surveyed heads mail delay time (Ok f) = (place_due delay time mail ≡ None) × Foresees heads (length mail) (items_of mail) f
Surveyed heads mail delay time (Err i) = place_due delay time mail ≡ Some i

-- the forecast of the mail that a turn made; refused where an item found no place
abbrev pub Followed : {V : Type 0} → List (Head V) → ℕ → Option (List (Item V)) → Result (Unit {0}) Refusal → Forecast V → Type 0
Followed heads places None r f = r ≡ Err NoRoom
Followed heads places (Some items) r f = (r ≡ Ok tt) × Foresees heads places items f
