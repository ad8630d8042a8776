-- What an item makes of the head that receives it and of its place in the mail.
use Rattle.std.specs.Prelude.{◌≡◌, ℕ, Bool, true, false, ◌&&◌, List, [], ◌∷◌, Some, None, Ok, Err, Option, Result, slice_index_or}
use Rattle.protocol.specs.declared.kind.MailKind.{MailKind}
use Rattle.protocol.specs.declared.refusal.Refusal.{Refusal}
use Rattle.protocol.specs.declared.refusal.Refusal.TheVariants.{NoRoom}
use Rattle.protocol.specs.Heads.{Head as Told, is_named, holds_of}
use Rattle.protocol.specs.Items.{Item, kind_of, sender_of, is_inquiry, is_told}
use Rattle.protocol.specs.Bring.{received, holds_too_many, bring_answers}
use Rattle.tables.specs.declared.head.Head.{Head}
use Rattle.tables.specs.declared.mail.MailPlace.{MailPlace}
use Rattle.tables.specs.FirstPlaces.{place_of}
use Rattle.tables.specs.HeadPlaces.{head_of}
use Rattle.tables.specs.MailPlaces.{item_of, items_of}

-- an INQUIRY that would make the head hold a 65th name
abbrev pub overfills : {V : Type 0} → Option (Item V) → Told V → Bool
overfills None h = false
overfills (Some i) h = is_inquiry (kind_of i) && holds_too_many (sender_of i) h

-- what a head is after the item in a place has reached it
abbrev pub received_from : {V : Type 0} → Option (Item V) → Told V → Told V
received_from None h = h
received_from (Some i) h = received i h

-- the head that has received, and the place with what it answers; or a 65th name
abbrev pub Delivers : {V : Type 0} → ℕ → Option (Item V) → Told V → Result (Head V × MailPlace V) Refusal → Type 0
Delivers time i h (Ok (w, q)) = (overfills i h ≡ false) × (head_of w ≡ received_from i h) × (items_of (q ∷ []) ≡ bring_answers time (Some h) i)
Delivers time i h (Err why) = (overfills i h ≡ true) × (why ≡ NoRoom)

-- the places of the receiver and of the item, and what is in them
pub record Delivery {V : Type 0} (heads : List (Head V)) (mail : List (MailPlace V)) (kind : MailKind) (a b i : ℕ) (h : Head V) (k : ℕ) (p : MailPlace V) : Type 0 where
  pub receiver : place_of (λ x. is_named b (head_of x)) heads ≡ Some i
  pub head : h ≡ slice_index_or heads i h
  pub item : place_of (λ x. holds_of (is_told kind a b) (item_of x)) mail ≡ Some k
  pub place : p ≡ slice_index_or mail k p
