-- What one pass over the mail leaves in its places.
use Rattle.std.specs.Prelude.{ℕ, Bool, cond, List, map, take, None}
use Rattle.std.specs.List.{remove}
use Rattle.protocol.specs.Heads.{holds_of}
use Rattle.protocol.specs.Items.{Item}
use Rattle.tables.specs.declared.head.Head.{Head}
use Rattle.tables.specs.declared.mail.MailPlace.{MailPlace}
use Rattle.tables.specs.MailPlaces.{item_of, items_of, addressed}

-- the place when its item is gone
abbrev pub without_item : {V : Type 0} → MailPlace V → MailPlace V
without_item p = record { kind = None; sender = p.sender; receiver = p.receiver; sent = p.sent; copy = p.copy }

-- the place when an item that passes is gone
abbrev pub cleared : {V : Type 0} → (Item V → Bool) → MailPlace V → MailPlace V
cleared t p = cond (holds_of t (item_of p)) (without_item p) p

-- the items to the receivers for which there is an empty place
abbrev pub sent : {V : Type 0} → ℕ → MailPlace V → List ℕ → List (Item V)
sent places item names = items_of (map (addressed item) (take places names))

-- the names of all heads but the one in this place
abbrev pub names_but : {V : Type 0} → ℕ → List (Head V) → List ℕ
names_but i hs = remove (map (λ h. h.name) hs) i
