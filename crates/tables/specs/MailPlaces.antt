-- What a place of the mail tells: an item, or nothing where it is empty.
use Rattle.std.specs.Prelude.{ℕ, Bool, not, List, [], ◌∷◌, is_some, Some, None, Option}
use Rattle.protocol.specs.declared.kind.MailKind.{MailKind}
use Rattle.protocol.specs.declared.kind.MailKind.TheVariants.{Write, Inquiry, Reply}
use Rattle.protocol.specs.Items.{Item, write, inquiry, reply}
use Rattle.tables.specs.declared.mail.MailPlace.{MailPlace}
use Rattle.records.specs.Copies.{copied}

abbrev pub item_by : {V : Type 0} → Option MailKind → MailPlace V → Option (Item V)
item_by None p = None
item_by (Some Write) p = Some (write p.sender p.receiver p.sent (copied p.copy))
item_by (Some Inquiry) p = Some (inquiry p.sender p.receiver p.sent)
item_by (Some Reply) p = Some (reply p.sender p.receiver p.sent (copied p.copy))

abbrev pub item_of : {V : Type 0} → MailPlace V → Option (Item V)
item_of p = item_by p.kind p

abbrev pub with_item : {V : Type 0} → Option (Item V) → List (Item V) → List (Item V)
with_item None is = is
with_item (Some i) is = i ∷ is

-- the items in the order of their places, empty ones skipped
abbrev pub items_of : {V : Type 0} → List (MailPlace V) → List (Item V)
items_of [] = []
items_of (p ∷ ps) = with_item (item_of p) (items_of ps)

abbrev pub is_empty : {V : Type 0} → MailPlace V → Bool
is_empty p = not (is_some (item_of p))

-- the same item, to this receiver
abbrev pub addressed : {V : Type 0} → MailPlace V → ℕ → MailPlace V
addressed p b = record { kind = p.kind; sender = p.sender; receiver = b; sent = p.sent; copy = p.copy }
