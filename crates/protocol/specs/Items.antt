-- The mail: items on their way from a sender to a receiver.
use Rattle.std.specs.Prelude.{ℕ, ◌+◌, Bool, true, false, cond, not, ◌&&◌, ◌||◌, List, ◌++◌, map, length, Some, None, filter, Option, ◌==◌, nat_le}
use Rattle.protocol.specs.declared.kind.MailKind.{MailKind}
use Rattle.protocol.specs.declared.kind.MailKind.TheVariants.{Write, Inquiry, Reply}
use Rattle.protocol.specs.Heads.{Copy, Head}

-- a WRITE and a REPLY carry a copy
pub data Item (V : Type 0) : Type 0 where
  write : (sender receiver sent : ℕ) (copy : Option (Copy V)) → Item V
  inquiry : (sender receiver sent : ℕ) → Item V
  reply : (sender receiver sent : ℕ) (copy : Option (Copy V)) → Item V

abbrev pub kind_of : {V : Type 0} → Item V → MailKind
kind_of (write a b t c) = Write
kind_of (inquiry a b t) = Inquiry
kind_of (reply a b t c) = Reply

abbrev pub sender_of : {V : Type 0} → Item V → ℕ
sender_of (write a b t c) = a
sender_of (inquiry a b t) = a
sender_of (reply a b t c) = a

abbrev pub receiver_of : {V : Type 0} → Item V → ℕ
receiver_of (write a b t c) = b
receiver_of (inquiry a b t) = b
receiver_of (reply a b t c) = b

-- the tick at which it was sent
abbrev pub sent_of : {V : Type 0} → Item V → ℕ
sent_of (write a b t c) = t
sent_of (inquiry a b t) = t
sent_of (reply a b t c) = t

abbrev pub is_write : MailKind → Bool
is_write Write = true
is_write Inquiry = false
is_write Reply = false

abbrev pub is_inquiry : MailKind → Bool
is_inquiry Write = false
is_inquiry Inquiry = true
is_inquiry Reply = false

abbrev pub is_reply : MailKind → Bool
is_reply Write = false
is_reply Inquiry = false
is_reply Reply = true

abbrev pub same_kind : MailKind → MailKind → Bool
same_kind Write k = is_write k
same_kind Inquiry k = is_inquiry k
same_kind Reply k = is_reply k

-- the item that is told by kind, sender and receiver
abbrev pub is_told : {V : Type 0} → MailKind → ℕ → ℕ → Item V → Bool
is_told k a b x = same_kind k (kind_of x) && (sender_of x == a && receiver_of x == b)

-- it has to be brought before the clock moves on from this time
abbrev pub is_due : {V : Type 0} → ℕ → ℕ → Item V → Bool
is_due delay time x = sent_of x + delay == time + 1

-- a REPLY to this name
abbrev pub is_reply_to : {V : Type 0} → ℕ → Item V → Bool
is_reply_to x i = is_reply (kind_of i) && receiver_of i == x

-- mail to this name, or its INQUIRY
abbrev pub goes_with : {V : Type 0} → ℕ → Item V → Bool
goes_with x i = receiver_of i == x || (is_inquiry (kind_of i) && sender_of i == x)

-- the mail without the items that pass
abbrev pub dropping : {V : Type 0} → (Item V → Bool) → List (Item V) → List (Item V)
dropping p items = filter (λ i. not (p i)) items

-- new items are put in the mail; nothing where one of them finds no empty place
abbrev pub put : {V : Type 0} → ℕ → List (Item V) → List (Item V) → Option (List (Item V))
put places items new = cond (nat_le (length items + length new) places) (Some (items ++ new)) None

-- one item to each of these heads
abbrev pub to_each : {V : Type 0} → (ℕ → Item V) → List (Head V) → List (Item V)
to_each item heads = map (λ h. item h.name) heads
