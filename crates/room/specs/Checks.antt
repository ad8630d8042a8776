-- What refuses a tick of the tables that are lent, in its order.
use Rattle.std.specs.Prelude.{ℕ, ◌+◌, Bool, not, List, [], ◌∷◌, length, is_some, nat_le, nat_lt}
use Rattle.protocol.specs.declared.refusal.Refusal.{Refusal}
use Rattle.protocol.specs.declared.refusal.Refusal.TheVariants.{ForeignTables, LastTick, MailDue, NoRoom}
use Rattle.protocol.specs.Numbers.{last_tick}
use Rattle.protocol.specs.Places.{first}
use Rattle.protocol.specs.Items.{is_due}
use Rattle.protocol.specs.Tick.{turns_mail}
use Rattle.tables.specs.declared.head.Head.{Head}
use Rattle.tables.specs.declared.mail.MailPlace.{MailPlace}
use Rattle.tables.specs.HeadPlaces.{heads_of}
use Rattle.tables.specs.MailPlaces.{items_of}

-- an item has to be brought before the clock moves on
abbrev pub mail_due : {V : Type 0} → List (MailPlace V) → ℕ → ℕ → Bool
mail_due mail delay time = is_some (first (is_due delay time) (items_of mail))

-- every item finds its place in the turns
abbrev pub finds_room : {V : Type 0} → List (Head V) → List (MailPlace V) → ℕ → ℕ → Bool
finds_room heads mail delay time = is_some (turns_mail (length mail) delay (time + 1) [] (heads_of heads) (items_of mail))

-- those of a tick; of foreign tables only that there are more heads than any site has
abbrev pub checks : {V : Type 0} → List (Head V) → List (MailPlace V) → ℕ → ℕ → List (Bool × Refusal)
checks heads mail delay time =
    (nat_lt 64 (length heads), ForeignTables)
    ∷ ((nat_le last_tick time, LastTick)
    ∷ ((mail_due mail delay time, MailDue)
    ∷ ((not (finds_room heads mail delay time), NoRoom)
    ∷ [])))
