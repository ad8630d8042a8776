-- The state of a site: its numbers, the tables lent to it, and what its log means.
use Rattle.std.specs.Prelude.{ℕ, ◌*◌, Bool, not, ◌||◌, List, length, ◌==◌, nat_lt}
use Rattle.logs.specs.Meanings.{Meaning}
use Rattle.protocol.specs.Sites.{Site, State}
use Rattle.tables.specs.declared.head.Head.{Head}
use Rattle.tables.specs.declared.mail.MailPlace.{MailPlace}
use Rattle.tables.specs.HeadPlaces.{heads_of}
use Rattle.tables.specs.MailPlaces.{items_of}

abbrev pub lent : {V : Type 0} → Site → List (Head V) → List (MailPlace V) → Meaning V → State V
lent site heads mail log = record { site = site; heads = heads_of heads; places = length mail; items = items_of mail; log = log }

-- tables of so many places are not those of a site of this size
abbrev pub foreign_lent : ℕ → ℕ → ℕ → Bool
foreign_lent size heads mail = not (heads == size) || nat_lt mail (size * size)
