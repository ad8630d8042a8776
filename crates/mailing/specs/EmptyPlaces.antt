-- The empty places of the mail, and what is put into them.
use Rattle.std.specs.Prelude.{ℕ, ◌+◌, cond, List, [], ◌∷◌, slice_set}
use Rattle.tables.specs.declared.mail.MailPlace.{MailPlace}
use Rattle.tables.specs.MailPlaces.{is_empty, addressed}

-- the places are counted from i on
abbrev pub empties_from : {V : Type 0} → ℕ → List (MailPlace V) → List ℕ
empties_from i [] = []
empties_from i (p ∷ ps) = cond (is_empty p) (i ∷ empties_from (i + 1) ps) (empties_from (i + 1) ps)

-- each of the places has the item, to one of the names
abbrev pub placed : {V : Type 0} → MailPlace V → List ℕ → List ℕ → List (MailPlace V) → List (MailPlace V)
placed item [] names ps = ps
placed item (i ∷ is) [] ps = ps
placed item (i ∷ is) (b ∷ bs) ps = placed item is bs (slice_set ps i (addressed item b))
