-- A site by its stamps alone, coded in numbers, so that linear arithmetic sees everything.
use Rattle.std.proofs.Common.{◌≡◌, ℕ, suc, ◌+◌, ◌*◌, ◌<◌, max, Bool, true, false, cond, not, ◌&&◌, ◌||◌, eqb, List, [], ◌∷◌, ◌++◌, map, filter}

pub data In {X : Type 0} (x : X) : List X → Type 0 where
  here : {y : X} {ys : List X} → y ≡ x → In x (y ∷ ys)
  there : {y : X} {ys : List X} → In x ys → In x (y ∷ ys)

pub data Phase : Type 0 where
  listening inquiring active stranded : Phase

abbrev pub isAsking : Phase → Bool
isAsking listening = false
isAsking inquiring = true
isAsking active = false
isAsking stranded = false

-- born: one more than the tick of its swap, 0 for an original head; copy and best: 0 for none, else the stamp and 1 more
pub record Head : Type 0 where
  pub name : ℕ
  pub phase : Phase
  pub born : ℕ
  pub copy : ℕ
  pub best : ℕ
  pub held : List ℕ

pub data Item : Type 0 where
  write : (stamp from to sent : ℕ) → Item
  inquiry : (from to sent : ℕ) → Item
  reply : (stamp from to sent : ℕ) → Item

abbrev pub sentAt : Item → ℕ
sentAt (write v a b t) = t
sentAt (inquiry a b t) = t
sentAt (reply v a b t) = t

-- fin: the last finished stamp; a write is under way while fin < top, by writer since begin
pub record Site : Type 0 where
  pub heads : List Head
  pub mail : List Item
  pub time : ℕ
  pub swaps : ℕ
  pub fin : ℕ
  pub top : ℕ
  pub writer : ℕ
  pub begin : ℕ
  pub next : ℕ

-- h' in the place of the head with the name r
abbrev pub put : ℕ → Head → Head → Head
put r h' g = cond (eqb g.name r) h' g

abbrev pub forget : ℕ → Head → Head
forget r h = record { name = h.name; phase = h.phase; born = h.born; copy = h.copy; best = h.best; held = filter (λ x. not (eqb x r)) h.held }

abbrev pub fresh : ℕ → ℕ → Head
fresh m t = record { name = m; phase = listening; born = suc t; copy = 0; best = 0; held = [] }

abbrev pub recopied : ℕ → Head → Head
recopied c h = record { name = h.name; phase = h.phase; born = h.born; copy = c; best = h.best; held = h.held }

abbrev pub noted : ℕ → Head → Head
noted v h = record { name = h.name; phase = h.phase; born = h.born; copy = h.copy; best = max h.best v; held = h.held }

-- it holds these names
abbrev pub with_held : List ℕ → Head → Head
with_held ks h = record { name = h.name; phase = h.phase; born = h.born; copy = h.copy; best = h.best; held = ks }

abbrev pub asking : Head → Head
asking h = record { name = h.name; phase = inquiring; born = h.born; copy = h.copy; best = h.best; held = h.held }

abbrev pub acting : ℕ → Head → Head
acting c h = record { name = h.name; phase = active; born = h.born; copy = c; best = h.best; held = [] }

abbrev pub lost : Head → Head
lost h = record { name = h.name; phase = stranded; born = h.born; copy = h.copy; best = h.best; held = h.held }

-- what a swap of r leaves in the mail
abbrev pub outlives : ℕ → Item → Bool
outlives r (write v a b t) = not (eqb b r)
outlives r (inquiry a b t) = not (eqb a r) && not (eqb b r)
outlives r (reply v a b t) = not (eqb b r)

-- what is left when r turns
abbrev pub wanted : ℕ → Item → Bool
wanted r (write v a b t) = true
wanted r (inquiry a b t) = true
wanted r (reply v a b t) = not (eqb b r)

abbrev pub others : ℕ → List Head → List Head
others r hs = filter (λ g. not (eqb g.name r)) hs

abbrev pub isInquiring : List Head → ℕ → Bool
isInquiring [] x = false
isInquiring (g ∷ gs) x = (eqb g.name x && isAsking g.phase) || isInquiring gs x

-- what h sends when it turns active with the copy c at t
abbrev pub answers : List Head → Head → ℕ → ℕ → List Item
answers hs h c t = map (λ x. reply c h.name x t) (filter (isInquiring hs) h.held)

-- the site with other heads and another mail
abbrev pub with_mail : Site → List Head → List Item → Site
with_mail s hs m = record { heads = hs; mail = m; time = s.time; swaps = s.swaps; fin = s.fin; top = s.top; writer = s.writer; begin = s.begin; next = s.next }

-- the head h turns, if it is due
pub data Turn (D : ℕ) (s : Site) (h : Head) : Site → Type 0 where
  waits : (h.phase ≡ listening → h.born + D ≡ suc s.time → ⊥) → (h.phase ≡ inquiring → h.born + 3 * D ≡ suc s.time → ⊥) → Turn D s h s
  wakes : h.phase ≡ listening → h.born + D ≡ suc s.time → 0 < h.copy → Turn D s h (with_mail s (map (put h.name (acting h.copy h)) s.heads) (filter (wanted h.name) s.mail ++ answers (map (put h.name (acting h.copy h)) s.heads) h h.copy s.time))
  asks : h.phase ≡ listening → h.born + D ≡ suc s.time → h.copy ≡ 0 → Turn D s h (with_mail s (map (put h.name (asking h)) s.heads) (s.mail ++ map (λ g. inquiry h.name g.name s.time) (others h.name s.heads)))
  ends : h.phase ≡ inquiring → h.born + 3 * D ≡ suc s.time → 0 < max h.copy h.best → Turn D s h (with_mail s (map (put h.name (acting (max h.copy h.best) h)) s.heads) (filter (wanted h.name) s.mail ++ answers (map (put h.name (acting (max h.copy h.best) h)) s.heads) h (max h.copy h.best) s.time))
  strands : h.phase ≡ inquiring → h.born + 3 * D ≡ suc s.time → max h.copy h.best ≡ 0 → Turn D s h (with_mail s (map (put h.name (lost h)) s.heads) (filter (wanted h.name) s.mail))

abbrev pub clock : ℕ → Site → Site
clock D s = record { heads = s.heads; mail = s.mail; time = suc s.time; swaps = 0; fin = cond (eqb (s.begin + D) (suc s.time)) s.top s.fin; top = s.top; writer = s.writer; begin = s.begin; next = s.next }

abbrev pub names : List Head → List ℕ
names hs = map (λ h. h.name) hs
