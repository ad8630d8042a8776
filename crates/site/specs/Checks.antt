-- What a call finds out before it alters anything. Its first checks do not ask the log.
use Rattle.std.specs.Prelude.{◌≡◌, ℕ, ◌≤◌, List, [], ◌∷◌, length, take, Some, None, Ok, Err, Option, Result, slice_index_or}
use Rattle.logs.specs.Meanings.{Meaning}
use Rattle.protocol.specs.declared.kind.MailKind.{MailKind}
use Rattle.protocol.specs.declared.refusal.Refusal.{Refusal}
use Rattle.protocol.specs.declared.refusal.Refusal.TheVariants.{ForeignTables}
use Rattle.protocol.specs.Bring.{bring_checks}
use Rattle.protocol.specs.Heads.{is_named}
use Rattle.protocol.specs.Look.{look_refusal}
use Rattle.protocol.specs.Sites.{refused_by}
use Rattle.protocol.specs.Swap.{swap_site}
use Rattle.protocol.specs.Tick.{tick_refusal, tick_site}
use Rattle.tables.specs.declared.head.Head.{Head}
use Rattle.tables.specs.declared.mail.MailPlace.{MailPlace}
use Rattle.tables.specs.FirstPlaces.{place_of}
use Rattle.tables.specs.HeadPlaces.{head_of}
use Rattle.acts.specs.Delivering.{Delivery}
use Rattle.acts.specs.Lent.{foreign_lent}
use Rattle.acts.specs.Swapping.{limit_checks}
use Rattle.site.specs.declared.site.Site.{Site}
use Rattle.site.specs.States.{site_of, state_of}

abbrev pub no_log : {V : Type 0} → Meaning V
no_log = record { entries = []; free = 0 }

-- tables of so many places are not those of the site
abbrev pub tables_refusal : Site → ℕ → ℕ → Option Refusal
tables_refusal s heads mail = refused_by ((foreign_lent s.size heads mail, ForeignTables) ∷ []) None

-- 6 and 11
abbrev pub head_refusal : {V : Type 0} → Site → List (Head V) → List (MailPlace V) → ℕ → Option Refusal
head_refusal s heads mail x = look_refusal (state_of s heads mail no_log) x

-- the first place with this name and the head in it, or why there is none
abbrev pub FindsHead : {V : Type 0} → Site → List (Head V) → List (MailPlace V) → ℕ → Result (ℕ × Head V) Refusal → Type 0
FindsHead s heads mail x (Ok (i, h)) = (head_refusal s heads mail x ≡ None) × (place_of (λ k. is_named x (head_of k)) heads ≡ Some i) × (h ≡ slice_index_or heads i h)
FindsHead s heads mail x (Err why) = head_refusal s heads mail x ≡ Some why

-- 6 and 21
abbrev pub item_refusal : {V : Type 0} → Site → List (Head V) → List (MailPlace V) → MailKind → ℕ → ℕ → Option Refusal
item_refusal s heads mail kind a b = refused_by (take 2 (bring_checks (state_of s heads mail no_log) kind a b)) None

-- the places of the receiver and of the item, and what is in them; or why there are none
abbrev pub FindsItem : {V : Type 0} → Site → List (Head V) → List (MailPlace V) → MailKind → ℕ → ℕ → Result (ℕ × Head V × ℕ × MailPlace V) Refusal → Type 0
FindsItem s heads mail kind a b (Ok (i, h, k, p)) = (item_refusal s heads mail kind a b ≡ None) × Delivery heads mail kind a b i h k p
FindsItem s heads mail kind a b (Err why) = item_refusal s heads mail kind a b ≡ Some why

-- the site after a swap, or why there is none
abbrev pub AfterSwap : Site → ℕ → Result Site Refusal → Type 0
AfterSwap s x (Ok t) = (refused_by (limit_checks (site_of s) x) None ≡ None) × (site_of t ≡ swap_site (site_of s))
AfterSwap s x (Err why) = refused_by (limit_checks (site_of s) x) None ≡ Some why

-- the site after a tick, or why the clock does not move on
abbrev pub AfterTick : {V : Type 0} → Site → List (Head V) → List (MailPlace V) → Result Site Refusal → Type 0
AfterTick s heads mail (Ok t) = (tick_refusal (state_of s heads mail no_log) ≡ None) × (site_of t ≡ tick_site (site_of s)) × (length heads ≤ 64)
AfterTick s heads mail (Err why) = tick_refusal (state_of s heads mail no_log) ≡ Some why
