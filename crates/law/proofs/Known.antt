-- What the stamps and the joining of the heads give, in the model's own words.
use Rattle.std.proofs.Common.{◌≡◌, ℕ, suc, ◌+◌, ◌*◌, ◌<◌, ◌≤◌, true, cond, eqb, List, [], ◌∷◌, ◌++◌, map, is_some, Some, None, Option}
use Rattle.protocol.specs.declared.state.HeadState.TheVariants.{Listening, Inquiring, Active}
use Rattle.protocol.specs.declared.call.Call.{Call}
use Rattle.protocol.specs.declared.call.Call.TheVariants.{Swap, Read, Write, Bring, Tick, Look}
use Rattle.protocol.specs.declared.answer.Answer.{Answer}
use Rattle.protocol.specs.Answers.{refusal_told}
use Rattle.protocol.specs.Heads.{Copy, Head}
use Rattle.protocol.specs.Items.{Item, write, reply}
use Rattle.protocol.specs.Sites.{UnderWay, State}
use Rattle.protocol.specs.Make.{Setup}
use Rattle.protocol.specs.Tick.{turn, turned, turn_mail, tick_site}
use Rattle.law.specs.Tallies.{History, Tally, Writing, is_finished, tally}
use Rattle.law.proofs.Coded.{In}

-- how many writes have finished: the stamp of the last finished write
abbrev pub finished_with : {V : Type 0} → ℕ → ℕ → ℕ → Option (Writing V) → ℕ
finished_with delay now F None = F
finished_with delay now F (Some w) = cond (is_finished delay now w) (suc F) F

abbrev pub finished_fed : {V : Type 0} → ℕ → ℕ → Tally V → Call V → Answer V → ℕ
finished_fed delay F t (Swap x) a = F
finished_fed delay F t (Read x) a = F
finished_fed delay F t (Write x v) a = F
finished_fed delay F t (Bring kind x y) a = F
finished_fed delay F t Tick a = cond (is_some (refusal_told a)) F (finished_with delay (t.time + 1) F t.under_way)
finished_fed delay F t (Look x) a = F

abbrev pub finished_writes : {V : Type 0} → Setup V → History V → ℕ
finished_writes m [] = 0
finished_writes m (e ∷ es) = finished_fed m.delay (finished_writes m es) (tally m es) e.call e.answer

-- the same number after a tick of the site, by the site's own record
abbrev pub finished_after : ℕ → ℕ → ℕ → Option UnderWay → ℕ
finished_after delay now F None = F
finished_after delay now F (Some u) = cond (eqb (u.begin + delay) now) (suc F) F

-- the stamp of the newest write
abbrev pub top_stamp : ℕ → Option UnderWay → ℕ
top_stamp F None = F
top_stamp F (Some u) = suc F

-- none, or its stamp is in bounds
abbrev pub Within : {V : Type 0} → ℕ → ℕ → Option (Copy V) → Type 0
Within low high None = Unit {0}
Within low high (Some c) = (low ≤ c.stamp) × (c.stamp ≤ high)

-- nobody is stranded, and nobody listens or inquires for longer than its time
pub data Standing {V : Type 0} (delay time : ℕ) (h : Head V) : Type 0 where
  listens : h.state ≡ Listening → time < h.swap_tick + delay → Standing delay time h
  inquires : h.state ≡ Inquiring → time < h.swap_tick + 3 * delay → Standing delay time h
  acts : h.state ≡ Active → is_some h.copy ≡ true → Standing delay time h

-- F: the stamp of the last finished write
pub record KnownHead {V : Type 0} (m : Setup V) (F : ℕ) (s : State V) (h : Head V) : Type 0 where
  pub came : h.name ≤ m.size → h.state ≡ Active
  pub standing : Standing m.delay s.site.time h
  pub copy : Within F (top_stamp F s.site.under_way) h.copy
  pub best : Within 0 (top_stamp F s.site.under_way) h.best

pub record Known {V : Type 0} (m : Setup V) (F : ℕ) (s : State V) : Type 0 where
  pub heads : (h : Head V) → In h s.heads → KnownHead m F s h
  pub writes : (a b t : ℕ) (o : Option (Copy V)) → In (write a b t o) s.items → s.site.under_way ≡ None → ⊥
  pub replies : (a b t : ℕ) (o : Option (Copy V)) → In (reply a b t o) s.items → Within 0 (top_stamp F s.site.under_way) o

abbrev pub names_of : {V : Type 0} → List (Head V) → List ℕ
names_of heads = map (λ h. h.name) heads

-- a moment inside the tick of s: the heads before have turned, those after have not
abbrev pub turning : {V : Type 0} → State V → List (Head V) → List (Head V) → List (Item V) → State V
turning s before after mail = record { site = tick_site s.site; heads = before ++ after; places = s.places; items = mail; log = s.log }

pub data Moment {V : Type 0} (s : State V) : List (Head V) → List (Head V) → List (Item V) → Type 0 where
  at_first : Moment s [] s.heads s.items
  one_turned : {before after : List (Head V)} {mail mail' : List (Item V)} (h : Head V) → Moment s before (h ∷ after) mail → turn_mail s.places (s.site.time + 1) before h after mail (turn s.site.delay (s.site.time + 1) h) ≡ Some mail' → Moment s (before ++ turned s.site.delay (s.site.time + 1) h ∷ []) after mail'
