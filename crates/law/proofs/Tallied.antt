-- What the tally knows is so: the time, who is present since when, and the write under way.
use Rattle.std.proofs.Common.{◌≡◌, ℕ, zero, suc, ◌+◌, ◌<◌, Bool, true, false, cond, not, eqb, leb, ◌⊎◌, List, [], ◌∷◌, ◌++◌, map, length, is_some, Some, None, filter, Option, sym, refl, ap, ◌∙◌, subst, ap₂, inl, inr, arith}
use Rattle.std.proofs.lemmas.Bool.{false≢true}
use Rattle.std.proofs.lemmas.Bool.Decides.{nat_tests}
use Rattle.protocol.specs.declared.call.Call.{Call}
use Rattle.protocol.specs.declared.call.Call.TheVariants.{Swap, Read, Write, Bring, Tick, Look}
use Rattle.protocol.specs.declared.answer.Answer.{Answer}
use Rattle.protocol.specs.Answers.{value_read}
use Rattle.protocol.specs.Places.{first, change_first}
use Rattle.protocol.specs.Heads.{Copy, Head, is_named, is_active, copy_named, with_copy, holding, forgetting}
use Rattle.protocol.specs.Items as mail
use Rattle.protocol.specs.Items.{Item}
use Rattle.protocol.specs.Sites.{UnderWay, Site, State}
use Rattle.protocol.specs.Make.{Setup, Lacking, originals}
use Rattle.protocol.specs.Swap.{swap_checks, newcomer}
use Rattle.protocol.specs.Write.{new_copy}
use Rattle.protocol.specs.Bring.{received, bring_heads}
use Rattle.protocol.specs.Tick.{Turn, rests, inquires, activates, strands, turn, turned_by, turned, still_under_way}
use Rattle.protocol.specs.Steps.{refusal, answer, read_answer, leaves, Step, refused, accepted}
use Rattle.law.specs.Tallies.{History, Presence, Writing, Tally, came_with, unfinished_at, tally_read, fed, tally}
use Rattle.law.specs.Runs.{Reached, made, then}
use Rattle.law.proofs.Originals.{originals_each}
use Rattle.law.proofs.Coded.{In, here, there}
use Rattle.law.proofs.Base.{in_either, in_more, in_less, in_mid, kept_in, map_in}
use Rattle.law.proofs.Checks.{passed}
use Rattle.law.proofs.Firsts.{Found, absent, present, first_is}
use Rattle.law.proofs.Faithful.{fed_refused}

-- a head's name and swap tick, which no call but its swap alters
abbrev pub tag : {V : Type 0} → Head V → ℕ × ℕ
tag h = (h.name, h.swap_tick)

-- what the tally has for the swap tick: none of the first n names
abbrev pub tick_of : ℕ → ℕ × ℕ → Option ℕ
tick_of n g = cond (leb g.0 n) None (Some g.1)

abbrev named_by : ℕ → ℕ × ℕ → Bool
named_by x g = eqb g.0 x

abbrev pub Agree : {V : Type 0} → Option (Writing V) → Option UnderWay → Type 0
Agree None None = Unit {0}
Agree None (Some u) = ⊥
Agree (Some w) None = ⊥
Agree (Some w) (Some u) = (w.writer ≡ u.writer) × (w.begin ≡ u.begin)

-- those present by the tally are heads, with their ticks
pub record Listed (n next : ℕ) (ps : List Presence) (gs : List (ℕ × ℕ)) : Type 0 where
  pub above : n < next
  pub named : (g : ℕ × ℕ) → In g gs → g.0 < next
  pub has : (p : Presence) → In p ps → (g : ℕ × ℕ) × In g gs × (g.0 ≡ p.name)
  pub ticks : (p : Presence) → In p ps → (g : ℕ × ℕ) → In g gs → g.0 ≡ p.name → p.swap_tick ≡ tick_of n g

pub record Tallied {V : Type 0} (m : Setup V) (t : Tally V) (site : Site) (gs : List (ℕ × ℕ)) : Type 0 where
  pub size : site.size ≡ m.size
  pub delay : site.delay ≡ m.delay
  pub time : t.time ≡ site.time
  pub listed : Listed m.size site.next_name t.present gs
  pub agree : Agree t.under_way site.under_way

module _ {V : Type 0} where
  tags_change : (p : Head V → Bool) (f : Head V → Head V) → ((h : Head V) → tag (f h) ≡ tag h) → (hs : List (Head V)) → map tag (change_first p f hs) ≡ map tag hs
  tags_change p f e [] = refl
  tags_change p f e (h ∷ hs) = go (p h) (tags_change p f e hs)
    where
      go : (b : Bool) → map tag (change_first p f hs) ≡ map tag hs → map tag (cond b (f h ∷ hs) (h ∷ change_first p f hs)) ≡ map tag (h ∷ hs)
      go true r = ap (λ g. g ∷ map tag hs) (e h)
      go false r = ap (λ gs. tag h ∷ gs) r

  tag_received : (i : Item V) (h : Head V) → tag (received i h) ≡ tag h
  tag_received (mail.write a b t c) h = refl
  tag_received (mail.inquiry a b t) h = go (is_active h.state)
    where
      go : (b : Bool) → tag (cond b h (holding a h)) ≡ tag h
      go true = refl
      go false = refl
  tag_received (mail.reply a b t c) h = refl

  tags_bring : (b : ℕ) (i : Option (Item V)) (hs : List (Head V)) → map tag (bring_heads b i hs) ≡ map tag hs
  tags_bring b None hs = refl
  tags_bring b (Some i) hs = tags_change (is_named b) (received i) (tag_received i) hs

  tag_turned : (now : ℕ) (u : Turn V) (h : Head V) → tag (turned_by now u h) ≡ tag h
  tag_turned now rests h = refl
  tag_turned now inquires h = refl
  tag_turned now (activates c) h = refl
  tag_turned now strands h = refl

  tags_turned : (D now : ℕ) (hs : List (Head V)) → map tag (map (turned D now) hs) ≡ map tag hs
  tags_turned D now [] = refl
  tags_turned D now (h ∷ hs) = ap₂ (λ g gs. g ∷ gs) (tag_turned now (turn D now h) h) (tags_turned D now hs)

  tags_swap : (x y T free : ℕ) (hs : List (Head V)) → map tag (change_first (is_named x) (λ _. newcomer y T free) (map (forgetting x) hs)) ≡ change_first (named_by x) (λ _. (y, T)) (map tag hs)
  tags_swap x y T free [] = refl
  tags_swap x y T free (h ∷ hs) = go (eqb h.name x) (tags_swap x y T free hs)
    where
      tags_forget : (gs : List (Head V)) → map tag (map (forgetting x) gs) ≡ map tag gs
      tags_forget [] = refl
      tags_forget (g ∷ gs) = ap (λ zs. tag g ∷ zs) (tags_forget gs)

      go : (b : Bool) → map tag (change_first (is_named x) (λ _. newcomer y T free) (map (forgetting x) hs)) ≡ change_first (named_by x) (λ _. (y, T)) (map tag hs) →
          map tag (cond b (newcomer y T free ∷ map (forgetting x) hs) (forgetting x h ∷ change_first (is_named x) (λ _. newcomer y T free) (map (forgetting x) hs)))
          ≡ cond b ((y, T) ∷ map tag hs) (tag h ∷ change_first (named_by x) (λ _. (y, T)) (map tag hs))
      go true r = ap (λ zs. (y, T) ∷ zs) (tags_forget hs)
      go false r = ap (λ zs. tag h ∷ zs) r

  tags_present : (x : ℕ) (hs : List (Head V)) → is_some (first (named_by x) (map tag hs)) ≡ is_some (first (is_named x) hs)
  tags_present x [] = refl
  tags_present x (h ∷ hs) = go (eqb h.name x) (tags_present x hs)
    where
      go : (b : Bool) → is_some (first (named_by x) (map tag hs)) ≡ is_some (first (is_named x) hs) →
          is_some (cond b (Some (tag h)) (first (named_by x) (map tag hs))) ≡ is_some (cond b (Some h) (first (is_named x) hs))
      go true r = refl
      go false r = r

in_one : {X : Type 0} {x y : X} → In x (y ∷ []) → y ≡ x
in_one (here e) = e
in_one (there i) = elim i [ ]

-- a swap of x, at this tick
swap_listed : (n next : ℕ) (ps : List Presence) (gs : List (ℕ × ℕ)) (x T : ℕ) → Listed n next ps gs → is_some (first (named_by x) gs) ≡ true →
    Listed n (next + 1) (filter (λ p. not (eqb p.name x)) ps ++ record { name = next; swap_tick = Some T } ∷ []) (change_first (named_by x) (λ _. (next, T)) gs)
swap_listed n next ps gs x T l e = go (first (named_by x) gs) (first_is (named_by x) gs) e
  where
    new : Presence
    new = record { name = next; swap_tick = Some T }

    stays : (p : Presence) → In p (filter (λ q. not (eqb q.name x)) ps) → In p ps × (p.name ≡ x → ⊥)
    stays p i = let (j, f) = kept_in (λ q. not (eqb q.name x)) ps i in (j, λ z. false≢true (grind (arith, nat_tests)))

    done : (g : ℕ × ℕ) (us vs : List (ℕ × ℕ)) → gs ≡ us ++ g ∷ vs → eqb g.0 x ≡ true →
        Listed n (next + 1) (filter (λ p. not (eqb p.name x)) ps ++ new ∷ []) (us ++ (next, T) ∷ vs)
    done g us vs w f = record { above = omega (arith, l.above); named = below; has = has'; ticks = ticks' }
      where
        old : (z : ℕ × ℕ) → In z (us ++ vs) → In z gs
        old z i = subst (λ zs. In z zs) (sym w) (in_more g us vs i)

        below : (z : ℕ × ℕ) → In z (us ++ (next, T) ∷ vs) → z.0 < next + 1
        below z i = elim (in_less (next, T) us vs i) [
          | inl q ↦ let q₀ : next ≡ z.0 = ap (λ y. y.0) q in omega arith
          | inr j ↦ let k = l.named z (old z j) in omega arith
        ]

        stayed : (p : Presence) (r : (z : ℕ × ℕ) × In z gs × (z.0 ≡ p.name)) → (p.name ≡ x → ⊥) → (z : ℕ × ℕ) × In z (us ++ (next, T) ∷ vs) × (z.0 ≡ p.name)
        stayed p (z, i, q) ne = elim (in_less g us vs (subst (λ zs. In z zs) w i)) [
          | inl r ↦ let r₀ : g.0 ≡ z.0 = ap (λ y. y.0) r in absurd (ne (grind (arith, nat_tests)))
          | inr j ↦ (z, in_more (next, T) us vs j, q)
        ]

        has' : (p : Presence) → In p (filter (λ q. not (eqb q.name x)) ps ++ new ∷ []) → (z : ℕ × ℕ) × In z (us ++ (next, T) ∷ vs) × (z.0 ≡ p.name)
        has' p i = elim (in_either (filter (λ q. not (eqb q.name x)) ps) (new ∷ []) i) [
          | inl j ↦ let (k, ne) = stays p j in stayed p (l.has p k) ne
          | inr j ↦ ((next, T), in_mid (next, T) us vs refl, ap (λ y. y.name) (in_one j))
        ]

        ticks' : (p : Presence) → In p (filter (λ q. not (eqb q.name x)) ps ++ new ∷ []) → (z : ℕ × ℕ) → In z (us ++ (next, T) ∷ vs) → z.0 ≡ p.name → p.swap_tick ≡ tick_of n z
        ticks' p i z j q = cases (in_either (filter (λ r. not (eqb r.name x)) ps) (new ∷ []) i) (in_less (next, T) us vs j)
          where
            cases : In p (filter (λ r. not (eqb r.name x)) ps) ⊎ In p (new ∷ []) → ((next, T) ≡ z) ⊎ In z (us ++ vs) → p.swap_tick ≡ tick_of n z
            cases (inl a) (inl b) =
                let (k, ne) = stays p a in
                let (y, c, d) = l.has p k in
                let low : y.0 < next = l.named y c in
                let b₀ : next ≡ z.0 = ap (λ v. v.0) b in
                absurd (omega arith)
            cases (inl a) (inr b) = l.ticks p (stays p a).0 z (old z b) q
            cases (inr a) (inl b) =
                let e₁ : new ≡ p = in_one a in
                let e₂ : leb next n ≡ false = grind (arith, nat_tests, l.above) in
                sym (ap (λ v. v.swap_tick) e₁) ∙ (sym (ap (λ v. cond v None (Some T)) e₂) ∙ ap (tick_of n) b)
            cases (inr a) (inr b) =
                let e₁ : next ≡ p.name = ap (λ v. v.name) (in_one a) in
                let low : z.0 < next = l.named z (old z b) in
                absurd (omega arith)

    go : (o : Option (ℕ × ℕ)) → Found (named_by x) gs o → is_some o ≡ true → Listed n (next + 1) (filter (λ p. not (eqb p.name x)) ps ++ new ∷ []) (change_first (named_by x) (λ _. (next, T)) gs)
    go None (absent f) z = absurd (false≢true z)
    go (Some _) (present g s) z = rw (s.changed (λ _. (next, T))) (done g s.us s.vs s.whole s.passes)

-- the heads that come with the site
made_below : {V : Type 0} (start : V) (x : ℕ) (free : List Lacking) (g : ℕ × ℕ) → In g (map tag (originals start x free)) → g.0 < x + length free
made_below start x free g i =
    let (h, j, q) = map_in tag (originals start x free) i in
    let l : h.name < x + length free = originals_each start (λ z. z.name < x + length free) x free (λ y _ _ p. p) h j in
    let e : h.name ≡ g.0 = ap (λ v. v.0) q in
    omega arith

made_none : (x n : ℕ) (p : Presence) → In p (came_with x n) → p.swap_tick ≡ None
made_none x zero p i = elim i [ ]
made_none x (suc n) p (here e) = sym (ap (λ v. v.swap_tick) e)
made_none x (suc n) p (there i) = made_none (x + 1) n p i

made_has : {V : Type 0} (start : V) (x n : ℕ) (free : List Lacking) → length free ≡ n → (p : Presence) → In p (came_with x n) → (g : ℕ × ℕ) × In g (map tag (originals start x free)) × (g.0 ≡ p.name)
made_has start x zero free e p i = elim i [ ]
made_has start x (suc n) [] e p i = absurd (omega arith)
made_has start x (suc n) (f ∷ fs) e p (here q) = ((x, f.swap_tick), here refl, ap (λ v. v.name) q)
made_has start x (suc n) (f ∷ fs) e p (there i) = let (g, j, q) = made_has start (x + 1) n fs (omega arith) p i in (g, there j, q)

made_listed : {V : Type 0} (start : V) (n : ℕ) (free : List Lacking) → length free ≡ n → Listed n (n + 1) (came_with 1 n) (map tag (originals start 1 free))
made_listed start n free e = record {
  above = omega arith;
  named = λ g i. let k = made_below start 1 free g i in omega arith;
  has = λ p i. made_has start 1 n free e p i;
  ticks = λ p i g j q.
      let k = made_below start 1 free g j in
      let b : leb g.0 n ≡ true = grind (arith, nat_tests) in
      made_none 1 n p i ∙ sym (ap (λ v. cond v None (Some g.1)) b);
}

module _ {V : Type 0} where
  agree_tick : (D now : ℕ) (w : Option (Writing V)) (u : Option UnderWay) → Agree w u → Agree (unfinished_at D now w) (still_under_way D now u)
  agree_tick D now None None a = tt
  agree_tick D now None (Some u) a = absurd a
  agree_tick D now (Some w) None a = absurd a
  agree_tick D now (Some w) (Some u) (p, q) = subst (λ v. Agree (unfinished_at D now (Some w)) (cond (eqb (v + D) now) None (Some u))) q (go (eqb (w.begin + D) now))
    where
      go : (b : Bool) → Agree (cond b None (Some w)) (cond b None (Some u))
      go true = tt
      go false = (p, q)

  module _ (lawful : V → Bool) (m : Setup V) (t : Tally V) (s s' : State V) (h : Tallied m t s.site (map tag s.heads)) where
    read_tallied : (x : ℕ) (o : Option (Copy V)) → Tallied m (tally_read t x (value_read (read_answer o))) s.site (map tag s.heads)
    read_tallied x None = h
    read_tallied x (Some c) = record { size = h.size; delay = h.delay; time = h.time; listed = h.listed; agree = h.agree }

    leaves_tallied : (free : ℕ) (c : Call V) → refusal lawful s c ≡ None → Tallied m (fed m.delay t c (answer s c)) (leaves s free c).site (map tag (leaves s free c).heads)
    leaves_tallied free (Swap x) e =
        let (_, (known, _)) = (passed (swap_checks s x) None e).checks in
        let p : is_some (first (named_by x) (map tag s.heads)) ≡ true = rw (tags_present x s.heads) (grind (arith, nat_tests)) in
        let l = swap_listed m.size s.site.next_name t.present (map tag s.heads) x t.time h.listed p in
        rw (tags_swap x s.site.next_name s.site.time free s.heads, ← h.time) (record { size = h.size; delay = h.delay; time = refl; listed = l; agree = h.agree })
    leaves_tallied free (Read x) e = read_tallied x (copy_named x s.heads)
    leaves_tallied free (Write x v) e =
        rw (tags_change (is_named x) (with_copy (Some (new_copy s x v))) (λ g. refl) s.heads) (record { size = h.size; delay = h.delay; time = h.time; listed = h.listed; agree = (refl, h.time) })
    leaves_tallied free (Bring k a b) e = rw (tags_bring b (first (mail.is_told k a b) s.items) s.heads) (record { size = h.size; delay = h.delay; time = h.time; listed = h.listed; agree = h.agree })
    leaves_tallied free Tick e =
        let a : Agree (unfinished_at m.delay (t.time + 1) t.under_way) (still_under_way s.site.delay (s.site.time + 1) s.site.under_way) = rw (h.delay, ← h.time) (agree_tick m.delay (t.time + 1) t.under_way s.site.under_way h.agree) in
        rw (tags_turned s.site.delay (s.site.time + 1) s.heads) (record { size = h.size; delay = h.delay; time = ap (λ n. n + 1) h.time; listed = h.listed; agree = a })
    leaves_tallied free (Look x) e = h

    step_tallied : (c : Call V) (a : Answer V) → Step lawful s c a s' → Tallied m (fed m.delay t c a) s'.site (map tag s'.heads)
    step_tallied c a (refused why e p q) = rw (p, fed_refused m.delay t c why, q) h
    step_tallied c a (accepted free e p q) = rw (p, q.site, q.heads) (leaves_tallied free c e)

pub run_tallied : {V : Type 0} (lawful : V → Bool) (m : Setup V) {es : History V} {s : State V} → Reached lawful m es s → Tallied m (tally m es) s.site (map tag s.heads)
run_tallied lawful m (made d) = rw d.left (record { size = refl; delay = refl; time = refl; listed = made_listed m.start m.size d.free d.all; agree = tt })
run_tallied lawful m (then {es} {s} {t} {c} {a} r st) = step_tallied lawful m (tally m es) s t (run_tallied lawful m r) c a st
