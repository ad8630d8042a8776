-- Every state that a run reaches is well: its numbers are in bounds, and heads and mail are housed.
use Rattle.std.proofs.Common.{◌≡◌, ℕ, suc, ◌+◌, ◌*◌, ◌≤◌, Bool, true, false, cond, not, eqb, List, [], ◌∷◌, ◌++◌, map, is_some, Some, None, Option, sym, refl, ap, ◌∙◌, subst, arith}
use Rattle.std.specs.List.Sorted.{IsPermutation}
use Rattle.std.proofs.lemmas.Bool.{eqb-true, not-false, or_parts, ltb-false, leb-false, false≢true, true≢false}
use Rattle.protocol.specs.declared.kind.MailKind.{MailKind}
use Rattle.protocol.specs.declared.call.Call.{Call}
use Rattle.protocol.specs.declared.call.Call.TheVariants.{Swap, Read, Write, Bring, Tick, Look}
use Rattle.protocol.specs.declared.answer.Answer.{Answer}
use Rattle.protocol.specs.Numbers.{last_tick, last_number}
use Rattle.protocol.specs.Places.{first, all_but_first, change_first}
use Rattle.protocol.specs.Heads.{Copy, Head, is_named, present, copy_by, next_stamp, forgetting, with_copy}
use Rattle.protocol.specs.Items.{Item, write, inquiry, reply, is_told, is_due, goes_with, dropping, put, to_each}
use Rattle.protocol.specs.Sites.{UnderWay, State, Same}
use Rattle.protocol.specs.Make.{Setup, Made}
use Rattle.protocol.specs.Swap.{swap_checks, newcomer, swap_leaves}
use Rattle.protocol.specs.Write.{write_checks, new_copy, write_mail, write_leaves}
use Rattle.protocol.specs.Bring.{bring_checks, bring_leaves}
use Rattle.protocol.specs.Tick.{still_under_way, tick_checks, tick_leaves}
use Rattle.protocol.specs.Steps.{refusal, leaves, Step, refused, accepted}
use Rattle.law.specs.Tallies.{History}
use Rattle.law.specs.Runs.{Reached, made, then}
use Rattle.law.specs.Laws.{Fits}
use Rattle.law.proofs.Checks.{passed}
use Rattle.law.proofs.Coded.{In}
use Rattle.law.proofs.Members.{in_shuffled}
use Rattle.law.proofs.Firsts as firsts
use Rattle.law.proofs.Firsts.{Found, absent, split_in, first_is, is_none}
use Rattle.law.proofs.Totals.{total_shuffled}
use Rattle.law.proofs.Weights.{Pairs, item_weight, weight, asked_by, asked_at, write_to}
use Rattle.law.proofs.Housed.{Good, ItemGood, Begun, Housed, good_more, cap_lighter, room}
use Rattle.law.proofs.HousedBring.{bring_housed}
use Rattle.law.proofs.HousedTurns.{Turned, put_fits, turns_housed}
use Rattle.law.proofs.HousedCalls.{make_housed, some_map, swap_housed, write_housed}

-- no stamp is higher: while nothing is under way the time, else one more than the begin
abbrev pub stamp_limit : Option UnderWay → ℕ → ℕ
stamp_limit None time = time
stamp_limit (Some u) time = u.begin + 1

abbrev pub Began : Option UnderWay → ℕ → Type 0
Began None time = Unit {0}
Began (Some u) time = u.begin ≤ time

pub record Well {V : Type 0} (lawful : V → Bool) (m : Setup V) (s : State V) : Type 0 where
  pub size : s.site.size ≡ m.size
  pub places : s.places ≡ m.places
  pub in_time : s.site.time ≤ last_tick
  pub next_some : 1 ≤ s.site.next_name
  pub next_most : s.site.next_name ≤ suc last_number
  pub began : Began s.site.under_way s.site.time
  pub housed : Housed lawful m.size (stamp_limit s.site.under_way s.site.time) s.site.next_name s.site.under_way s.heads s.items

-- the mail in other places
module _ {V : Type 0} (lawful : V → Bool) (n limit next : ℕ) (way : Option UnderWay) (heads : List (Head V)) (items items' : List (Item V)) (sh : IsPermutation items items') where
  weight_shuffled : (q : Pairs) → weight q heads items ≡ weight q heads items'
  weight_shuffled q = let a = total_shuffled (item_weight q) items items' sh in omega arith

  pub shuffled_housed : Housed lawful n limit next way heads items' → Housed lawful n limit next way heads items
  shuffled_housed k = record {
    size = k.size;
    apart = k.apart;
    caps = λ b. cap_lighter n heads heads items' items b (let a = weight_shuffled (asked_by b) in omega arith) (λ a. a) (k.caps b);
    pairs = λ a b. let c = weight_shuffled (asked_at a b) in let d = k.pairs a b in omega arith;
    once = λ b. let c = total_shuffled (write_to b) items items' sh in let d = k.once b in omega arith;
    to_present = λ i j. k.to_present i (in_shuffled items items' sh j);
    heads_good = k.heads_good;
    items_good = λ i j. k.items_good i (in_shuffled items items' sh j);
  }

pub same_well : {V : Type 0} (lawful : V → Bool) (m : Setup V) (s t : State V) → Same s t → Well lawful m t → Well lawful m s
same_well lawful m s t q w = record {
  size = ap (λ z. z.size) q.site ∙ w.size;
  places = q.places ∙ w.places;
  in_time = rw q.site w.in_time;
  next_some = rw q.site w.next_some;
  next_most = rw q.site w.next_most;
  began = rw q.site w.began;
  housed = rw (q.site, q.heads) (shuffled_housed lawful m.size (stamp_limit t.site.under_way t.site.time) t.site.next_name t.site.under_way t.heads s.items t.items q.items w.housed);
}

module _ {V : Type 0} (lawful : V → Bool) (n limit y : ℕ) (way : Option UnderWay) (heads : List (Head V)) (items : List (Item V)) (k : Housed lawful n limit y way heads items) where
  swapped_housed : (x time free : ℕ) → 1 ≤ y → {o : Option (Head V)} → Found (is_named x) (map (forgetting x) heads) o → is_some o ≡ true → Housed lawful n limit (y + 1) way (change_first (is_named x) (λ _. newcomer y time free) (map (forgetting x) heads)) (dropping (goes_with x) items)
  swapped_housed x time free p (absent f) q = absurd (false≢true q)
  swapped_housed x time free p (firsts.present h sp) q = rw (sp.changed (λ _. newcomer y time free)) (swap_housed lawful n limit y way heads items k x time free sp.us sp.vs h sp.whole (eqb-true h.name x sp.passes) p)

-- what a write leaves, with the stamp that it takes
module _ {V : Type 0} (lawful : V → Bool) (n time next : ℕ) (heads : List (Head V)) (items : List (Item V)) (k : Housed lawful n time next None heads items) (some_head : 1 ≤ n) (places : ℕ) (fits : n * n ≤ places) where
  next_stamp_most : (o : Option (Copy V)) → Good lawful time o → next_stamp o ≤ time + 1
  next_stamp_most None g = omega arith
  next_stamp_most (Some c) g = omega arith

  written : (us vs : List (Head V)) (h : Head V) → Housed lawful n time next None (us ++ h ∷ vs) items → (c : Copy V) → Good lawful (time + 1) (Some c) → Turned lawful n (time + 1) next (Some (record { writer = h.name; begin = time })) (us ++ with_copy (Some c) h ∷ vs) (put places items (to_each (λ b. write h.name b time (Some c)) (us ++ vs)))
  written us vs h j c g =
      let w = write_housed lawful n time next us vs h items j c g in
      let r = room lawful n (time + 1) next (Some (record { writer = h.name; begin = time })) (us ++ with_copy (Some c) h ∷ vs) (items ++ to_each (λ b. write h.name b time (Some c)) (us ++ vs)) w some_head in
      record { mail = items ++ to_each (λ b. write h.name b time (Some c)) (us ++ vs); is = put_fits places items (to_each (λ b. write h.name b time (Some c)) (us ++ vs)) (omega arith); housed = w }

  pub written_stamp : (x : ℕ) {o : Option (Head V)} → Found (is_named x) heads o → next_stamp (copy_by o) ≤ time + 1
  written_stamp x (absent f) = omega arith
  written_stamp x (firsts.present h sp) = next_stamp_most h.copy (k.heads_good h (split_in sp)).copy

  pub written_housed : (x : ℕ) (v : V) → lawful v ≡ true → {o : Option (Head V)} → Found (is_named x) heads o → is_some o ≡ true → Turned lawful n (time + 1) next (Some (record { writer = x; begin = time })) (change_first (is_named x) (with_copy (Some (record { stamp = next_stamp (copy_by o); value = v }))) heads) (put places items (to_each (λ b. write x b time (Some (record { stamp = next_stamp (copy_by o); value = v }))) (all_but_first (is_named x) heads)))
  written_housed x v l (absent f) q = absurd (false≢true q)
  written_housed x v l (firsts.present h sp) q =
      rw (sp.changed (with_copy (Some (record { stamp = next_stamp h.copy; value = v }))), sp.rest)
      (subst (λ y. Turned lawful n (time + 1) next (Some (record { writer = y; begin = time })) (sp.us ++ with_copy (Some (record { stamp = next_stamp h.copy; value = v })) h ∷ sp.vs) (put places items (to_each (λ b. write y b time (Some (record { stamp = next_stamp h.copy; value = v }))) (sp.us ++ sp.vs)))) (eqb-true h.name x sp.passes)
      (written sp.us sp.vs h (subst (λ z. Housed lawful n time next None z items) sp.whole k) (record { stamp = next_stamp h.copy; value = v }) (l, written_stamp x (firsts.present h sp))))

-- the clock moves on: with no item due, no WRITE is left of a write that finishes
module _ {V : Type 0} (lawful : V → Bool) (n time next delay : ℕ) (heads : List (Head V)) (items : List (Item V)) where
  item_still : (limit limit' : ℕ) (way way' : Option UnderWay) → limit ≤ limit' → (i : Item V) → ((t : ℕ) → eqb (t + delay) (time + 1) ≡ false → Begun t way → Begun t way') → is_due delay time i ≡ false → ItemGood lawful limit way i → ItemGood lawful limit' way' i
  item_still limit limit' way way' le (write a b t c) f e g = (good_more lawful limit limit' le c g.0, g.1, f t e g.2)
  item_still limit limit' way way' le (inquiry a b t) f e g = tt
  item_still limit limit' way way' le (reply a b t c) f e g = good_more lawful limit limit' le c g

  clocked : (limit limit' : ℕ) (way way' : Option UnderWay) → limit ≤ limit' → ((t : ℕ) → eqb (t + delay) (time + 1) ≡ false → Begun t way → Begun t way') → ((i : Item V) → In i items → is_due delay time i ≡ false) → Housed lawful n limit next way heads items → Housed lawful n limit' next way' heads items
  clocked limit limit' way way' le f none k = record {
    size = k.size;
    apart = k.apart;
    caps = k.caps;
    pairs = k.pairs;
    once = k.once;
    to_present = k.to_present;
    heads_good = λ h i. let o = k.heads_good h i in record { some = o.some; below = o.below; copy = good_more lawful limit limit' le h.copy o.copy; best = good_more lawful limit limit' le h.best o.best; acts = o.acts };
    items_good = λ i j. item_still limit limit' way way' le i f (none i j) (k.items_good i j);
  }

  pub clock_housed : (way : Option UnderWay) → Began way time → ((i : Item V) → In i items → is_due delay time i ≡ false) → Housed lawful n (stamp_limit way time) next way heads items → Began (still_under_way delay (time + 1) way) (time + 1) × Housed lawful n (stamp_limit (still_under_way delay (time + 1) way) (time + 1)) next (still_under_way delay (time + 1) way) heads items
  clock_housed None b none k = (tt, clocked time (time + 1) None None (omega arith) (λ t e p. p) none k)
  clock_housed (Some u) b none k = go (eqb (u.begin + delay) (time + 1)) refl
    where
      go : (x : Bool) → eqb (u.begin + delay) (time + 1) ≡ x → Began (cond x None (Some u)) (time + 1) × Housed lawful n (stamp_limit (cond x None (Some u)) (time + 1)) next (cond x None (Some u)) heads items
      go true e = (tt, clocked (u.begin + 1) (time + 1) (Some u) None (omega arith) (λ t f p. false≢true (sym f ∙ ap (λ z. eqb (z + delay) (time + 1)) p ∙ e)) none k)
      go false e = (omega arith, clocked (u.begin + 1) (u.begin + 1) (Some u) (Some u) (omega arith) (λ t f p. p) none k)

module _ {V : Type 0} (lawful : V → Bool) (m : Setup V) (f : Fits lawful m) (s : State V) (w : Well lawful m s) where
  pub fits_here : m.size * m.size ≤ s.places
  fits_here = let a = f.mail in let b = w.places in omega arith

  swap_well : (x free : ℕ) → refusal lawful s (Swap x) ≡ None → Well lawful m (swap_leaves s x free)
  swap_well x free e =
      let (own, (here-is, (_, (_, (names, _))))) = (passed (swap_checks s x) None e).checks in
      let some-name : is_some (first (is_named x) (map (forgetting x) s.heads)) ≡ true = some_map (is_named x) (forgetting x) (λ h. refl) s.heads ∙ not-false (present x s.heads) here-is in
      let low = ltb-false last_number s.site.next_name names in
      let next = w.next_some in
      record {
        size = w.size;
        places = w.places;
        in_time = w.in_time;
        next_some = omega arith;
        next_most = omega arith;
        began = w.began;
        housed = swapped_housed lawful m.size (stamp_limit s.site.under_way s.site.time) s.site.next_name s.site.under_way s.heads s.items w.housed x s.site.time free w.next_some (first_is (is_named x) (map (forgetting x) s.heads)) some-name;
      }

  pub idle_housed : s.site.under_way ≡ None → Housed lawful m.size s.site.time s.site.next_name None s.heads s.items
  idle_housed e = subst (λ z. Housed lawful m.size (stamp_limit z s.site.time) s.site.next_name z s.heads s.items) e w.housed

  pub write_turned : (x : ℕ) (v : V) → s.site.under_way ≡ None → lawful v ≡ true → present x s.heads ≡ true → Turned lawful m.size (s.site.time + 1) s.site.next_name (Some (record { writer = x; begin = s.site.time })) (change_first (is_named x) (with_copy (Some (new_copy s x v))) s.heads) (write_mail s x v)
  write_turned x v e l p = written_housed lawful m.size s.site.time s.site.next_name s.heads s.items (idle_housed e) f.some_head s.places fits_here x v l (first_is (is_named x) s.heads) p

  write_well : (x : ℕ) (v : V) → refusal lawful s (Write x v) ≡ None → Well lawful m (write_leaves s x v)
  write_well x v e =
      let (own, (here-is, (act, (law, (idle, _))))) = (passed (write_checks lawful s x v) None e).checks in
      let r = write_turned x v (is_none s.site.under_way idle) (not-false (lawful v) law) (not-false (present x s.heads) here-is) in
      record {
        size = w.size;
        places = w.places;
        in_time = w.in_time;
        next_some = w.next_some;
        next_most = w.next_most;
        began = omega arith;
        housed = rw r.is r.housed;
      }

  bring_well : (kind : MailKind) (a b : ℕ) → refusal lawful s (Bring kind a b) ≡ None → Well lawful m (bring_leaves s kind a b)
  bring_well kind a b e =
      let (own, (found, _)) = (passed (bring_checks s kind a b) None e).checks in
      let (p, q) = or_parts (not (is_some (first (is_told kind a b) s.items))) (not (present b s.heads)) found in
      record {
        size = w.size;
        places = w.places;
        in_time = w.in_time;
        next_some = w.next_some;
        next_most = w.next_most;
        began = w.began;
        housed = bring_housed lawful m.size (stamp_limit s.site.under_way s.site.time) s.site.next_name s.site.time s.site.under_way s.heads s.items kind a b w.housed (first_is (is_told kind a b) s.items) (first_is (is_named b) s.heads) (not-false (is_some (first (is_told kind a b) s.items)) p) (not-false (present b s.heads) q);
      }

  none_due : {o : Option (Item V)} → Found (is_due s.site.delay s.site.time) s.items o → is_some o ≡ false → (i : Item V) → In i s.items → is_due s.site.delay s.site.time i ≡ false
  none_due (absent g) e = g
  none_due (firsts.present i sp) e = absurd (true≢false e)

  tick_well : refusal lawful s Tick ≡ None → Well lawful m (tick_leaves s)
  tick_well e =
      let (own, (last, (due, _))) = (passed (tick_checks s) None e).checks in
      let lt = leb-false last_tick s.site.time last in
      let (b, k) = clock_housed lawful m.size s.site.time s.site.next_name s.site.delay s.heads s.items s.site.under_way w.began (none_due (first_is (is_due s.site.delay s.site.time) s.items) due) w.housed in
      let r = turns_housed lawful m.size (stamp_limit (still_under_way s.site.delay (s.site.time + 1) s.site.under_way) (s.site.time + 1)) s.site.next_name (still_under_way s.site.delay (s.site.time + 1) s.site.under_way) f.some_head s.places fits_here s.site.delay (s.site.time + 1) [] s.heads s.items k in
      record {
        size = w.size;
        places = w.places;
        in_time = omega arith;
        next_some = w.next_some;
        next_most = w.next_most;
        began = b;
        housed = rw r.is r.housed;
      }

  accepted_well : (free : ℕ) (c : Call V) → refusal lawful s c ≡ None → Well lawful m (leaves s free c)
  accepted_well free (Swap x) e = swap_well x free e
  accepted_well free (Read x) e = record { size = w.size; places = w.places; in_time = w.in_time; next_some = w.next_some; next_most = w.next_most; began = w.began; housed = w.housed }
  accepted_well free (Write x v) e = write_well x v e
  accepted_well free (Bring kind a b) e = bring_well kind a b e
  accepted_well free Tick e = tick_well e
  accepted_well free (Look x) e = w

  pub step_well : {t : State V} {c : Call V} {a : Answer V} → Step lawful s c a t → Well lawful m t
  step_well {t} (refused why e p q) = rw q w
  step_well {t} {c} (accepted free e p q) = same_well lawful m t (leaves s free c) q (accepted_well free c e)

pub made_well : {V : Type 0} (lawful : V → Bool) (m : Setup V) → Fits lawful m → (s : State V) → Made m s → Well lawful m s
made_well lawful m f s d =
    let most = f.most_heads in
    rw d.left
    (record {
      size = refl;
      places = refl;
      in_time = omega arith;
      next_some = omega arith;
      next_most = omega arith;
      began = tt;
      housed = make_housed m.start lawful m.size d.free d.all f.start;
    })

-- every state reached is well
pub well : {V : Type 0} (lawful : V → Bool) (m : Setup V) → Fits lawful m → {es : History V} {s : State V} → Reached lawful m es s → Well lawful m s
well lawful m f (made {s} d) = made_well lawful m f s d
well lawful m f (then {es} {s} {t} {c} {a} r st) = step_well lawful m f s (well lawful m f r) st
