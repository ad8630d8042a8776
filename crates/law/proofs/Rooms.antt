-- In a well state no call is refused for its tables, for room or for an unsound entry.
use Rattle.std.proofs.Common.{◌≡◌, ℕ, ◌+◌, ◌*◌, ◌<◌, ◌≤◌, Bool, true, false, cond, not, ◌&&◌, ◌||◌, eqb, ltb, leb, ◌⊎◌, List, [], ◌∷◌, ◌++◌, length, is_some, Some, None, Option, sym, refl, ap, ◌∙◌, subst, inl, inr, arith}
use Rattle.std.specs.Option.{option_map}
use Rattle.std.proofs.lemmas.List.{length-append}
use Rattle.std.proofs.lemmas.Bool.{eqb-true, cases_eq, not-false, or_parts, or_from, and_parts, and_from, le-ltb, eq-eqb, lt-leb, false≢true, true≢false}
use Rattle.std.proofs.lemmas.Bool.Decides.{nat_tests}
use Rattle.logs.specs.declared.entry.LogRefusal.TheVariants.{Full}
use Rattle.logs.specs.Entries.{sound}
use Rattle.protocol.specs.declared.kind.MailKind.{MailKind}
use Rattle.protocol.specs.declared.kind.MailKind.TheVariants as kinds
use Rattle.protocol.specs.declared.refusal.Refusal.{Refusal}
use Rattle.protocol.specs.declared.refusal.Refusal.TheVariants.{ForeignTables, NoSuchHead, Log}
use Rattle.protocol.specs.declared.call.Call.{Call}
use Rattle.protocol.specs.declared.call.Call.TheVariants.{Swap, Read, Write, Bring, Tick, Look}
use Rattle.protocol.specs.Answers.{refusal_told}
use Rattle.protocol.specs.Numbers.{last_number, refusal_number}
use Rattle.protocol.specs.Places.{first}
use Rattle.protocol.specs.Heads.{Copy, Head, is_named, is_active, present, head_named, state_by, holds_of, active_named, copy_by, copy_named, holds}
use Rattle.protocol.specs.Items.{Item, write, inquiry, reply, kind_of, sender_of, receiver_of, is_inquiry, is_told}
use Rattle.protocol.specs.Sites.{UnderWay, State, foreign, refused_by}
use Rattle.protocol.specs.Make.{Setup}
use Rattle.protocol.specs.Swap.{swap_checks}
use Rattle.protocol.specs.Read.{read_checks, entry_read, log_refusal}
use Rattle.protocol.specs.Write.{write_checks, write_mail, new_copy}
use Rattle.protocol.specs.Bring.{holds_too_many, bring_checks}
use Rattle.protocol.specs.Tick.{tick_mail, tick_checks}
use Rattle.protocol.specs.Look.{look_checks}
use Rattle.protocol.specs.Steps.{refusal, read_answer, look_answer, answer}
use Rattle.law.specs.Laws.{Fits}
use Rattle.law.proofs.Checks.{passed}
use Rattle.law.proofs.Coded.{In, here, there}
use Rattle.law.proofs.Base.{in_either}
use Rattle.law.proofs.Firsts as firsts
use Rattle.law.proofs.Firsts.{Found, absent, split_in, first_is, is_none}
use Rattle.law.proofs.Joining.{active_from}
use Rattle.law.proofs.Totals.{bit, bit_most, total, total_append, total_has, total_zero, total_most, total_le, total_length, total_under}
use Rattle.law.proofs.Weights.{head_weight, asked_at}
use Rattle.law.proofs.Housed.{Here, Asker, Good, HeadGood, Housed, sender_asks, held_asks}
use Rattle.law.proofs.HousedTurns.{turns_housed}
use Rattle.law.proofs.Wells.{stamp_limit, Began, Well, written_stamp, fits_here, idle_housed, write_turned}

-- 6, 7 and the log's 31
abbrev pub bad : Refusal → Bool
bad why = eqb (refusal_number why) 6 || (eqb (refusal_number why) 7 || eqb (refusal_number why) 31)

-- no check that refuses so badly comes to hold
abbrev pub Fine : List (Bool × Refusal) → Option Refusal → Type 0
Fine [] rest = (why : Refusal) → rest ≡ Some why → bad why ≡ false
Fine (c ∷ cs) rest = (c.0 ≡ true → bad c.1 ≡ false) × (c.0 ≡ false → Fine cs rest)

pub fine : (cs : List (Bool × Refusal)) (rest : Option Refusal) → Fine cs rest → (why : Refusal) → refused_by cs rest ≡ Some why → bad why ≡ false
fine [] rest f why e = f why e
fine (c ∷ cs) rest f why e = go c.0 c.1 f.0 (λ p. fine cs rest (f.1 p) why) e
  where
    go : (b : Bool) (r : Refusal) → (b ≡ true → bad r ≡ false) → (b ≡ false → refused_by cs rest ≡ Some why → bad why ≡ false) → cond b (Some r) (refused_by cs rest) ≡ Some why → bad why ≡ false
    go true r g k p = let q : r ≡ why = cc in subst (λ z. bad z ≡ false) q (g refl)
    go false r g k p = k refl p

none_bad : (why : Refusal) → None ≡ Some why → bad why ≡ false
none_bad why e = let z : ◌≡◌ {A = ℕ} 0 1 = cc in absurd (omega arith)

pub present_here : {V : Type 0} (x : ℕ) (heads : List (Head V)) → Here x heads → present x heads ≡ true
present_here {V} x heads k = go (first_is (is_named x) heads)
  where
    go : {o : Option (Head V)} → Found (is_named x) heads o → is_some o ≡ true
    go (absent f) = absurd (false≢true (sym (f k.head k.there_is) ∙ eq-eqb k.head.name x k.is))
    go (firsts.present h s) = refl

pub told_itself : {V : Type 0} (i : Item V) → is_told (kind_of i) (sender_of i) (receiver_of i) i ≡ true
told_itself (write a b t c) = and_from (eqb a a) (eqb b b) (eq-eqb a a refl) (eq-eqb b b refl)
told_itself (inquiry a b t) = and_from (eqb a a) (eqb b b) (eq-eqb a a refl) (eq-eqb b b refl)
told_itself (reply a b t c) = and_from (eqb a a) (eqb b b) (eq-eqb a a refl) (eq-eqb b b refl)

-- a head that does not yet hold the name of one present has room for it
module _ {V : Type 0} (lawful : V → Bool) (n limit next : ℕ) (way : Option UnderWay) (heads : List (Head V)) (items : List (Item V)) (k : Housed lawful n limit next way heads items) (h : Head V) (h-in : In h heads) (a : ℕ) (a-here : Here a heads) where
  not_held : {o : Option ℕ} → Found (eqb a) h.held o → is_some o ≡ false → total (λ x. bit (eqb x a)) h.held ≡ 0
  not_held (absent f) e = total_zero (λ x. bit (eqb x a)) h.held (λ y i. let z = f y i in grind (arith, nat_tests))
  not_held (firsts.present x s) e = absurd (true≢false e)

  -- each name at most once, its own never
  pub held_once : (b : ℕ) → total (λ x. bit (eqb x b)) h.held ≤ bit (not (eqb h.name b))
  held_once b =
      let p = k.pairs h.name b in
      let q = total_has (head_weight (asked_at h.name b)) heads h-in in
      let r = total_le (λ x. bit (eqb x b)) (λ x. bit (asked_at h.name b h.name x)) h.held (λ x i. grind (arith, nat_tests)) in
      omega arith

  pub holds_few : holds a h ≡ false → length h.held < n
  holds_few e =
      let l = length-append h.held (a ∷ []) in
      let t = total_length (h.held ++ a ∷ []) in
      let u = total_under (λ _. 1) (λ (g : Head V). λ x. bit (eqb x g.name)) heads (h.held ++ a ∷ []) (λ x i. counted x (in_either h.held (a ∷ []) i)) in
      let m = total_most (λ (g : Head V). total (λ x. bit (eqb x g.name)) (h.held ++ a ∷ [])) 1 heads (λ g i. once g.name (cases_eq a g.name)) in
      let s = k.size in
      omega arith
    where
      counted : (x : ℕ) → In x h.held ⊎ In x (a ∷ []) → 1 ≤ total (λ (g : Head V). bit (eqb x g.name)) heads
      counted x (inl i) =
          let g : Asker x heads = held_asks lawful n limit next way heads items k h h-in x i in
          let has = total_has (λ (z : Head V). bit (eqb x z.name)) heads g.there_is in
          let one : bit (eqb x g.head.name) ≡ 1 = let e = g.is in grind (arith, nat_tests) in
          omega arith
      counted x (inr (here q)) =
          let has = total_has (λ (z : Head V). bit (eqb x z.name)) heads a-here.there_is in
          let one : bit (eqb x a-here.head.name) ≡ 1 = let e = a-here.is in grind (arith, nat_tests) in
          omega arith
      counted x (inr (there i)) = elim i [ ]

      once : (b : ℕ) → (a ≡ b) ⊎ (a ≡ b → ⊥) → total (λ x. bit (eqb x b)) (h.held ++ a ∷ []) ≤ 1
      once b (inl q) =
          let s = total_append (λ x. bit (eqb x b)) h.held (a ∷ []) in
          let z : total (λ x. bit (eqb x b)) h.held ≡ 0 = subst (λ y. total (λ x. bit (eqb x y)) h.held ≡ 0) q (not_held (first_is (eqb a) h.held) e) in
          let m = bit_most (eqb a b) in
          omega arith
      once b (inr q) =
          let s = total_append (λ x. bit (eqb x b)) h.held (a ∷ []) in
          let z = held_once b in
          let o = bit_most (not (eqb h.name b)) in
          let m : bit (eqb a b) ≡ 0 = grind (arith, nat_tests) in
          omega arith

module _ {V : Type 0} (lawful : V → Bool) (m : Setup V) (f : Fits lawful m) (s : State V) (w : Well lawful m s) where
  pub own_tables : foreign s ≡ false
  own_tables =
      let l = w.housed.size in
      let p = fits_here lawful m f s w in
      rw w.size (or_from (not (eqb (length s.heads) m.size)) (ltb s.places (m.size * m.size)) (ap not (eq-eqb (length s.heads) m.size l)) (le-ltb s.places (m.size * m.size) p))

  limit_most : (way : Option UnderWay) → Began way s.site.time → stamp_limit way s.site.time ≤ last_number
  limit_most None b = let t = w.in_time in omega arith
  limit_most (Some u) b = let t = w.in_time in omega arith

  -- an active head's copy makes a sound entry
  pub entry_sound : (x : ℕ) (c : Copy V) → 1 ≤ x → x < s.site.next_name → Good lawful (stamp_limit s.site.under_way s.site.time) (Some c) → sound lawful (entry_read s x c) ≡ true
  entry_sound x c p q g =
      let t = w.in_time in
      let n = w.next_most in
      let l = limit_most s.site.under_way w.began in
      let v = g.0 in
      rw v (grind (arith, nat_tests))

  read_fine : (x : ℕ) {o : Option (Head V)} → Found (is_named x) s.heads o → holds_of is_active (state_by o) ≡ true → (why : Refusal) → log_refusal lawful s x (copy_by o) ≡ Some why → bad why ≡ false
  read_fine x (absent g) a why e = absurd (false≢true a)
  read_fine x (firsts.present h sp) a why e = go h.copy k.copy (k.acts (active_from h.state a)) e
    where
      k : HeadGood lawful (stamp_limit s.site.under_way s.site.time) s.site.next_name h
      k = w.housed.heads_good h (split_in sp)

      full : (b : Bool) → option_map Log (cond b (Some Full) None) ≡ Some why → bad why ≡ false
      full true p = let q : Log Full ≡ why = cc in subst (λ z. bad z ≡ false) q refl
      full false p = none_bad why p

      go : (o : Option (Copy V)) → Good lawful (stamp_limit s.site.under_way s.site.time) o → is_some o ≡ true → log_refusal lawful s x o ≡ Some why → bad why ≡ false
      go None g i p = absurd (false≢true i)
      go (Some c) g i p =
          let n = eqb-true h.name x sp.passes in
          let b = k.below in
          let z = k.some in
          full (eqb s.log.free 0) (rw (entry_sound x c (omega arith) (omega arith) g) at p)

  -- there is room for the names that a head holds
  pub holds_enough : (kind : MailKind) (a b : ℕ) {oi : Option (Item V)} {oh : Option (Head V)} → Found (is_told kind a b) s.items oi → Found (is_named b) s.heads oh → is_some oi ≡ true → (is_inquiry kind && holds_of (holds_too_many a) oh) ≡ false
  holds_enough kind a b (absent g) fh p = absurd (false≢true p)
  holds_enough kind a b (firsts.present i si) (absent g) p = none kind
    where
      none : (j : MailKind) → (is_inquiry j && false) ≡ false
      none kinds.Write = refl
      none kinds.Inquiry = refl
      none kinds.Reply = refl
  holds_enough kind a b (firsts.present i si) (firsts.present h sh) p = go kind i si.passes (split_in si)
    where
      room_for : Here a s.heads → (x : Bool) → holds a h ≡ x → (y : Bool) → (not y && (not x && leb 64 (length h.held))) ≡ false
      room_for g x e true = refl
      room_for g true e false = refl
      room_for g false e false =
          let l = holds_few lawful m.size (stamp_limit s.site.under_way s.site.time) s.site.next_name s.site.under_way s.heads s.items w.housed h (split_in sh) a g e in
          let n = f.most_heads in
          lt-leb 64 (length h.held) (omega arith)

      go : (j : MailKind) (i : Item V) → is_told j a b i ≡ true → In i s.items → (is_inquiry j && holds_too_many a h) ≡ false
      go kinds.Write i q z = refl
      go kinds.Reply i q z = refl
      go kinds.Inquiry (write c d t o) q z = absurd (false≢true q)
      go kinds.Inquiry (reply c d t o) q z = absurd (false≢true q)
      go kinds.Inquiry (inquiry c d t) q z =
          let g : Asker c s.heads = sender_asks lawful m.size (stamp_limit s.site.under_way s.site.time) s.site.next_name s.site.under_way s.heads s.items w.housed z in
          room_for (record { head = g.head; there_is = g.there_is; is = g.is ∙ eqb-true c a (and_parts (eqb c a) (eqb d b) q).0 }) (holds a h) refl (is_active h.state)

  -- a tick finds room at each of its turns
  pub tick_room : is_some (tick_mail s) ≡ true
  tick_room =
      let r = turns_housed lawful m.size (stamp_limit s.site.under_way s.site.time) s.site.next_name s.site.under_way f.some_head s.places (fits_here lawful m f s w) s.site.delay (s.site.time + 1) [] s.heads s.items w.housed in
      rw r.is refl

  pub write_room : (x : ℕ) (v : V) → s.site.under_way ≡ None → lawful v ≡ true → present x s.heads ≡ true → (not (is_some (write_mail s x v)) || ltb last_number (new_copy s x v).stamp) ≡ false
  write_room x v e l p =
      let r = write_turned lawful m f s w x v e l p in
      let n = written_stamp lawful m.size s.site.time s.site.next_name s.heads s.items (idle_housed lawful m f s w e) f.some_head s.places (fits_here lawful m f s w) x (first_is (is_named x) s.heads) in
      let t = w.in_time in
      or_from (not (is_some (write_mail s x v))) (ltb last_number (new_copy s x v).stamp) (ap (λ o. not (is_some o)) r.is) (le-ltb last_number (new_copy s x v).stamp (omega arith))

  own : foreign s ≡ true → bad ForeignTables ≡ false
  own e = absurd (false≢true (sym own_tables ∙ e))

  -- no call is refused for its tables, for room or for an unsound entry
  pub refusal_fine : (c : Call V) (why : Refusal) → refusal lawful s c ≡ Some why → bad why ≡ false
  refusal_fine (Swap x) = fine (swap_checks s x) None (own, λ _. (λ _. refl, λ _. (λ _. refl, λ _. (λ _. refl, λ _. (λ _. refl, λ _. none_bad)))))
  refusal_fine (Read x) = fine (read_checks s x) (log_refusal lawful s x (copy_named x s.heads)) (own, λ _. (λ _. refl, λ _. (λ _. refl, λ a. read_fine x (first_is (is_named x) s.heads) (not-false (active_named x s.heads) a))))
  refusal_fine (Write x v) = fine (write_checks lawful s x v) None (own, λ _. (λ _. refl, λ p. (λ _. refl, λ _. (λ _. refl, λ l. (λ _. refl, λ i. (λ r. absurd (false≢true (sym (write_room x v (is_none s.site.under_way i) (not-false (lawful v) l) (not-false (present x s.heads) p)) ∙ r)), λ _. none_bad))))))
  refusal_fine (Bring kind a b) =
      fine (bring_checks s kind a b) None
      (own, λ _. (λ _. refl, λ p. (λ r. absurd (false≢true (sym (holds_enough kind a b (first_is (is_told kind a b) s.items) (first_is (is_named b) s.heads) (not-false (is_some (first (is_told kind a b) s.items)) (or_parts (not (is_some (first (is_told kind a b) s.items))) (not (present b s.heads)) p).0)) ∙ r)), λ _. none_bad)))
  refusal_fine Tick = fine (tick_checks s) None (own, λ _. (λ _. refl, λ _. (λ _. refl, λ _. (λ r. absurd (false≢true (sym (ap not tick_room) ∙ r)), λ _. none_bad))))
  refusal_fine (Look x) = fine (look_checks s x) None (own, λ _. (λ _. refl, λ _. none_bad))

  read_answer_fine : (x : ℕ) (o : Option (Copy V)) → log_refusal lawful s x o ≡ None → (why : Refusal) → refusal_told (read_answer o) ≡ Some why → bad why ≡ false
  read_answer_fine x None e why p = let z : ◌≡◌ {A = ℕ} 0 1 = cc in absurd (omega arith)
  read_answer_fine x (Some c) e why p = none_bad why p

  look_answer_fine : (o : Option (Head V)) (why : Refusal) → refusal_told (look_answer o) ≡ Some why → bad why ≡ false
  look_answer_fine None why p = let q : NoSuchHead ≡ why = cc in subst (λ z. bad z ≡ false) q refl
  look_answer_fine (Some h) why p = none_bad why p

  pub answer_fine : (c : Call V) → refusal lawful s c ≡ None → (why : Refusal) → refusal_told (answer s c) ≡ Some why → bad why ≡ false
  answer_fine (Swap x) e = none_bad
  answer_fine (Read x) e = read_answer_fine x (copy_named x s.heads) (passed (read_checks s x) (log_refusal lawful s x (copy_named x s.heads)) e).rest_none
  answer_fine (Write x v) e = none_bad
  answer_fine (Bring kind a b) e = none_bad
  answer_fine Tick e = none_bad
  answer_fine (Look x) e = look_answer_fine (head_named x s.heads)
