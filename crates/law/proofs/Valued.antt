-- The book of values along a run: it has the finished value at the stamp of the last finished write, and after it the value under way.
use Rattle.std.proofs.Common.{◌≡◌, ℕ, suc, ◌+◌, ◌≤◌, Bool, true, false, cond, eqb, is_some as option_is_some, Some, None, Option, sym, refl, ap, ◌∙◌, subst, inl, inr, arith}
use Rattle.std.proofs.lemmas.Bool.{false≢true}
use Rattle.std.proofs.lemmas.Bool.Decides.{nat_tests}
use Rattle.protocol.specs.declared.state.HeadState.TheVariants.{Active}
use Rattle.protocol.specs.declared.call.Call.{Call}
use Rattle.protocol.specs.declared.call.Call.TheVariants.{Swap, Read, Write, Bring, Tick, Look}
use Rattle.protocol.specs.declared.answer.Answer.{Answer}
use Rattle.protocol.specs.declared.answer.Answer.TheVariants.{Refused}
use Rattle.protocol.specs.declared.refusal.Refusal.{Refusal}
use Rattle.protocol.specs.Answers.{value_read}
use Rattle.protocol.specs.Places.{all_but_first, change_first}
use Rattle.protocol.specs.Heads.{Copy, Head, is_named, is_active, head_named, state_by, copy_by, copy_named, active_named, next_stamp, holds_of, with_copy}
use Rattle.protocol.specs.Items.{write, inquiry, reply, goes_with, to_each}
use Rattle.protocol.specs.Sites.{State, Same}
use Rattle.protocol.specs.Make.{Setup}
use Rattle.protocol.specs.Write.{new_copy, write_checks}
use Rattle.protocol.specs.Steps.{refusal, answer, read_answer, leaves, Step, refused, accepted}
use Rattle.law.specs.Tallies.{History, Writing, Tally, is_finished, finished_at, unfinished_at, tally_read, fed, tally}
use Rattle.law.specs.Runs.{Reached, made, then}
use Rattle.law.proofs.Originals.{originals_each}
use Rattle.law.proofs.Coded.{In}
use Rattle.law.proofs.Base.{map_in}
use Rattle.law.proofs.Checks.{passed}
use Rattle.law.proofs.Firsts.{Found, absent, present, first_is, split_in, is_some, is_none, in_change}
use Rattle.law.proofs.Joining.{active_from}
use Rattle.law.proofs.Members.{in_shuffled}
use Rattle.law.proofs.Faithful.{fed_refused}
use Rattle.law.proofs.Known.{Known, Standing, listens, inquires, acts, Within, top_stamp, finished_with, finished_fed, finished_writes}
use Rattle.law.proofs.Booked.{carried, By, ByHead, ByHeads, ByItems, in_mail, by_swap, by_dropping, by_bring_heads, by_bring_items, by_tick_heads, by_tick_items}

-- F: the stamp of the last finished write
pub record Valued {V : Type 0} (lawful : V → Bool) (F : ℕ) (t : Tally V) (s : State V) : Type 0 where
  pub book : ℕ → V
  pub all_lawful : (z : ℕ) → lawful (book z) ≡ true
  pub heads : ByHeads book s.heads
  pub items : ByItems book s.items
  pub finished : book F ≡ t.finished
  pub under : (w : Writing V) → t.under_way ≡ Some w → book (suc F) ≡ w.value

-- every copy that a head has is lawful
pub copy_lawful : {V : Type 0} (lawful : V → Bool) (F : ℕ) (t : Tally V) (s : State V) → Valued lawful F t s → (h : Head V) → In h s.heads → (c : Copy V) → h.copy ≡ Some c → lawful c.value ≡ true
copy_lawful lawful F t s b h i c e = ap lawful (subst (By b.book) e (b.heads h i).copy) ∙ b.all_lawful c.stamp

-- an active head with this name has a copy between the last finished write and the newest
pub record Reader {V : Type 0} (F : ℕ) (s : State V) (x : ℕ) : Type 0 where
  pub head : Head V
  pub among : In head s.heads
  pub copy : Copy V
  pub has : head.copy ≡ Some copy
  pub found : copy_named x s.heads ≡ Some copy
  pub low : F ≤ copy.stamp
  pub high : copy.stamp ≤ top_stamp F s.site.under_way

pub reader : {V : Type 0} (m : Setup V) (F : ℕ) (s : State V) (k : Known m F s) (x : ℕ) → active_named x s.heads ≡ true → Reader F s x
reader {V} m F s k x e = go (head_named x s.heads) (first_is (is_named x) s.heads) refl e
  where
    has_copy : {D T : ℕ} {h : Head V} → Standing D T h → h.state ≡ Active → option_is_some h.copy ≡ true
    has_copy (listens p l) a = let z : ◌≡◌ {A = ℕ} 0 1 = cc in absurd (omega arith)
    has_copy (inquires p l) a = let z : ◌≡◌ {A = ℕ} 0 1 = cc in absurd (omega arith)
    has_copy (acts p c) a = c

    go : (o : Option (Head V)) → Found (is_named x) s.heads o → head_named x s.heads ≡ o → holds_of is_active (state_by o) ≡ true → Reader F s x
    go None (absent f) q a = absurd (false≢true a)
    go (Some _) (present h sp) q a =
        let i = split_in sp in
        let g = k.heads h i in
        let (c, r) = is_some h.copy (has_copy g.standing (active_from h.state a)) in
        let (low, high) = subst (Within F (top_stamp F s.site.under_way)) r g.copy in
        record { head = h; among = i; copy = c; has = r; found = ap copy_by q ∙ r; low = low; high = high }

module _ {V : Type 0} (lawful : V → Bool) (m : Setup V) (F : ℕ) (t : Tally V) (s : State V) (k : Known m F s) (b : Valued lawful F t s) where
  read_valued : (x : ℕ) (o : Option (Copy V)) (s' : State V) → s'.heads ≡ s.heads → s'.items ≡ s.items → Valued lawful F (tally_read t x (value_read (read_answer o))) s'
  read_valued x None s' p q = record { book = b.book; all_lawful = b.all_lawful; heads = rw p b.heads; items = rw q b.items; finished = b.finished; under = b.under }
  read_valued x (Some c) s' p q = record { book = b.book; all_lawful = b.all_lawful; heads = rw p b.heads; items = rw q b.items; finished = b.finished; under = b.under }

  -- a write: the book gets its value at the next stamp
  module _ (v : V) (idle : s.site.under_way ≡ None) where
    abbrev more : ℕ → V
    more z = cond (eqb z (suc F)) v (b.book z)

    top_is : top_stamp F s.site.under_way ≡ F
    top_is = ap (top_stamp F) idle

    more_low : (z : ℕ) → z ≤ F → more z ≡ b.book z
    more_low z l = let e : eqb z (suc F) ≡ false = grind (arith, nat_tests) in ap (λ x. cond x v (b.book z)) e

    more_new : more (suc F) ≡ v
    more_new = let e : eqb (suc F) (suc F) ≡ true = grind (arith, nat_tests) in ap (λ x. cond x v (b.book (suc F))) e

    more_lawful : lawful v ≡ true → (z : ℕ) → lawful (more z) ≡ true
    more_lawful l z = go (eqb z (suc F))
      where
        go : (x : Bool) → lawful (cond x v (b.book z)) ≡ true
        go true = l
        go false = b.all_lawful z

    still_by : (low : ℕ) (o : Option (Copy V)) → Within low (top_stamp F s.site.under_way) o → By b.book o → By more o
    still_by low None w q = tt
    still_by low (Some c) (_, l) q = q ∙ sym (more_low c.stamp (subst (λ n. c.stamp ≤ n) top_is l))

    more_heads : ByHeads more s.heads
    more_heads h i = let g = k.heads h i in record { copy = still_by F h.copy g.copy (b.heads h i).copy; best = still_by 0 h.best g.best (b.heads h i).best }

    more_items : ByItems more s.items
    more_items (write x y n o) i = absurd (k.writes x y n o i idle)
    more_items (inquiry x y n) i = tt
    more_items (reply x y n o) i = still_by 0 o (k.replies x y n o i) (b.items (reply x y n o) i)

    module _ (x : ℕ) (acting : active_named x s.heads ≡ true) where
      new_stamp : (new_copy s x v).stamp ≡ suc F
      new_stamp =
          let r = reader m F s k x acting in
          let e : r.copy.stamp ≤ F = subst (λ n. r.copy.stamp ≤ n) top_is r.high in
          ap next_stamp r.found ∙ omega (arith, r.low)

      by_new : By more (Some (new_copy s x v))
      by_new = sym (ap more new_stamp ∙ more_new)

      write_heads : ByHeads more (change_first (is_named x) (with_copy (Some (new_copy s x v))) s.heads)
      write_heads h i = elim (in_change (is_named x) (with_copy (Some (new_copy s x v))) s.heads i) [
        | inl j ↦ more_heads h j
        | inr (g, j, e) ↦
            let r : ByHead more (with_copy (Some (new_copy s x v)) g) = record { copy = by_new; best = (more_heads g j).best } in
            subst (ByHead more) e r
      ]

      write_items : ByItems more (leaves s 0 (Write x v)).items
      write_items i j = elim (in_mail s.places s.items (to_each (λ y. write x y s.site.time (Some (new_copy s x v))) (all_but_first (is_named x) s.heads)) j) [
        | inl l ↦ more_items i l
        | inr l ↦
            let (h, _, e) = map_in (λ h. write x h.name s.site.time (Some (new_copy s x v))) (all_but_first (is_named x) s.heads) l in
            subst (λ z. By more (carried z)) e by_new
      ]

  tick_finished : (D now : ℕ) (o : Option (Writing V)) → ((w : Writing V) → o ≡ Some w → b.book (suc F) ≡ w.value) → b.book (finished_with D now F o) ≡ finished_at D now t.finished o
  tick_finished D now None u = b.finished
  tick_finished D now (Some w) u = go (is_finished D now w)
    where
      go : (x : Bool) → b.book (cond x (suc F) F) ≡ cond x w.value t.finished
      go true = u w refl
      go false = b.finished

  tick_under : (D now : ℕ) (o : Option (Writing V)) → ((w : Writing V) → o ≡ Some w → b.book (suc F) ≡ w.value) → (w : Writing V) → unfinished_at D now o ≡ Some w → b.book (suc (finished_with D now F o)) ≡ w.value
  tick_under D now None u w e = let z : ◌≡◌ {A = ℕ} 0 1 = cc in absurd (omega arith)
  tick_under D now (Some w₀) u w e = go (is_finished D now w₀) e
    where
      go : (x : Bool) → cond x None (Some w₀) ≡ Some w → b.book (suc (cond x (suc F) F)) ≡ w.value
      go true q = let z : ◌≡◌ {A = ℕ} 0 1 = cc in absurd (omega arith)
      go false q = u w q

  leaves_valued : (free : ℕ) (c : Call V) → refusal lawful s c ≡ None → Valued lawful (finished_fed m.delay F t c (answer s c)) (fed m.delay t c (answer s c)) (leaves s free c)
  leaves_valued free (Swap x) e = record {
    book = b.book;
    all_lawful = b.all_lawful;
    heads = by_swap b.book x s.site.next_name s.site.time free s.heads b.heads;
    items = by_dropping b.book (goes_with x) s.items b.items;
    finished = b.finished;
    under = b.under;
  }
  leaves_valued free (Read x) e = read_valued x (copy_named x s.heads) (leaves s free (Read x)) refl refl
  leaves_valued free (Write x v) e =
      let (_, (_, (acting, (good, (idle, _))))) = (passed (write_checks lawful s x v) None e).checks in
      let a : active_named x s.heads ≡ true = grind (arith, nat_tests) in
      let l : lawful v ≡ true = grind (arith, nat_tests) in
      let i : s.site.under_way ≡ None = is_none s.site.under_way idle in
      record {
        book = more v i;
        all_lawful = more_lawful v i l;
        heads = write_heads v i x a;
        items = write_items v i x a;
        finished = more_low v i F (omega arith) ∙ b.finished;
        under = λ w q. more_new v i ∙ cc;
      }
  leaves_valued free (Bring kind a c) e = record {
    book = b.book;
    all_lawful = b.all_lawful;
    heads = by_bring_heads b.book s.heads s.items b.heads b.items kind a c;
    items = by_bring_items b.book s.heads s.items b.heads b.items kind a c s.site.time;
    finished = b.finished;
    under = b.under;
  }
  leaves_valued free Tick e = record {
    book = b.book;
    all_lawful = b.all_lawful;
    heads = by_tick_heads b.book s.site.delay (s.site.time + 1) s.heads b.heads;
    items = by_tick_items b.book s.places s.site.delay (s.site.time + 1) s.heads s.items b.heads b.items;
    finished = tick_finished m.delay (t.time + 1) t.under_way b.under;
    under = tick_under m.delay (t.time + 1) t.under_way b.under;
  }
  leaves_valued free (Look x) e = b

same_valued : {V : Type 0} (lawful : V → Bool) (F : ℕ) (t : Tally V) (s s' : State V) → Same s' s → Valued lawful F t s → Valued lawful F t s'
same_valued lawful F t s s' q b = record {
  book = b.book;
  all_lawful = b.all_lawful;
  heads = rw q.heads b.heads;
  items = λ i j. b.items i (in_shuffled s'.items s.items q.items j);
  finished = b.finished;
  under = b.under;
}

pub fed_refused_writes : {V : Type 0} (D F : ℕ) (t : Tally V) (c : Call V) (why : Refusal) → finished_fed D F t c (Refused why) ≡ F
fed_refused_writes D F t (Swap x) why = refl
fed_refused_writes D F t (Read x) why = refl
fed_refused_writes D F t (Write x v) why = refl
fed_refused_writes D F t (Bring k x y) why = refl
fed_refused_writes D F t Tick why = refl
fed_refused_writes D F t (Look x) why = refl

step_valued : {V : Type 0} (lawful : V → Bool) (m : Setup V) (F : ℕ) (t : Tally V) (s s' : State V) (c : Call V) (a : Answer V) → Known m F s → Valued lawful F t s → Step lawful s c a s' →
    Valued lawful (finished_fed m.delay F t c a) (fed m.delay t c a) s'
step_valued lawful m F t s s' c a k b (refused why e p q) = rw (p, fed_refused m.delay t c why, fed_refused_writes m.delay F t c why, q) b
step_valued lawful m F t s s' c a k b (accepted free e p q) =
    rw p (same_valued lawful (finished_fed m.delay F t c (answer s c)) (fed m.delay t c (answer s c)) (leaves s free c) s' q (leaves_valued lawful m F t s k b free c e))

-- known: what the stamps give
module _ {V : Type 0} (lawful : V → Bool) (m : Setup V) (start : lawful m.start ≡ true) (known : (es : History V) (s : State V) → Reached lawful m es s → Known m (finished_writes m es) s) where
  pub run_valued : {es : History V} {s : State V} → Reached lawful m es s → Valued lawful (finished_writes m es) (tally m es) s
  run_valued (made d) = rw d.left (record { book = λ _. m.start; all_lawful = λ z. start; heads = originals_each m.start (ByHead (λ _. m.start)) 1 d.free (λ y l p q. record { copy = refl; best = tt }); items = λ i j. elim j [ ]; finished = refl; under = λ w e. let z : ◌≡◌ {A = ℕ} 0 1 = cc in absurd (omega arith) })
  run_valued (then {es} {s} {t} {c} {a} r st) = step_valued lawful m (finished_writes m es) (tally m es) s t c a (known es s r) (run_valued r) st
