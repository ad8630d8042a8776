-- The counts after a head's turn, for each turn that it can take.
use Rattle.std.proofs.Common.{◌≡◌, ℕ, ◌+◌, ◌<◌, ◌≤◌, Bool, true, false, cond, leb, List, [], ◌∷◌, ◌++◌, map, length, get_or, take, drop, is_some, Some, None, Ok, Err, filter, Option, Result, sym, refl, ap, ◌∙◌, subst, add-zero, arith}
use Rattle.std.proofs.lemmas.List.Elements.{filter-append}
use Rattle.std.proofs.lemmas.List.{length-append, length-map, map_more, drop_all}
use Rattle.std.proofs.lemmas.Bool.{cond-true, le-leb, leb-false, false≢true}
use Rattle.protocol.specs.Heads.{Copy, Head as Told, inquiring_named}
use Rattle.protocol.specs.Items.{Item, inquiry, reply, is_reply_to, dropping, put, to_each}
use Rattle.protocol.specs.Tick.{Turn, activates, turn, turned, turned_by, turn_mail, turns_mail, then_do}
use Rattle.tables.specs.declared.head.Head.{Head}
use Rattle.tables.specs.HeadPlaces.{head_of, heads_of}
use Rattle.tables.proofs.Searches.{drop_read}
use Rattle.room.specs.declared.forecast.Forecast.{Forecast}
use Rattle.room.specs.Amid.{turned_heads}
use Rattle.room.specs.Counting.{replies_to, Counted, Foresees, Followed}
use Rattle.protocol.specs.declared.refusal.Refusal.{Refusal}
use Rattle.protocol.specs.declared.refusal.Refusal.TheVariants.{NoRoom}
use Rattle.records.specs.Passing.{Passes}

module _ {V : Type 0} where
  -- a copy that is there
  pub copy_there : (o : Option (Copy V)) → true ≡ is_some o → (c : Copy V) × (o ≡ Some c)
  copy_there None e = absurd (false≢true (sym e))
  copy_there (Some c) e = (c, refl)

  no_replies : (a t y : ℕ) (hs : List (Told V)) → filter (is_reply_to y) (to_each (λ b. inquiry a b t) hs) ≡ []
  no_replies a t y [] = refl
  no_replies a t y (h ∷ hs) = no_replies a t y hs

  inquiries_added : (a t : ℕ) (items : List (Item V)) (y : ℕ) (hs : List (Told V)) → replies_to (items ++ to_each (λ b. inquiry a b t) hs) y ≡ replies_to items y
  inquiries_added a t items y hs =
      ap length (filter-append (is_reply_to y) items (to_each (λ b. inquiry a b t) hs))
      ∙ length-append (filter (is_reply_to y) items) (filter (is_reply_to y) (to_each (λ b. inquiry a b t) hs))
      ∙ ap (λ l. replies_to items y + length l) (no_replies a t y hs)
      ∙ add-zero (replies_to items y)

module _ {V : Type 0} (hs : List (Head V)) (places : ℕ) (items : List (Item V)) where
  pub inquiries_counted : (a t n : ℕ) (rs : List ℕ) (others : List (Told V)) → Counted hs items n rs → Counted hs (items ++ to_each (λ b. inquiry a b t) others) (n + length others) rs
  inquiries_counted a t n rs others d =
      let new : List (Item V) = to_each (λ b. inquiry a b t) others in
      record {
        all = omega (arith, d.all, length-append items new, length-map {B = Item V} others (λ k. inquiry a k.name t));
        each = λ y k f. d.each y k f ∙ sym (inquiries_added a t items y others);
      }

  -- what is put and foreseen finds room
  pub put_followed : (new : List (Item V)) (f : Forecast V) → Foresees hs places (items ++ new) f → Followed hs places (put places items new) (Ok tt) f
  put_followed new f d =
      subst (λ o. Followed hs places o (Ok tt) f)
      (sym (cond-true (leb (length items + length new) places) (Some (items ++ new)) None (le-leb (length items + length new) places (omega (arith, d.counted.all, d.size, f.within, length-append items new)))))
      (refl, d)

-- where there is no room, that is why it is refused
pub no_room_found : (n places : ℕ) (why : Refusal) → cond (leb n places) None (Some NoRoom) ≡ Some why → (places < n) × (NoRoom ≡ why)
no_room_found n places why e = go (leb n places) refl e
  where
    go : (b : Bool) → leb n places ≡ b → cond b None (Some NoRoom) ≡ Some why → (places < n) × (NoRoom ≡ why)
    go true l q = let z : ◌≡◌ {A = ℕ} 0 1 = cc in absurd (omega arith)
    go false l q = (leb-false n places l, cc)

module _ {V : Type 0} (hs : List (Head V)) (places now : ℕ) (before : List (Told V)) (h : Told V) (after : List (Told V)) (items : List (Item V)) (t : Turn V) (r : Result (Unit {0}) Refusal) (f : Forecast V) where
  abbrev After : Turn V → Type 0
  After u = Followed hs places (turn_mail places now before h after items u) r f

  pub turn_followed : (u : Turn V) → t ≡ u → After u → After t
  turn_followed u e q = subst After (sym e) q

  pub activate_followed : (c : Copy V) (mid : List (Told V)) → t ≡ activates c → before ++ turned_by now t h ∷ after ≡ mid → Followed hs places (put places (dropping (is_reply_to h.name) items) (map (λ x. reply h.name x now (Some c)) (filter (λ x. inquiring_named x mid) h.held))) r f → After t
  activate_followed c mid e m q =
      turn_followed (activates c) e
      (subst (λ ks. Followed hs places (put places (dropping (is_reply_to h.name) items) (map (λ x. reply h.name x now (Some c)) (filter (λ x. inquiring_named x ks) h.held))) r f)
      (sym m ∙ ap (λ u. before ++ turned_by now u h ∷ after) e) q)

-- the turns so far are counted, and what is left of them gives the mail
abbrev pub Going : {V : Type 0} → ℕ → ℕ → Forecast V → ℕ → Forecast V → Type 0
Going {V} delay now start i f =
    (hs : List (Head V)) (places : ℕ) (origin : List (Item V)) → Foresees hs places origin start →
    (items : List (Item V)) × Foresees hs places items f × (turns_mail places delay now (turned_heads delay now (take i hs)) (heads_of (drop i hs)) items ≡ turns_mail places delay now [] (heads_of hs) origin)

-- what the turns of all heads come to
abbrev pub Foretold : {V : Type 0} → ℕ → ℕ → List (Head V) → ℕ → List (Item V) → Result (Unit {0}) Refusal → Type 0
Foretold delay now hs places origin r = Passes (cond (is_some (turns_mail places delay now [] (heads_of hs) origin)) None (Some NoRoom)) r

module _ {V : Type 0} (delay now : ℕ) (start : Forecast V) where
  pub going_start : Going delay now start 0 start
  going_start hs places origin d = (origin, d, refl)

  module _ (i : ℕ) (f : Forecast V) (going : Going delay now start i f) where
    pub going_end : length start.heads.now ≤ i → (hs : List (Head V)) (places : ℕ) (origin : List (Item V)) → Foresees hs places origin start → Foretold delay now hs places origin (Ok tt)
    going_end l hs places origin d =
        let (items, counted, e) = going hs places origin d in
        ap (λ o. cond (is_some o) None (Some NoRoom))
        (sym e ∙ ap (λ ks. turns_mail places delay now (turned_heads delay now (take i hs)) (heads_of ks) items) (drop_all i hs (subst (λ ks. length ks ≤ i) d.lent l)))

    module _ (h : Head V) (l : i < length start.heads.now) (s : h ≡ get_or start.heads.now i h) (r : Result (Unit {0}) Refusal) (next : Forecast V)
        (one : (hs : List (Head V)) (places : ℕ) (is : List (Item V)) → i < length hs → h ≡ get_or hs i h → Foresees hs places is f → Followed hs places (turn_mail places now (turned_heads delay now (take i hs)) (head_of h) (heads_of (drop (i + 1) hs)) is (turn delay now (head_of h))) r next)
      where
        module _ (hs : List (Head V)) (places : ℕ) (origin : List (Item V)) (d : Foresees hs places origin start) where
          abbrev made : List (Item V) → Option (List (Item V))
          made items = turn_mail places now (turned_heads delay now (take i hs)) (head_of h) (heads_of (drop (i + 1) hs)) items (turn delay now (head_of h))

          abbrev rest : List (Item V) → Option (List (Item V))
          rest items = turns_mail places delay now (turned_heads delay now (take (i + 1) hs)) (heads_of (drop (i + 1) hs)) items

          inside : i < length hs
          inside = subst (λ ks. i < length ks) d.lent l

          here : h ≡ get_or hs i h
          here = subst (λ ks. h ≡ get_or ks i h) d.lent s

          one_on : (items : List (Item V)) → turns_mail places delay now (turned_heads delay now (take i hs)) (heads_of (drop i hs)) items ≡ then_do (made items) rest
          one_on items =
              ap (λ ks. turns_mail places delay now (turned_heads delay now (take i hs)) (heads_of ks) items) (drop_read hs i h inside here)
              ∙ ap (λ ks. then_do (made items) (λ mail. turns_mail places delay now ks (heads_of (drop (i + 1) hs)) mail)) (sym (map_more (λ k. turned delay now (head_of k)) hs i h inside ∙ ap (λ k. turned_heads delay now (take i hs) ++ turned delay now (head_of k) ∷ []) (sym here)))

          -- the mail after one turn more
          pub one_more : (items : List (Item V)) × Followed hs places (made items) r next × (then_do (made items) rest ≡ turns_mail places delay now [] (heads_of hs) origin)
          one_more =
              let (items, counted, e) = going hs places origin d in
              (items, one hs places items inside here counted, sym (one_on items) ∙ e)

        pub going_stop : (why : Refusal) → r ≡ Err why → (hs : List (Head V)) (places : ℕ) (origin : List (Item V)) → Foresees hs places origin start → Foretold delay now hs places origin (Err why)
        going_stop why q hs places origin d =
            let (items, f, e) = one_more hs places origin d in
            go (made hs places origin d items) f e
          where
            go : (o : Option (List (Item V))) → Followed hs places o r next → then_do o (rest hs places origin d) ≡ turns_mail places delay now [] (heads_of hs) origin → Foretold delay now hs places origin (Err why)
            go None f e = let z : why ≡ NoRoom = cc in ap (λ o. cond (is_some o) None (Some NoRoom)) (sym e) ∙ ap Some (sym z)
            go (Some mail) (k, w) e = let v : ◌≡◌ {A = ℕ} 0 1 = cc in absurd (omega arith)

        pub going_more : r ≡ Ok tt → Going delay now start (i + 1) next
        going_more q hs places origin d =
            let (items, f, e) = one_more hs places origin d in
            go (made hs places origin d items) f e
          where
            go : (o : Option (List (Item V))) → Followed hs places o r next → then_do o (rest hs places origin d) ≡ turns_mail places delay now [] (heads_of hs) origin → (items : List (Item V)) × Foresees hs places items next × (rest hs places origin d items ≡ turns_mail places delay now [] (heads_of hs) origin)
            go None f e = let v : ◌≡◌ {A = ℕ} 0 1 = cc in absurd (omega arith)
            go (Some mail) (k, w) e = (mail, w, e)
