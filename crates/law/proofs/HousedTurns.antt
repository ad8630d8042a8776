-- The turns of a tick: there is room at each of them, and heads and mail stay housed.
use Rattle.std.proofs.Common.{◌≡◌, ℕ, ◌+◌, ◌*◌, ◌≤◌, Bool, true, false, cond, not, eqb, ◌⊎◌, List, [], ◌∷◌, ◌++◌, map, length, Some, None, filter, Option, sym, refl, ap, ◌∙◌, subst, inl, inr, append_assoc, arith}
use Rattle.std.proofs.lemmas.List.{length-append}
use Rattle.std.proofs.lemmas.Bool.{cases_eq, eqb-true, le-leb, false≢true}
use Rattle.std.proofs.lemmas.Bool.Decides.{nat_tests}
use Rattle.protocol.specs.declared.state.HeadState.{HeadState}
use Rattle.protocol.specs.declared.state.HeadState.TheVariants.{Listening, Inquiring, Active, Stranded}
use Rattle.protocol.specs.Heads.{Copy, Head, is_named, newer, state_by, holds_of, is_inquiring, inquiring_named}
use Rattle.protocol.specs.Items.{Item, inquiry, reply, receiver_of, is_reply_to, dropping, put, to_each}
use Rattle.protocol.specs.Sites.{UnderWay}
use Rattle.protocol.specs.Tick.{Turn, rests, inquires, activates, strands, activates_or, turn_in, turn, turned_by, turned, turn_mail, then_do, turns_mail}
use Rattle.law.proofs.Coded.{In}
use Rattle.law.proofs.Base.{in_less, in_more, in_mid, in_either, kept_in, map_in}
use Rattle.law.proofs.Firsts.{Found, absent, present, first_is}
use Rattle.law.proofs.Totals.{bit, bit_most, total, total_append, total_put, total_kept, total_map, total_le, total_most, total_zero}
use Rattle.law.proofs.Weights.{Pairs, item_weight, weight, asked_by, asked_at, write_to, weight_put, weight_less, replies_weight}
use Rattle.law.proofs.Housed.{Here, Cap, nothing, some, Good, HeadGood, ItemGood, Housed, newer_good, here_change, asker_change, other_name, room, placed, changed}

-- what the turn of a good head may be
pub data View {V : Type 0} (lawful : V → Bool) (limit : ℕ) (h : Head V) : Turn V → Type 0 where
  resting : View lawful limit h rests
  inquiring : h.state ≡ Listening → View lawful limit h inquires
  activating : (c : Copy V) → Good lawful limit (Some c) → View lawful limit h (activates c)
  stranding : View lawful limit h strands

module _ {V : Type 0} (lawful : V → Bool) (limit next delay now : ℕ) (h : Head V) (k : HeadGood lawful limit next h) where
  view_in : (s : HeadState) → h.state ≡ s → View lawful limit h (turn_in delay now h s)
  view_in Listening e = go (eqb (h.swap_tick + delay) now) h.copy k.copy
    where
      go : (b : Bool) (o : Option (Copy V)) → Good lawful limit o → View lawful limit h (cond b (activates_or inquires o) rests)
      go true None g = inquiring e
      go true (Some c) g = activating c g
      go false o g = resting
  view_in Inquiring e = go (eqb (h.inquiry_tick + 2 * delay) now) (newer h.copy h.best) (newer_good lawful limit h.copy h.best k.copy k.best)
    where
      go : (b : Bool) (o : Option (Copy V)) → Good lawful limit o → View lawful limit h (cond b (activates_or strands o) rests)
      go true None g = stranding
      go true (Some c) g = activating c g
      go false o g = resting
  view_in Active e = resting
  view_in Stranded e = resting

  pub view : View lawful limit h (turn delay now h)
  view = view_in h.state refl

pub inquiring_here : {V : Type 0} (x : ℕ) (heads : List (Head V)) → inquiring_named x heads ≡ true → Here x heads
inquiring_here {V} x heads e = go (first_is (is_named x) heads) e
  where
    go : {o : Option (Head V)} → Found (is_named x) heads o → holds_of is_inquiring (state_by o) ≡ true → Here x heads
    go (absent f) p = absurd (false≢true p)
    go (present h s) p = record { head = h; there_is = subst (λ z. In h z) (sym s.whole) (in_mid h s.us s.vs refl); is = eqb-true h.name x s.passes }

pub put_fits : {V : Type 0} (places : ℕ) (items new : List (Item V)) → length (items ++ new) ≤ places → put places items new ≡ Some (items ++ new)
put_fits places items new le = let a = length-append items new in rw (le-leb (length items + length new) places (omega arith)) refl

-- what a turn leaves
pub record Turned {V : Type 0} (lawful : V → Bool) (n limit next : ℕ) (way : Option UnderWay) (heads : List (Head V)) (o : Option (List (Item V))) : Type 0 where
  pub mail : List (Item V)
  pub is : o ≡ Some mail
  pub housed : Housed lawful n limit next way heads mail

module _ {V : Type 0} (lawful : V → Bool) (n limit next : ℕ) (way : Option UnderWay) (some_head : 1 ≤ n) (places : ℕ) (fits : n * n ≤ places) (now : ℕ) (us vs : List (Head V)) (h : Head V) (items : List (Item V)) (k : Housed lawful n limit next way (us ++ h ∷ vs) items) where
  hg : HeadGood lawful limit next h
  hg = k.heads_good h (in_mid h us vs refl)

  put_housed : (heads : List (Head V)) (old new : List (Item V)) → Housed lawful n limit next way heads (old ++ new) → Turned lawful n limit next way heads (put places old new)
  put_housed heads old new j = let r = room lawful n limit next way heads (old ++ new) j some_head in record { mail = old ++ new; is = put_fits places old new (omega arith); housed = j }

  -- who listens has no inquiry on its way
  idle : h.state ≡ Listening → Cap n (us ++ h ∷ vs) items h.name → weight (asked_by h.name) (us ++ h ∷ vs) items ≡ 0
  idle e (nothing z) = z
  idle e (some g l) = absurd (elim (in_less h us vs g.there_is) as (λ _. ⊥) [
    | inl p ↦ g.past (ap (λ z. z.state) (sym p) ∙ e)
    | inr i ↦ other_name us vs h g.head k.apart i g.is
  ])

  abbrev asking : Head V
  asking = turned_by now inquires h

  abbrev asking_heads : List (Head V)
  asking_heads = us ++ asking ∷ vs

  abbrev asks : List (Item V)
  asks = to_each (λ b. inquiry h.name b now) (us ++ vs)

  abbrev asks_mail : List (Item V)
  asks_mail = items ++ asks

  asks_weight : (q : Pairs) → weight q asking_heads asks_mail ≡ weight q (us ++ h ∷ vs) items + total (λ (g : Head V). bit (q g.name h.name)) (us ++ vs)
  asks_weight q =
      let a = weight_put q us h vs items in
      let b = weight_put q us asking vs asks_mail in
      let c = total_append (item_weight q) items asks in
      let d = total_map (item_weight {V = V} q) (λ (g : Head V). inquiry h.name g.name now) (us ++ vs) in
      omega arith

  asks_cap : h.state ≡ Listening → (b : ℕ) → (b ≡ h.name) ⊎ (b ≡ h.name → ⊥) → Cap n asking_heads asks_mail b
  asks_cap e b (inl p) =
      let w = asks_weight (asked_by b) in
      let z : weight (asked_by b) (us ++ h ∷ vs) items ≡ 0 = rw p (idle e (k.caps h.name)) in
      let m = total_most (λ (g : Head V). bit (asked_by b g.name h.name)) 1 (us ++ vs) (λ g i. bit_most (eqb h.name b)) in
      let s = k.size in
      let l = length-append us (h ∷ vs) in
      let r = length-append us vs in
      some (record { head = asking; there_is = in_mid asking us vs refl; is = sym p; past = λ q. let z : ◌≡◌ {A = ℕ} 0 1 = cc in omega arith }) (omega arith)
  asks_cap e b (inr p) = more (k.caps b)
    where
      more : Cap n (us ++ h ∷ vs) items b → Cap n asking_heads asks_mail b
      more (nothing z) =
          let w = asks_weight (asked_by b) in
          let m = total_zero (λ (g : Head V). bit (asked_by b g.name h.name)) (us ++ vs) (λ g i. grind (arith, nat_tests)) in
          nothing (omega arith)
      more (some a l) =
          let w = asks_weight (asked_by b) in
          let m = total_zero (λ (g : Head V). bit (asked_by b g.name h.name)) (us ++ vs) (λ g i. grind (arith, nat_tests)) in
          some (asker_change us vs h asking refl (λ q. e) a) (omega arith)

  asks_pair : h.state ≡ Listening → (a b : ℕ) → (b ≡ h.name) ⊎ (b ≡ h.name → ⊥) → weight (asked_at a b) asking_heads asks_mail ≤ bit (not (eqb a b))
  asks_pair e a b (inl p) =
      let w = asks_weight (asked_at a b) in
      let z : weight (asked_by b) (us ++ h ∷ vs) items ≡ 0 = rw p (idle e (k.caps h.name)) in
      let l = weight_less (asked_at a b) (asked_by b) (λ x y. grind (arith, nat_tests)) (us ++ h ∷ vs) items in
      let m = total_le (λ (g : Head V). bit (asked_at a b g.name h.name)) (λ (g : Head V). bit (is_named a g)) (us ++ vs) (λ g i. grind (arith, nat_tests)) in
      let d = total_append (λ (g : Head V). bit (is_named a g)) us vs in
      let f = total_put (λ (g : Head V). bit (is_named a g)) us h vs in
      let o = k.apart a in
      let s : 1 ≤ bit (eqb h.name a) + bit (not (eqb a b)) = grind (arith, nat_tests) in
      omega arith
  asks_pair e a b (inr p) =
      let w = asks_weight (asked_at a b) in
      let m = total_zero (λ (g : Head V). bit (asked_at a b g.name h.name)) (us ++ vs) (λ g i. grind (arith, nat_tests)) in
      let o = k.pairs a b in
      omega arith

  asks_once : (b : ℕ) → total (write_to b) asks_mail ≤ 1
  asks_once b =
      let a = total_append (write_to b) items asks in
      let c = total_map (write_to {V = V} b) (λ (g : Head V). inquiry h.name g.name now) (us ++ vs) in
      let d = total_zero (λ (g : Head V). 0) (us ++ vs) (λ g i. refl) in
      let o = k.once b in
      omega arith

  asks_good : (P : Item V → Type 0) → ((i : Item V) → In i items → P i) → ((g : Head V) → In g (us ++ vs) → P (inquiry h.name g.name now)) → (i : Item V) → In i asks_mail → P i
  asks_good P f g i j = elim (in_either items asks j) [
    | inl x ↦ f i x
    | inr x ↦ let (y, z, e) = map_in (λ (g : Head V). inquiry h.name g.name now) (us ++ vs) x in subst P e (g y z)
  ]

  asks_housed : h.state ≡ Listening → Housed lawful n limit next way asking_heads asks_mail
  asks_housed e =
      placed lawful n limit limit next way way us vs h asking items asks_mail k refl (omega arith)
      (λ b. asks_cap e b (cases_eq b h.name))
      (λ a b. asks_pair e a b (cases_eq b h.name))
      asks_once
      (asks_good (λ i. Here (receiver_of i) asking_heads) (λ i j. here_change us vs h asking refl (k.to_present i j)) (λ g i. record { head = g; there_is = in_more asking us vs i; is = refl }))
      (record { some = hg.some; below = hg.below; copy = hg.copy; best = hg.best; acts = λ q. let z : ◌≡◌ {A = ℕ} 0 1 = cc in absurd (omega arith) })
      (asks_good (ItemGood lawful limit way) k.items_good (λ g i. tt))

  -- the mail without the REPLY items to h
  abbrev left : List (Item V)
  left = dropping (is_reply_to h.name) items

  in_left_mail : {i : Item V} → In i left → In i items
  in_left_mail j = (kept_in (λ i. not (is_reply_to h.name i)) items j).0

  left_total : (f : Item V → ℕ) → total f left ≤ total f items
  left_total f = total_kept f (λ i. not (is_reply_to h.name i)) items

  -- it turns active with the copy c
  module _ (c : Copy V) (cg : Good lawful limit (Some c)) where
    abbrev acting : Head V
    acting = turned_by now (activates c) h

    abbrev acting_heads : List (Head V)
    acting_heads = us ++ acting ∷ vs

    abbrev answers : List ℕ
    answers = filter (λ x. inquiring_named x acting_heads) h.held

    abbrev replies : List (Item V)
    replies = map (λ x. reply h.name x now (Some c)) answers

    abbrev replies_mail : List (Item V)
    replies_mail = left ++ replies

    replies_housed : Housed lawful n limit next way acting_heads replies_mail
    replies_housed =
        changed lawful n limit limit next way way us vs h acting items replies_mail k refl (omega arith)
        (λ q. let z : ◌≡◌ {A = ℕ} 0 1 = cc in absurd (omega arith))
        (λ q.
        let a = total_append (item_weight q) left replies in
        let b = left_total (item_weight q) in
        let d = replies_weight q h (λ x. reply h.name x now (Some c)) (λ x. refl) (λ x. inquiring_named x acting_heads) in
        omega arith)
        (λ b.
        let a = total_append (write_to b) left replies in
        let e = left_total (write_to b) in
        let f = total_map (write_to {V = V} b) (λ x. reply h.name x now (Some c)) answers in
        let d = total_zero (λ (x : ℕ). 0) answers (λ g i. refl) in
        let o = k.once b in
        omega arith)
        (each (λ i. Here (receiver_of i) acting_heads) (λ i j. here_change us vs h acting refl (k.to_present i j)) (λ x e. inquiring_here x acting_heads e))
        (record { some = hg.some; below = hg.below; copy = cg; best = hg.best; acts = λ q. refl })
        (each (ItemGood lawful limit way) k.items_good (λ x e. cg))
      where
        each : (P : Item V → Type 0) → ((i : Item V) → In i items → P i) → ((x : ℕ) → inquiring_named x acting_heads ≡ true → P (reply h.name x now (Some c))) → (i : Item V) → In i replies_mail → P i
        each P f g i j = elim (in_either left replies j) [
          | inl x ↦ f i (in_left_mail x)
          | inr x ↦
              let (y, z, e) = map_in (λ x. reply h.name x now (Some c)) answers x in
              subst P e (g y (kept_in (λ x. inquiring_named x acting_heads) h.held z).1)
        ]

  abbrev stranded : Head V
  stranded = turned_by now strands h

  abbrev stranded_heads : List (Head V)
  stranded_heads = us ++ stranded ∷ vs

  strands_housed : Housed lawful n limit next way stranded_heads left
  strands_housed =
      changed lawful n limit limit next way way us vs h stranded items left k refl (omega arith)
      (λ q. let z : ◌≡◌ {A = ℕ} 0 1 = cc in absurd (omega arith))
      (λ q. let b = left_total (item_weight q) in omega arith)
      (λ b. let e = left_total (write_to b) in let o = k.once b in omega arith)
      (λ i j. here_change us vs h stranded refl (k.to_present i (in_left_mail j)))
      (record { some = hg.some; below = hg.below; copy = hg.copy; best = hg.best; acts = λ q. let z : ◌≡◌ {A = ℕ} 0 1 = cc in absurd (omega arith) })
      (λ i j. k.items_good i (in_left_mail j))

  pub turn_housed : {t : Turn V} → View lawful limit h t → Turned lawful n limit next way (us ++ turned_by now t h ∷ vs) (turn_mail places now us h vs items t)
  turn_housed resting = record { mail = items; is = refl; housed = k }
  turn_housed (inquiring e) = put_housed asking_heads items asks (asks_housed e)
  turn_housed (activating c g) = put_housed (acting_heads c g) left (replies c g) (replies_housed c g)
  turn_housed stranding = record { mail = left; is = refl; housed = strands_housed }

-- all turns of a tick, one after the other
module _ {V : Type 0} (lawful : V → Bool) (n limit next : ℕ) (way : Option UnderWay) where
  then_turned : (heads heads' : List (Head V)) (o : Option (List (Item V))) (f : List (Item V) → Option (List (Item V))) → Turned lawful n limit next way heads o → ((mail : List (Item V)) → Housed lawful n limit next way heads mail → Turned lawful n limit next way heads' (f mail)) → Turned lawful n limit next way heads' (then_do o f)
  then_turned heads heads' o f r g = rw r.is (g r.mail r.housed)

  regrouped : (before after after' : List (Head V)) (h : Head V) (f : List (Item V) → Option (List (Item V))) → ((mail : List (Item V)) → Housed lawful n limit next way ((before ++ h ∷ []) ++ after) mail → Turned lawful n limit next way ((before ++ h ∷ []) ++ after') (f mail)) → (mail : List (Item V)) → Housed lawful n limit next way (before ++ h ∷ after) mail → Turned lawful n limit next way (before ++ h ∷ after') (f mail)
  regrouped before after after' h f g mail k =
      subst (λ z. Turned lawful n limit next way z (f mail)) (append_assoc before (h ∷ []) after')
      (g mail (subst (λ z. Housed lawful n limit next way z mail) (sym (append_assoc before (h ∷ []) after)) k))

  module _ (some_head : 1 ≤ n) (places : ℕ) (fits : n * n ≤ places) (delay now : ℕ) where
    pub turns_housed : (before after : List (Head V)) (items : List (Item V)) → Housed lawful n limit next way (before ++ after) items → Turned lawful n limit next way (before ++ map (turned delay now) after) (turns_mail places delay now before after items)
    turns_housed before [] items k = record { mail = items; is = refl; housed = k }
    turns_housed before (h ∷ after) items k =
        then_turned (before ++ turned delay now h ∷ after) (before ++ turned delay now h ∷ map (turned delay now) after) (turn_mail places now before h after items (turn delay now h)) (λ mail. turns_mail places delay now (before ++ turned delay now h ∷ []) after mail)
        (turn_housed lawful n limit next way some_head places fits now before after h items k (view lawful limit next delay now h (k.heads_good h (in_mid h before after refl))))
        (regrouped before after (map (turned delay now) after) (turned delay now h) (λ mail. turns_mail places delay now (before ++ turned delay now h ∷ []) after mail) (λ mail j. turns_housed (before ++ turned delay now h ∷ []) after mail j))
