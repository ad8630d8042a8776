-- Bring keeps the heads and the mail housed: an inquiry that goes on weighs what it weighed.
use Rattle.std.proofs.Common.{◌≡◌, ℕ, Bool, true, false, cond, ◌&&◌, eqb, List, [], ◌∷◌, ◌++◌, is_some, Option, sym, refl, ◌∙◌, subst, inl, inr, arith}
use Rattle.std.proofs.lemmas.Bool.{and_parts, eqb-true, false≢true}
use Rattle.protocol.specs.declared.kind.MailKind.{MailKind}
use Rattle.protocol.specs.Places.{all_but_first}
use Rattle.protocol.specs.Heads.{Head, is_named, is_active, holding}
use Rattle.protocol.specs.Items.{Item, write, inquiry, reply, kind_of, sender_of, receiver_of, same_kind, is_told}
use Rattle.protocol.specs.Bring.{received, answered, bring_heads, bring_answers}
use Rattle.protocol.specs.Sites.{UnderWay}
use Rattle.law.proofs.Coded.{In, here, there}
use Rattle.law.proofs.Base.{in_more, in_mid, in_either}
use Rattle.law.proofs.Firsts.{Found, absent, present}
use Rattle.law.proofs.Totals.{total_append, total_put}
use Rattle.law.proofs.Weights.{item_weight, write_to, received_weight, answered_writes}
use Rattle.law.proofs.Housed.{Here, HeadGood, ItemGood, Housed, newer_good, newer_some, here_change, sender_asks, changed}

module _ {V : Type 0} (h : Head V) where
  pub received_name : (i : Item V) → (received i h).name ≡ h.name
  received_name (write a b t c) = refl
  received_name (inquiry a b t) = go (is_active h.state)
    where
      go : (y : Bool) → (cond y h (holding a h)).name ≡ h.name
      go true = refl
      go false = refl
  received_name (reply a b t c) = refl

  received_state : (i : Item V) → (received i h).state ≡ h.state
  received_state (write a b t c) = refl
  received_state (inquiry a b t) = go (is_active h.state)
    where
      go : (y : Bool) → (cond y h (holding a h)).state ≡ h.state
      go true = refl
      go false = refl
  received_state (reply a b t c) = refl

  -- only an INQUIRY is answered
  answered_each : (P : Item V → Type 0) (time : ℕ) (i : Item V) → ((a b t : ℕ) → i ≡ inquiry a b t → P (reply h.name a time h.copy)) → (j : Item V) → In j (answered time h i) → P j
  answered_each P time (write a b t c) f j x = elim x [ ]
  answered_each P time (inquiry a b t) f j x = go (is_active h.state) x
    where
      go : (y : Bool) → In j (cond y (reply h.name a time h.copy ∷ []) []) → P j
      go true (here e) = subst P e (f a b t refl)
      go true (there z) = elim z [ ]
      go false z = elim z [ ]
  answered_each P time (reply a b t c) f j x = elim x [ ]

  received_good : (lawful : V → Bool) (limit next : ℕ) (way : Option UnderWay) (i : Item V) → ItemGood lawful limit way i → HeadGood lawful limit next h → HeadGood lawful limit next (received i h)
  received_good lawful limit next way (write a b t c) g k = record { some = k.some; below = k.below; copy = newer_good lawful limit h.copy c k.copy g.0; best = k.best; acts = λ e. newer_some h.copy c (k.acts e) }
  received_good lawful limit next way (inquiry a b t) g k = go (is_active h.state)
    where
      go : (y : Bool) → HeadGood lawful limit next (cond y h (holding a h))
      go true = k
      go false = record { some = k.some; below = k.below; copy = k.copy; best = k.best; acts = k.acts }
  received_good lawful limit next way (reply a b t c) g k = record { some = k.some; below = k.below; copy = k.copy; best = newer_good lawful limit h.best c k.best g; acts = k.acts }

module _ {V : Type 0} (lawful : V → Bool) (n limit next time : ℕ) (way : Option UnderWay) where
  brought_housed : (us vs : List (Head V)) (h : Head V) (xs ys : List (Item V)) (i : Item V) (b : ℕ) → Housed lawful n limit next way (us ++ h ∷ vs) (xs ++ i ∷ ys) → h.name ≡ b → receiver_of i ≡ b → Housed lawful n limit next way (us ++ received i h ∷ vs) ((xs ++ ys) ++ answered time h i)
  brought_housed us vs h xs ys i b k e f =
      changed lawful n limit limit next way way us vs h (received i h) (xs ++ i ∷ ys) ((xs ++ ys) ++ answered time h i) k (received_name h i) (omega arith)
      (λ p. sym (received_state h i) ∙ p)
      (λ q.
      let w = received_weight q time h i b e f in
      let x = total_append (item_weight q) (xs ++ ys) (answered time h i) in
      let y = total_append (item_weight q) xs ys in
      let z = total_put (item_weight q) xs i ys in
      omega arith)
      (λ c.
      let w = answered_writes {V = V} (λ _ _. true) time h c i in
      let x = total_append (write_to c) (xs ++ ys) (answered time h i) in
      let y = total_append (write_to c) xs ys in
      let z = total_put (write_to c) xs i ys in
      let o = k.once c in
      omega arith)
      (λ j x. elim (in_either (xs ++ ys) (answered time h i) x) [
        | inl y ↦ here_change us vs h (received i h) (received_name h i) (k.to_present j (in_more i xs ys y))
        | inr y ↦ here_change us vs h (received i h) (received_name h i) (answered_each h (λ m. Here (receiver_of m) (us ++ h ∷ vs)) time i (λ a c t p. asks a c t p) j y)
      ])
      (received_good h lawful limit next way i (k.items_good i (in_mid i xs ys refl)) hg)
      (λ j x. elim (in_either (xs ++ ys) (answered time h i) x) [
        | inl y ↦ k.items_good j (in_more i xs ys y)
        | inr y ↦ answered_each h (ItemGood lawful limit way) time i (λ a c t p. hg.copy) j y
      ])
    where
      hg : HeadGood lawful limit next h
      hg = k.heads_good h (in_mid h us vs refl)

      asks : (a c t : ℕ) → i ≡ inquiry a c t → Here a (us ++ h ∷ vs)
      asks a c t p =
          let s = sender_asks lawful n limit next way (us ++ h ∷ vs) (xs ++ i ∷ ys) k {a = a} {b = c} {t = t} (in_mid i xs ys p) in
          record { head = s.head; there_is = s.there_is; is = s.is }

  pub bring_housed : (heads : List (Head V)) (items : List (Item V)) (kind : MailKind) (a b : ℕ) → Housed lawful n limit next way heads items → {oi : Option (Item V)} {oh : Option (Head V)} → Found (is_told kind a b) items oi → Found (is_named b) heads oh → is_some oi ≡ true → is_some oh ≡ true → Housed lawful n limit next way (bring_heads b oi heads) (all_but_first (is_told kind a b) items ++ bring_answers time oh oi)
  bring_housed heads items kind a b k (absent f) g p q = absurd (false≢true p)
  bring_housed heads items kind a b k (present i si) (absent g) p q = absurd (false≢true q)
  bring_housed heads items kind a b k (present i si) (present h sh) p q =
      let k' : Housed lawful n limit next way (sh.us ++ h ∷ sh.vs) (si.us ++ i ∷ si.vs) = subst (λ z. Housed lawful n limit next way z (si.us ++ i ∷ si.vs)) sh.whole (subst (λ z. Housed lawful n limit next way heads z) si.whole k) in
      let t = (and_parts (eqb (sender_of i) a) (eqb (receiver_of i) b) (and_parts (same_kind kind (kind_of i)) (eqb (sender_of i) a && eqb (receiver_of i) b) si.passes).1).1 in
      rw (sh.changed (received i), si.rest) (brought_housed sh.us sh.vs h si.us si.vs i b k' (eqb-true h.name b sh.passes) (eqb-true (receiver_of i) b t))
