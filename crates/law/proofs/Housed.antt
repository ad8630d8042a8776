-- There is room for the mail: each asker has fewer than n inquiries on their way, and each head at most one WRITE.
-- What is kept of heads and mail between calls, and between the turns of a tick.
use Rattle.std.proofs.Common.{◌≡◌, ℕ, ◌+◌, ◌*◌, ◌<◌, ◌≤◌, Bool, true, false, cond, not, eqb, ltb, List, ◌∷◌, ◌++◌, length, is_some, Some, None, Option, sym, refl, ap, ◌∙◌, subst, inl, inr, arith}
use Rattle.std.proofs.lemmas.List.{length-append}
use Rattle.std.proofs.lemmas.Bool.Decides.{nat_tests}
use Rattle.protocol.specs.declared.state.HeadState.TheVariants.{Listening, Active}
use Rattle.protocol.specs.Heads.{Copy, Head, is_named, newer}
use Rattle.protocol.specs.Items.{Item, write, inquiry, reply, receiver_of}
use Rattle.protocol.specs.Sites.{UnderWay}
use Rattle.law.proofs.Coded.{In}
use Rattle.law.proofs.Base.{in_less, in_more, in_mid}
use Rattle.law.proofs.Totals.{bit, total, total_append, total_put, total_has, total_most, total_length, total_under, total_plus}
use Rattle.law.proofs.Weights.{Pairs, item_weight, head_weight, weight, asked_by, asked_at, write_to, weight_change}

-- a head with this name is there
pub record Here {V : Type 0} (x : ℕ) (heads : List (Head V)) : Type 0 where
  pub head : Head V
  pub there_is : In head heads
  pub is : head.name ≡ x

-- and it listens no more
pub record Asker {V : Type 0} (x : ℕ) (heads : List (Head V)) : Type 0 where
  pub head : Head V
  pub there_is : In head heads
  pub is : head.name ≡ x
  pub past : head.state ≡ Listening → ⊥

-- only who listens no more has inquiries on their way, fewer than n
pub data Cap {V : Type 0} (n : ℕ) (heads : List (Head V)) (items : List (Item V)) (b : ℕ) : Type 0 where
  nothing : weight (asked_by b) heads items ≡ 0 → Cap n heads items b
  some : Asker b heads → weight (asked_by b) heads items < n → Cap n heads items b

abbrev pub named : {V : Type 0} → ℕ → List (Head V) → ℕ
named x heads = total (λ h. bit (is_named x h)) heads

-- lawful, and its stamp is in bounds
abbrev pub Good : {V : Type 0} → (V → Bool) → ℕ → Option (Copy V) → Type 0
Good lawful limit None = Unit {0}
Good lawful limit (Some c) = (lawful c.value ≡ true) × (c.stamp ≤ limit)

pub record HeadGood {V : Type 0} (lawful : V → Bool) (limit next : ℕ) (h : Head V) : Type 0 where
  pub some : 1 ≤ h.name
  pub below : h.name < next
  pub copy : Good lawful limit h.copy
  pub best : Good lawful limit h.best
  pub acts : h.state ≡ Active → is_some h.copy ≡ true

-- sent at the begin of the write under way
abbrev pub Begun : ℕ → Option UnderWay → Type 0
Begun t None = ⊥
Begun t (Some u) = t ≡ u.begin

abbrev pub ItemGood : {V : Type 0} → (V → Bool) → ℕ → Option UnderWay → Item V → Type 0
ItemGood lawful limit way (write a b t c) = Good lawful limit c × (a ≡ b → ⊥) × Begun t way
ItemGood lawful limit way (inquiry a b t) = Unit {0}
ItemGood lawful limit way (reply a b t c) = Good lawful limit c

pub record Housed {V : Type 0} (lawful : V → Bool) (n limit next : ℕ) (way : Option UnderWay) (heads : List (Head V)) (items : List (Item V)) : Type 0 where
  pub size : length heads ≡ n
  pub apart : (x : ℕ) → named x heads ≤ 1
  pub caps : (b : ℕ) → Cap n heads items b
  pub pairs : (a b : ℕ) → weight (asked_at a b) heads items ≤ bit (not (eqb a b))
  pub once : (b : ℕ) → total (write_to b) items ≤ 1
  pub to_present : (i : Item V) → In i items → Here (receiver_of i) heads
  pub heads_good : (h : Head V) → In h heads → HeadGood lawful limit next h
  pub items_good : (i : Item V) → In i items → ItemGood lawful limit way i

pub newer_good : {V : Type 0} (lawful : V → Bool) (limit : ℕ) (a b : Option (Copy V)) → Good lawful limit a → Good lawful limit b → Good lawful limit (newer a b)
newer_good lawful limit a None p q = p
newer_good lawful limit None (Some c) p q = q
newer_good lawful limit (Some b) (Some c) p q = go (ltb b.stamp c.stamp)
  where
    go : (x : Bool) → Good lawful limit (cond x (Some c) (Some b))
    go true = q
    go false = p

pub newer_some : {V : Type 0} (a b : Option (Copy V)) → is_some a ≡ true → is_some (newer a b) ≡ true
newer_some a None p = p
newer_some None (Some c) p = refl
newer_some (Some b) (Some c) p = go (ltb b.stamp c.stamp)
  where
    go : (x : Bool) → is_some (cond x (Some c) (Some b)) ≡ true
    go true = refl
    go false = refl

pub good_more : {V : Type 0} (lawful : V → Bool) (limit limit' : ℕ) → limit ≤ limit' → (a : Option (Copy V)) → Good lawful limit a → Good lawful limit' a
good_more lawful limit limit' le None g = tt
good_more lawful limit limit' le (Some c) g = (g.0, omega arith)

module _ {V : Type 0} (n : ℕ) (heads heads' : List (Head V)) (items items' : List (Item V)) where
  -- a cap stays where the weight does not grow and the asker is still there
  pub cap_lighter : (b : ℕ) → weight (asked_by b) heads' items' ≤ weight (asked_by b) heads items → (Asker b heads → Asker b heads') → Cap n heads items b → Cap n heads' items' b
  cap_lighter b le f (nothing e) = nothing (omega arith)
  cap_lighter b le f (some k l) = some (f k) (omega arith)

module _ {V : Type 0} (us vs : List (Head V)) (h h' : Head V) (e : h'.name ≡ h.name) where
  pub here_change : {x : ℕ} → Here x (us ++ h ∷ vs) → Here x (us ++ h' ∷ vs)
  here_change {x} k = elim (in_less h us vs k.there_is) [
    | inl p ↦ record { head = h'; there_is = in_mid h' us vs refl; is = e ∙ ap (λ g. g.name) p ∙ k.is }
    | inr i ↦ record { head = k.head; there_is = in_more h' us vs i; is = k.is }
  ]

  pub asker_change : {x : ℕ} → (h'.state ≡ Listening → h.state ≡ Listening) → Asker x (us ++ h ∷ vs) → Asker x (us ++ h' ∷ vs)
  asker_change {x} f k = elim (in_less h us vs k.there_is) [
    | inl p ↦ record { head = h'; there_is = in_mid h' us vs refl; is = e ∙ ap (λ g. g.name) p ∙ k.is; past = λ q. k.past (ap (λ g. g.state) (sym p) ∙ f q) }
    | inr i ↦ record { head = k.head; there_is = in_more h' us vs i; is = k.is; past = k.past }
  ]

  pub named_change : (x : ℕ) → named x (us ++ h' ∷ vs) ≡ named x (us ++ h ∷ vs)
  named_change x =
      let a = total_put (λ g. bit (is_named x g)) us h vs in
      let b = total_put (λ g. bit (is_named x g)) us h' vs in
      let c : bit (eqb h'.name x) ≡ bit (eqb h.name x) = rw e refl in
      omega arith

  pub length_change : length (us ++ h' ∷ vs) ≡ length (us ++ h ∷ vs)
  length_change = let a = length-append us (h ∷ vs) in let b = length-append us (h' ∷ vs) in omega arith

-- no other head has the name of h
pub other_name : {V : Type 0} (us vs : List (Head V)) (h g : Head V) → ((x : ℕ) → named x (us ++ h ∷ vs) ≤ 1) → In g (us ++ vs) → g.name ≡ h.name → ⊥
other_name us vs h g apart i e =
    let a = total_has (λ z. bit (is_named h.name z)) (us ++ vs) i in
    let b : bit (eqb g.name h.name) ≡ 1 = grind (arith, nat_tests) in
    let c : bit (eqb h.name h.name) ≡ 1 = grind (arith, nat_tests) in
    let d = total_append (λ z. bit (is_named h.name z)) us vs in
    let f = total_put (λ z. bit (is_named h.name z)) us h vs in
    let o = apart h.name in
    omega arith

module _ {V : Type 0} (lawful : V → Bool) (n limit next : ℕ) (way : Option UnderWay) (heads : List (Head V)) (items : List (Item V)) (k : Housed lawful n limit next way heads items) where
  heavy : (b : ℕ) → 1 ≤ weight (asked_by b) heads items → Cap n heads items b → Asker b heads
  heavy b le (nothing e) = absurd (omega arith)
  heavy b le (some a l) = a

  -- the sender of an INQUIRY is present
  pub sender_asks : {a b t : ℕ} → In (inquiry a b t) items → Asker a heads
  sender_asks {a} {b} {t} i =
      let one : bit (eqb a a) ≡ 1 = grind (arith, nat_tests) in
      let has = total_has (item_weight (asked_by a)) items i in
      heavy a (omega arith) (k.caps a)

  -- and so is who is held
  pub held_asks : (h : Head V) → In h heads → (x : ℕ) → In x h.held → Asker x heads
  held_asks h i x j =
      let one : bit (eqb x x) ≡ 1 = grind (arith, nat_tests) in
      let has = total_has (λ y. bit (eqb y x)) h.held j in
      let most = total_has (head_weight (asked_by x)) heads i in
      heavy x (omega arith) (k.caps x)

  light : (b : ℕ) → Cap n heads items b → 1 ≤ n → total (item_weight (asked_by b)) items + 1 ≤ n
  light b (nothing e) p = omega arith
  light b (some a l) p = omega arith

  counted : (i : Item V) → In i items → 1 ≤ total (λ h. item_weight (asked_by h.name) i + write_to h.name i) heads
  counted (write a b t c) i =
      let g = k.to_present (write a b t c) i in
      let has = total_has (λ h. item_weight (asked_by h.name) (write a b t c) + write_to h.name (write a b t c)) heads g.there_is in
      let one : bit (eqb b g.head.name) ≡ 1 = let e = g.is in grind (arith, nat_tests) in
      omega arith
  counted (inquiry a b t) i =
      let g : Asker a heads = sender_asks i in
      let has = total_has (λ (h : Head V). item_weight {V = V} (asked_by h.name) (inquiry a b t) + write_to {V = V} h.name (inquiry a b t)) heads g.there_is in
      let one : bit (eqb a g.head.name) ≡ 1 = let e = g.is in grind (arith, nat_tests) in
      omega arith
  counted (reply a b t c) i =
      let g = k.to_present (reply a b t c) i in
      let has = total_has (λ h. item_weight (asked_by h.name) (reply a b t c) + write_to h.name (reply a b t c)) heads g.there_is in
      let one : bit (eqb b g.head.name) ≡ 1 = let e = g.is in grind (arith, nat_tests) in
      omega arith

  -- at most n × n items
  pub room : 1 ≤ n → length items ≤ n * n
  room p =
      let a = total_length items in
      let b = total_under (λ _. 1) (λ (h : Head V). λ i. item_weight (asked_by h.name) i + write_to h.name i) heads items counted in
      let c = total_most (λ (h : Head V). total (λ i. item_weight (asked_by h.name) i + write_to h.name i) items) n heads (λ h i.
      let d = total_plus (item_weight (asked_by h.name)) (write_to h.name) items in
      let e = light h.name (k.caps h.name) p in
      let f = k.once h.name in
      omega arith) in
      let z : length heads * n ≡ n * n = rw k.size refl in
      omega arith

-- one head is replaced by a like one, and the mail changes
module _ {V : Type 0} (lawful : V → Bool) (n limit limit' next : ℕ) (way way' : Option UnderWay) (us vs : List (Head V)) (h h' : Head V) (items items' : List (Item V)) (k : Housed lawful n limit next way (us ++ h ∷ vs) items) (e : h'.name ≡ h.name) (le : limit ≤ limit') where
  others_good : HeadGood lawful limit' next h' → (g : Head V) → In g (us ++ h' ∷ vs) → HeadGood lawful limit' next g
  others_good p g i = elim (in_less h' us vs i) [
    | inl q ↦ subst (λ x. HeadGood lawful limit' next x) q p
    | inr j ↦
        let o = k.heads_good g (in_more h us vs j) in
        record { some = o.some; below = o.below; copy = good_more lawful limit limit' le g.copy o.copy; best = good_more lawful limit limit' le g.best o.best; acts = o.acts }
  ]

  pub placed : ((b : ℕ) → Cap n (us ++ h' ∷ vs) items' b) → ((a b : ℕ) → weight (asked_at a b) (us ++ h' ∷ vs) items' ≤ bit (not (eqb a b))) → ((b : ℕ) → total (write_to b) items' ≤ 1) → ((i : Item V) → In i items' → Here (receiver_of i) (us ++ h' ∷ vs)) → HeadGood lawful limit' next h' → ((i : Item V) → In i items' → ItemGood lawful limit' way' i) → Housed lawful n limit' next way' (us ++ h' ∷ vs) items'
  placed c p o t hg ig = record {
    size = length_change us vs h h' e ∙ k.size;
    apart = λ x. let a = named_change us vs h h' e x in let b = k.apart x in omega arith;
    caps = c;
    pairs = p;
    once = o;
    to_present = t;
    heads_good = others_good hg;
    items_good = ig;
  }

  -- no weight is added
  pub changed : (h'.state ≡ Listening → h.state ≡ Listening) → ((q : Pairs) → head_weight q h' + total (item_weight q) items' ≤ total (item_weight q) items + head_weight q h) → ((b : ℕ) → total (write_to b) items' ≤ 1) → ((i : Item V) → In i items' → Here (receiver_of i) (us ++ h' ∷ vs)) → HeadGood lawful limit' next h' → ((i : Item V) → In i items' → ItemGood lawful limit' way' i) → Housed lawful n limit' next way' (us ++ h' ∷ vs) items'
  changed s w o t hg ig = placed
      (λ b. cap_lighter n (us ++ h ∷ vs) (us ++ h' ∷ vs) items items' b (weight_change (asked_by b) us h h' vs items items' (w (asked_by b))) (asker_change us vs h h' e s) (k.caps b))
      (λ a b. let x = weight_change (asked_at a b) us h h' vs items items' (w (asked_at a b)) in let y = k.pairs a b in omega arith)
      o t hg ig
