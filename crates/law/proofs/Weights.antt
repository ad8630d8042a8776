-- What an inquiry weighs: while its INQUIRY waits, then while its name is held, then while the REPLY waits, it is one and the same thing.
-- q tells by the head asked and the asker which inquiries are counted.
use Rattle.std.proofs.Common.{◌≡◌, ℕ, ◌+◌, ◌≤◌, Bool, true, false, cond, not, ◌&&◌, eqb, List, [], ◌∷◌, ◌++◌, map, filter, sym, refl, ◌∙◌, arith}
use Rattle.std.proofs.lemmas.Bool.Decides.{nat_tests}
use Rattle.protocol.specs.Heads.{Head, is_active, holds, holding, forgetting}
use Rattle.protocol.specs.Items.{Item, write, inquiry, reply, goes_with, dropping, receiver_of}
use Rattle.protocol.specs.Bring.{received, answered}
use Rattle.law.proofs.Totals.{bit, total, total_append, total_put, total_kept, total_map, total_le, total_zero}

abbrev pub Pairs : Type 0
Pairs = ℕ → ℕ → Bool

abbrev pub item_weight : {V : Type 0} → Pairs → Item V → ℕ
item_weight q (write a b t c) = 0
item_weight q (inquiry a b t) = bit (q b a)
item_weight q (reply a b t c) = bit (q a b)

abbrev pub head_weight : {V : Type 0} → Pairs → Head V → ℕ
head_weight q h = total (λ x. bit (q h.name x)) h.held

abbrev pub weight : {V : Type 0} → Pairs → List (Head V) → List (Item V) → ℕ
weight q heads items = total (item_weight q) items + total (head_weight q) heads

-- the inquiries of b
abbrev pub asked_by : ℕ → Pairs
asked_by b x y = eqb y b

-- the inquiry of b at a
abbrev pub asked_at : ℕ → ℕ → Pairs
asked_at a b x y = eqb x a && eqb y b

-- a WRITE to b
abbrev pub write_to : {V : Type 0} → ℕ → Item V → ℕ
write_to x (write a b t c) = bit (eqb b x)
write_to x (inquiry a b t) = 0
write_to x (reply a b t c) = 0

-- bring keeps the weight or lowers it
module _ {V : Type 0} (q : Pairs) (time : ℕ) (h : Head V) where
  holding_weight : (a : ℕ) (b : Bool) → total (λ x. bit (q h.name x)) (cond b h.held (h.held ++ a ∷ [])) ≤ bit (q h.name a) + head_weight q h
  holding_weight a true = omega arith
  holding_weight a false = let e = total_append (λ x. bit (q h.name x)) h.held (a ∷ []) in omega arith

  pub received_weight : (i : Item V) (b : ℕ) → h.name ≡ b → receiver_of i ≡ b → head_weight q (received i h) + total (item_weight q) (answered time h i) ≤ item_weight q i + head_weight q h
  received_weight (write a b t c) x e f = omega arith
  received_weight (inquiry a b t) x e f = let g : b ≡ h.name = f ∙ sym e in go (is_active h.state) (rw g refl)
    where
      go : (y : Bool) → bit (q b a) ≡ bit (q h.name a) → head_weight q (cond y h (holding a h)) + total (item_weight q) (cond y (reply h.name a time h.copy ∷ []) []) ≤ bit (q b a) + head_weight q h
      go true g = omega arith
      go false g = omega (arith, holding_weight a (holds a h))
  received_weight (reply a b t c) x e f = omega arith

  pub answered_writes : (b : ℕ) (i : Item V) → total (write_to b) (answered time h i) ≡ 0
  answered_writes x (write a b t c) = refl
  answered_writes x (inquiry a b t) = go (is_active h.state)
    where
      go : (y : Bool) → total (write_to x) (cond y (reply h.name a time h.copy ∷ []) []) ≡ 0
      go true = refl
      go false = refl
  answered_writes x (reply a b t c) = refl

-- one head is replaced
pub weight_put : {V : Type 0} (q : Pairs) (us : List (Head V)) (h : Head V) (vs : List (Head V)) (items : List (Item V)) → weight q (us ++ h ∷ vs) items ≡ (total (item_weight q) items + total (head_weight q) us) + (head_weight q h + total (head_weight q) vs)
weight_put q us h vs items = let e = total_put (head_weight q) us h vs in omega arith

pub weight_change : {V : Type 0} (q : Pairs) (us : List (Head V)) (h h' : Head V) (vs : List (Head V)) (items items' : List (Item V)) → head_weight q h' + total (item_weight q) items' ≤ total (item_weight q) items + head_weight q h → weight q (us ++ h' ∷ vs) items' ≤ weight q (us ++ h ∷ vs) items
weight_change q us h h' vs items items' le = let a = weight_put q us h vs items in let b = weight_put q us h' vs items' in omega arith

-- a head that turns trades the names it holds for REPLY items
pub replies_weight : {V : Type 0} (q : Pairs) (h : Head V) (make : ℕ → Item V) → ((x : ℕ) → item_weight q (make x) ≡ bit (q h.name x)) → (p : ℕ → Bool) → total (item_weight q) (map make (filter p h.held)) ≤ head_weight q h
replies_weight q h make e p =
    let a = total_map (item_weight q) make (filter p h.held) in
    let b = total_le (λ x. item_weight q (make x)) (λ x. bit (q h.name x)) (filter p h.held) (λ x i. let z = e x in omega arith) in
    let c = total_kept (λ x. bit (q h.name x)) p h.held in
    omega arith

-- a swap of x
pub forgetting_weight : {V : Type 0} (q : Pairs) (x : ℕ) (heads : List (Head V)) → total (head_weight q) (map (forgetting x) heads) ≤ total (head_weight q) heads
forgetting_weight q x heads =
    let a = total_map (head_weight q) (forgetting x) heads in
    let b = total_le (λ h. head_weight q (forgetting x h)) (head_weight q) heads (λ h i. total_kept (λ y. bit (q h.name y)) (λ y. not (eqb y x)) h.held) in
    omega arith

kept_none : (p : ℕ → Bool) (f : ℕ → ℕ) (xs : List ℕ) → ((y : ℕ) → p y ≡ true → f y ≡ 0) → total f (filter p xs) ≡ 0
kept_none p f [] h = refl
kept_none p f (y ∷ ys) h = go (p y) refl (kept_none p f ys h)
  where
    go : (b : Bool) → p y ≡ b → total f (filter p ys) ≡ 0 → total f (cond b (y ∷ filter p ys) (filter p ys)) ≡ 0
    go true e r = let z = h y e in omega arith
    go false e r = r

pub forgotten_weight : {V : Type 0} (x : ℕ) (heads : List (Head V)) → total (head_weight (asked_by x)) (map (forgetting x) heads) ≡ 0
forgotten_weight x heads =
    let a = total_map (head_weight (asked_by x)) (forgetting x) heads in
    let b = total_zero (λ h. head_weight (asked_by x) (forgetting x h)) heads (λ h i. kept_none (λ y. not (eqb y x)) (λ y. bit (eqb y x)) h.held (λ y e. grind (arith, nat_tests))) in
    omega arith

pub dropped_weight : {V : Type 0} (x : ℕ) (items : List (Item V)) → total (item_weight (asked_by x)) (dropping (goes_with x) items) ≡ 0
dropped_weight x [] = refl
dropped_weight {V} x (i ∷ is) = go i (goes_with x i) refl (dropped_weight x is)
  where
    go : (i : Item V) (b : Bool) → goes_with x i ≡ b → total (item_weight (asked_by x)) (dropping (goes_with x) is) ≡ 0 → total (item_weight (asked_by x)) (cond (not b) (i ∷ dropping (goes_with x) is) (dropping (goes_with x) is)) ≡ 0
    go i true e r = r
    go (write a b t c) false e r = omega arith
    go (inquiry a b t) false e r = let z : bit (eqb a x) ≡ 0 = grind (arith, nat_tests) in omega arith
    go (reply a b t c) false e r = let z : bit (eqb b x) ≡ 0 = grind (arith, nat_tests) in omega arith

-- what is counted by r is counted by q
pub weight_less : {V : Type 0} (q r : Pairs) → ((x y : ℕ) → bit (q x y) ≤ bit (r x y)) → (heads : List (Head V)) (items : List (Item V)) → weight q heads items ≤ weight r heads items
weight_less {V} q r le heads items =
    let a = total_le (item_weight q) (item_weight r) items (λ i j. one i) in
    let b = total_le (head_weight q) (head_weight r) heads (λ h i. total_le (λ x. bit (q h.name x)) (λ x. bit (r h.name x)) h.held (λ x j. le h.name x)) in
    omega arith
  where
    one : (i : Item V) → item_weight q i ≤ item_weight r i
    one (write a b t c) = omega arith
    one (inquiry a b t) = le b a
    one (reply a b t c) = le a b
