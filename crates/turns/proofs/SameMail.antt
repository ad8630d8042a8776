-- The same items in another order: the turns make the same of them.
use Rattle.std.proofs.Common.{◌≡◌, ℕ, zero, suc, ◌+◌, ◌<◌, Bool, true, false, cond, not, leb, List, [], ◌∷◌, ◌++◌, map, length, get_or, set, Some, None, filter, Option, refl, ap, ◌∙◌, subst, arith}
use Rattle.std.specs.List.Sorted.{IsPermutation}
use Rattle.std.specs.List.{swap}
use Rattle.std.proofs.lemmas.List.Sorted.{IsPermutation-refl, IsPermutation-cons, IsPermutation-trans, IsPermutation-swap, IsPermutation-keeps}
use Rattle.protocol.specs.Heads.{Head, inquiring_named}
use Rattle.protocol.specs.Items.{Item, inquiry, reply, is_reply_to, dropping, put, to_each}
use Rattle.protocol.specs.Tick.{Turn, rests, inquires, activates, strands, turn, turned, turned_by, turn_mail, turns_mail, then_do}

pub data Bag {X : Type 0} : List X → List X → Type 0 where
  same : {xs : List X} → Bag xs xs
  behind : {x : X} {xs ys : List X} → Bag xs ys → Bag (x ∷ xs) (x ∷ ys)
  swapped : {x y : X} {xs : List X} → Bag (x ∷ y ∷ xs) (y ∷ x ∷ xs)
  then : {xs ys zs : List X} → Bag xs ys → Bag ys zs → Bag xs zs

module _ {X : Type 0} where
  pub bag_shuffled : {xs ys : List X} → Bag xs ys → IsPermutation xs ys
  bag_shuffled {xs} same = IsPermutation-refl xs
  bag_shuffled (behind {x} {xs} {ys} b) = IsPermutation-cons x xs ys (bag_shuffled b)
  bag_shuffled (swapped {x} {y} {xs}) = IsPermutation-swap (x ∷ y ∷ xs) (y ∷ x ∷ xs) 0 1 (omega arith) (omega arith) refl
  bag_shuffled (then {xs} {ys} {zs} b c) = IsPermutation-trans xs ys zs (bag_shuffled b) (bag_shuffled c)

  front : (x d : X) (xs : List X) (j : ℕ) → j < length xs → Bag (x ∷ xs) (get_or xs j d ∷ set xs j x)
  front x d [] j h = absurd (omega arith)
  front x d (y ∷ ys) zero h = swapped
  front x d (y ∷ ys) (suc j) h = then swapped (then (behind (front x d ys j (omega arith))) swapped)

  exchange : (d : X) (xs : List X) (i j : ℕ) → i < length xs → j < length xs → Bag xs (set (set xs i (get_or xs j d)) j (get_or xs i d))
  exchange d [] i j h k = absurd (omega arith)
  exchange d (x ∷ xs) zero zero h k = same
  exchange d (x ∷ xs) zero (suc j) h k = front x d xs j (omega arith)
  exchange d (x ∷ xs) (suc i) zero h k = front x d xs i (omega arith)
  exchange d (x ∷ xs) (suc i) (suc j) h k = behind (exchange d xs i j (omega arith) (omega arith))

  pub bag_append : {xs ys : List X} (zs : List X) → Bag xs ys → Bag (xs ++ zs) (ys ++ zs)
  bag_append zs same = same
  bag_append zs (behind b) = behind (bag_append zs b)
  bag_append zs swapped = swapped
  bag_append zs (then b c) = then (bag_append zs b) (bag_append zs c)

  pub bag_length : {xs ys : List X} → Bag xs ys → length xs ≡ length ys
  bag_length same = refl
  bag_length (behind b) = ap suc (bag_length b)
  bag_length swapped = refl
  bag_length (then b c) = bag_length b ∙ bag_length c

  pub bag_kept : (p : X → Bool) {xs ys : List X} → Bag xs ys → Bag (filter p xs) (filter p ys)
  bag_kept p same = same
  bag_kept p (behind {x} {xs} {ys} b) = go (p x) (bag_kept p b)
    where
      go : (t : Bool) → Bag (filter p xs) (filter p ys) → Bag (cond t (x ∷ filter p xs) (filter p xs)) (cond t (x ∷ filter p ys) (filter p ys))
      go true r = behind r
      go false r = r
  bag_kept p (swapped {x} {y} {xs}) = go (p x) (p y)
    where
      go : (t u : Bool) → Bag (cond t (x ∷ cond u (y ∷ filter p xs) (filter p xs)) (cond u (y ∷ filter p xs) (filter p xs))) (cond u (y ∷ cond t (x ∷ filter p xs) (filter p xs)) (cond t (x ∷ filter p xs) (filter p xs)))
      go true true = swapped
      go true false = same
      go false true = same
      go false false = same
  bag_kept p (then b c) = then (bag_kept p b) (bag_kept p c)

abbrev pub SameMail : {V : Type 0} → Option (List (Item V)) → Option (List (Item V)) → Type 0
SameMail None None = Unit {0}
SameMail None (Some b) = ⊥
SameMail (Some a) None = ⊥
SameMail (Some a) (Some b) = Bag a b

module _ {V : Type 0} where
  pub put_same : (places : ℕ) (is js new : List (Item V)) → Bag is js → SameMail (put places is new) (put places js new)
  put_same places is js new b =
      subst (λ n. SameMail (put places is new) (cond (leb (n + length new) places) (Some (js ++ new)) None)) (bag_length b) (go (leb (length is + length new) places))
    where
      go : (t : Bool) → SameMail (cond t (Some (is ++ new)) None) (cond t (Some (js ++ new)) None)
      go true = bag_append new b
      go false = tt

  pub turn_same : (places now : ℕ) (before : List (Head V)) (h : Head V) (after : List (Head V)) (is js : List (Item V)) (t : Turn V) → Bag is js → SameMail (turn_mail places now before h after is t) (turn_mail places now before h after js t)
  turn_same places now before h after is js rests b = b
  turn_same places now before h after is js inquires b = put_same places is js (to_each (λ x. inquiry h.name x now) (before ++ after)) b
  turn_same places now before h after is js (activates c) b =
      put_same places (dropping (is_reply_to h.name) is) (dropping (is_reply_to h.name) js) (map (λ x. reply h.name x now (Some c)) (filter (λ x. inquiring_named x (before ++ turned_by now (activates c) h ∷ after)) h.held)) (bag_kept (λ i. not (is_reply_to h.name i)) b)
  turn_same places now before h after is js strands b = bag_kept (λ i. not (is_reply_to h.name i)) b

  then_same : (f : List (Item V) → Option (List (Item V))) → ((is js : List (Item V)) → Bag is js → SameMail (f is) (f js)) → (a b : Option (List (Item V))) → SameMail a b → SameMail (then_do a f) (then_do b f)
  then_same f k None None s = tt
  then_same f k None (Some b) s = absurd s
  then_same f k (Some a) None s = absurd s
  then_same f k (Some a) (Some b) s = k a b s

  -- the turns make the same of the same items
  pub turns_same : (places delay now : ℕ) (before heads : List (Head V)) (is js : List (Item V)) → Bag is js → SameMail (turns_mail places delay now before heads is) (turns_mail places delay now before heads js)
  turns_same places delay now before [] is js b = b
  turns_same places delay now before (h ∷ after) is js b =
      then_same (λ mail. turns_mail places delay now (before ++ turned delay now h ∷ []) after mail) (λ ks ls c. turns_same places delay now (before ++ turned delay now h ∷ []) after ks ls c)
      (turn_mail places now before h after is (turn delay now h)) (turn_mail places now before h after js (turn delay now h)) (turn_same places now before h after is js (turn delay now h) b)

module _ {X : Type 0} where
  one_exchange : (xs l : List X) (i j : ℕ) → i < length l → j < length l → Bag xs l → Bag xs (swap l i j)
  one_exchange xs [] i j h k b = absurd (omega arith)
  one_exchange xs (d ∷ l) i j h k b = then b (exchange d (d ∷ l) i j h k)

  pub shuffled_bag : (xs ys : List X) → IsPermutation xs ys → Bag xs ys
  shuffled_bag xs ys s = IsPermutation-keeps xs (λ l. Bag xs l) same (λ l i j h k b. one_exchange xs l i j h k b) ys s

-- what the turns make of shuffled items is shuffled
pub turns_shuffled : {V : Type 0} (places delay now : ℕ) (before heads : List (Head V)) (is js ks : List (Item V)) → IsPermutation is js → turns_mail places delay now before heads is ≡ Some ks → (ls : List (Item V)) × (turns_mail places delay now before heads js ≡ Some ls) × IsPermutation ks ls
turns_shuffled {V} places delay now before heads is js ks s e =
    go (turns_mail places delay now before heads js) (subst (λ o. SameMail o (turns_mail places delay now before heads js)) e (turns_same places delay now before heads is js (shuffled_bag is js s)))
  where
    go : (o : Option (List (Item V))) → SameMail (Some ks) o → (ls : List (Item V)) × (o ≡ Some ls) × IsPermutation ks ls
    go None q = absurd q
    go (Some ls) q = (ls, refl, bag_shuffled q)
