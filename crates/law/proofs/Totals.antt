-- Sums over a list, and how many there can be where each is counted under some name.
use Rattle.std.proofs.Common.{◌≡◌, ℕ, ◌+◌, ◌*◌, ◌≤◌, Bool, true, false, cond, List, [], ◌∷◌, ◌++◌, map, length, sum_by, filter, refl, ap, arith}
use Rattle.std.specs.List.Sorted.{IsPermutation}
use Rattle.std.proofs.lemmas.List.Sorted.{sum_by-IsPermutation}
use Rattle.std.proofs.lemmas.List.Sums.{sum_by-cons}
use Rattle.law.proofs.Coded.{In, here, there}

abbrev pub bit : Bool → ℕ
bit b = cond b 1 0

abbrev pub total : {X : Type 0} → (X → ℕ) → List X → ℕ
total f [] = 0
total f (x ∷ xs) = f x + total f xs

pub bit_most : (b : Bool) → bit b ≤ 1
bit_most true = omega arith
bit_most false = omega arith

module _ {X : Type 0} (f : X → ℕ) where
  pub total_append : (xs ys : List X) → total f (xs ++ ys) ≡ total f xs + total f ys
  total_append [] ys = omega arith
  total_append (x ∷ xs) ys = let r = total_append xs ys in omega arith

  pub total_sum : (xs : List X) → sum_by f xs ≡ total f xs
  total_sum [] = refl
  total_sum (x ∷ xs) = let r = total_sum xs in let q = sum_by-cons f x xs in omega arith

  pub total_shuffled : (xs ys : List X) → IsPermutation xs ys → total f ys ≡ total f xs
  total_shuffled xs ys h = let a = total_sum xs in let b = total_sum ys in let c = sum_by-IsPermutation f xs ys h in omega arith

  pub total_has : {x : X} (xs : List X) → In x xs → f x ≤ total f xs
  total_has [] i = elim i [ ]
  total_has {x} (y ∷ xs) (here e) = let q : f y ≡ f x = ap f e in omega arith
  total_has (y ∷ xs) (there i) = let r = total_has xs i in omega arith

  pub total_kept : (p : X → Bool) (xs : List X) → total f (filter p xs) ≤ total f xs
  total_kept p [] = omega arith
  total_kept p (x ∷ xs) = go (p x) (total_kept p xs)
    where
      go : (b : Bool) → total f (filter p xs) ≤ total f xs → total f (cond b (x ∷ filter p xs) (filter p xs)) ≤ f x + total f xs
      go true r = omega arith
      go false r = omega arith

  pub total_most : (k : ℕ) (xs : List X) → ((x : X) → In x xs → f x ≤ k) → total f xs ≤ length xs * k
  total_most k [] h = omega arith
  total_most k (x ∷ xs) h = let a = h x (here refl) in let r = total_most k xs (λ y i. h y (there i)) in omega arith

  pub total_zero : (xs : List X) → ((x : X) → In x xs → f x ≡ 0) → total f xs ≡ 0
  total_zero [] h = refl
  total_zero (x ∷ xs) h = let a = h x (here refl) in let r = total_zero xs (λ y i. h y (there i)) in omega arith

-- one element by another, in its place
pub total_put : {X : Type 0} (f : X → ℕ) (us : List X) (x : X) (vs : List X) → total f (us ++ x ∷ vs) ≡ total f us + (f x + total f vs)
total_put f us x vs = total_append f us (x ∷ vs)

module _ {X : Type 0} (f g : X → ℕ) where
  pub total_le : (xs : List X) → ((x : X) → In x xs → f x ≤ g x) → total f xs ≤ total g xs
  total_le [] h = omega arith
  total_le (x ∷ xs) h = let a = h x (here refl) in let r = total_le xs (λ y i. h y (there i)) in omega arith

  pub total_plus : (xs : List X) → total (λ x. f x + g x) xs ≡ total f xs + total g xs
  total_plus [] = refl
  total_plus (x ∷ xs) = let r = total_plus xs in omega arith

pub total_map : {X Y : Type 0} (f : Y → ℕ) (g : X → Y) (xs : List X) → total f (map g xs) ≡ total (λ x. f (g x)) xs
total_map f g [] = refl
total_map f g (x ∷ xs) = let r = total_map f g xs in omega arith

pub total_length : {X : Type 0} (xs : List X) → total (λ _. 1) xs ≡ length xs
total_length [] = refl
total_length (x ∷ xs) = let r = total_length xs in omega arith

-- what is counted under one of these names is no more than all that is counted under them
pub total_under : {X Y : Type 0} (u : X → ℕ) (f : Y → X → ℕ) (ys : List Y) (xs : List X) → ((x : X) → In x xs → u x ≤ total (λ y. f y x) ys) → total u xs ≤ total (λ y. total (f y) xs) ys
total_under u f ys [] h = omega arith
total_under u f ys (x ∷ xs) h =
    let a = h x (here refl) in
    let r = total_under u f ys xs (λ z i. h z (there i)) in
    let q = total_plus (λ y. f y x) (λ y. total (f y) xs) ys in
    omega arith
