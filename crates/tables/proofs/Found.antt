-- The first that passes a test, by its place: what stands there, and the list without it or with another in its place.
use Rattle.std.proofs.Common.{◌≡◌, ℕ, zero, suc, ◌+◌, ◌<◌, Bool, true, false, cond, ◌⊎◌, List, [], ◌∷◌, map, length, get_or, set, Some, None, Option, sym, refl, ap, ◌∙◌, subst, inl, inr, arith}
use Rattle.std.specs.List.{remove}
use Rattle.std.proofs.lemmas.Bool.{cond-true, cond-false}
use Rattle.protocol.specs.Places.{first, all_but_first, change_first}
use Rattle.tables.specs.FirstPlaces.{place_from, place_of, both_places}

-- the first of the list that passes stands in this place
pub data Found {X : Type 0} (p : X → Bool) : List X → ℕ → Type 0 where
  here : {x : X} {xs : List X} → p x ≡ true → Found p (x ∷ xs) zero
  later : {x : X} {xs : List X} {k : ℕ} → p x ≡ false → Found p xs k → Found p (x ∷ xs) (suc k)

abbrev FoundFrom : {X : Type 0} → (X → Bool) → List X → ℕ → ℕ → Type 0
FoundFrom p xs i j = (k : ℕ) × (j ≡ i + k) × Found p xs k

module _ {X : Type 0} (p : X → Bool) where
  one_more : (x : X) (xs : List X) (i j : ℕ) → (place_from p (i + 1) xs ≡ Some j → FoundFrom p xs (i + 1) j) → (b : Bool) → p x ≡ b → cond b (Some i) (place_from p (i + 1) xs) ≡ Some j → FoundFrom p (x ∷ xs) i j
  one_more x xs i j ih true t e = let q : i ≡ j = cc in (zero, omega arith, here t)
  one_more x xs i j ih false t e = let r = ih e in (suc r.0, omega (arith, r.1), later t r.2)

  found_from : (xs : List X) (i j : ℕ) → place_from p i xs ≡ Some j → FoundFrom p xs i j
  found_from [] i j e = let z : ◌≡◌ {A = ℕ} 0 1 = cc in absurd (omega arith)
  found_from (x ∷ xs) i j e = one_more x xs i j (found_from xs (i + 1) j) (p x) refl e

  pub found : (xs : List X) (i : ℕ) → place_of p xs ≡ Some i → Found p xs i
  found xs i e = let r = found_from xs 0 i e in let q : r.0 ≡ i = omega (arith, r.1) in subst (Found p xs) q r.2

  none_more : (x : X) (xs : List X) (i : ℕ) → (place_from p (i + 1) xs ≡ None → first p xs ≡ None) → (b : Bool) → cond b (Some i) (place_from p (i + 1) xs) ≡ None → cond b (Some x) (first p xs) ≡ None
  none_more x xs i ih true e = let z : ◌≡◌ {A = ℕ} 0 1 = cc in absurd (omega arith)
  none_more x xs i ih false e = ih e

  none_from : (xs : List X) (i : ℕ) → place_from p i xs ≡ None → first p xs ≡ None
  none_from [] i e = refl
  none_from (x ∷ xs) i e = none_more x xs i (none_from xs (i + 1)) (p x) e

  pub not_found : (xs : List X) → place_of p xs ≡ None → first p xs ≡ None
  not_found xs e = none_from xs 0 e

  pub found_within : {xs : List X} {i : ℕ} → Found p xs i → i < length xs
  found_within (here e) = omega arith
  found_within (later e f) = let h = found_within f in omega arith

  pub found_passes : {xs : List X} {i : ℕ} → Found p xs i → (d : X) → p (get_or xs i d) ≡ true
  found_passes (here e) d = e
  found_passes (later e f) d = found_passes f d

-- through a map, as from the places to the heads that they tell
module _ {X Y : Type 0} (g : X → Y) (q : Y → Bool) where
  pub first_found : {xs : List X} {i : ℕ} → Found (λ x. q (g x)) xs i → (d : X) → first q (map g xs) ≡ Some (g (get_or xs i d))
  first_found (here {x} {xs} e) d = cond-true (q (g x)) (Some (g x)) (first q (map g xs)) e
  first_found (later {x} {xs} e f) d = cond-false (q (g x)) (Some (g x)) (first q (map g xs)) e ∙ first_found f d

  pub first_not_found : (xs : List X) → first (λ x. q (g x)) xs ≡ None → first q (map g xs) ≡ None
  first_not_found [] e = refl
  first_not_found (x ∷ xs) e = by (q (g x)) e (first_not_found xs)
    where
      by : (b : Bool) → cond b (Some x) (first (λ y. q (g y)) xs) ≡ None → (first (λ y. q (g y)) xs ≡ None → first q (map g xs) ≡ None) → cond b (Some (g x)) (first q (map g xs)) ≡ None
      by true h ih = let z : ◌≡◌ {A = ℕ} 0 1 = cc in absurd (omega arith)
      by false h ih = ih h

  pub rest_found : {xs : List X} {i : ℕ} → Found (λ x. q (g x)) xs i → all_but_first q (map g xs) ≡ map g (remove xs i)
  rest_found (here {x} {xs} e) = cond-true (q (g x)) (map g xs) (g x ∷ all_but_first q (map g xs)) e
  rest_found (later {x} {xs} e f) = cond-false (q (g x)) (map g xs) (g x ∷ all_but_first q (map g xs)) e ∙ ap (λ ys. g x ∷ ys) (rest_found f)

  pub change_found : {xs : List X} {i : ℕ} → Found (λ x. q (g x)) xs i → (h : Y → Y) (d y : X) → g y ≡ h (g (get_or xs i d)) → change_first q h (map g xs) ≡ map g (set xs i y)
  change_found (here {x} {xs} e) h d y c = cond-true (q (g x)) (h (g x) ∷ map g xs) (g x ∷ change_first q h (map g xs)) e ∙ ap (λ z. z ∷ map g xs) (sym c)
  change_found (later {x} {xs} e f) h d y c = cond-false (q (g x)) (h (g x) ∷ map g xs) (g x ∷ change_first q h (map g xs)) e ∙ ap (λ ys. g x ∷ ys) (change_found f h d y c)

-- both are found
pub both_found : (a b : Option ℕ) (i k : ℕ) → both_places a b ≡ Some (i, k) → (a ≡ Some i) × (b ≡ Some k)
both_found None b i k e = let z : ◌≡◌ {A = ℕ} 0 1 = cc in absurd (omega arith)
both_found (Some j) None i k e = let z : ◌≡◌ {A = ℕ} 0 1 = cc in absurd (omega arith)
both_found (Some j) (Some l) i k e = let w : ◌≡◌ {A = ℕ × ℕ} (j, l) (i, k) = cc in (ap (λ z. Some z.0) w, ap (λ z. Some z.1) w)

-- one of them is not
pub one_missing : (a b : Option ℕ) → both_places a b ≡ None → (a ≡ None) ⊎ (b ≡ None)
one_missing None b e = inl refl
one_missing (Some j) None e = inr refl
one_missing (Some j) (Some l) e = let z : ◌≡◌ {A = ℕ} 0 1 = cc in absurd (omega arith)
