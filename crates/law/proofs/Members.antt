-- Membership: every element, and lists with the same elements.
use Rattle.std.proofs.Common.{List, [], ◌∷◌, refl, subst}
use Rattle.std.specs.List.{AllByRecursion}
use Rattle.std.specs.List.Sorted.{IsPermutation}
use Rattle.std.proofs.lemmas.List.Sorted.{IsPermutation-sym}
use Rattle.std.proofs.ByRecursion.{all_shuffled}
use Rattle.law.proofs.Coded.{In, here, there}

module _ {X : Type 0} (P : X → Type 0) where
  pub all_by_in : (xs : List X) → ((x : X) → In x xs → P x) → AllByRecursion P xs
  all_by_in [] f = tt
  all_by_in (x ∷ xs) f = (f x (here refl), all_by_in xs (λ y i. f y (there i)))

  pub in_by_all : {x : X} (xs : List X) → AllByRecursion P xs → In x xs → P x
  in_by_all [] a i = elim i [ ]
  in_by_all (y ∷ ys) a (here e) = subst P e a.0
  in_by_all (y ∷ ys) a (there i) = in_by_all ys a.1 i

pub in_shuffled : {X : Type 0} {x : X} (xs ys : List X) → IsPermutation xs ys → In x xs → In x ys
in_shuffled xs ys h i = in_by_all (λ y. In y ys) xs (all_shuffled (λ y. In y ys) ys xs (IsPermutation-sym xs ys h) (all_by_in (λ y. In y ys) ys (λ y j. j))) i
