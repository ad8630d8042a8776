-- A search for the first that passes a test, place by place.
use Rattle.std.proofs.Common.{◌≡◌, ℕ, ◌+◌, ◌<◌, ◌≤◌, Bool, true, false, cond, List, ◌∷◌, length, get_or, drop, Some, None, sym, ap, ◌∙◌}
use Rattle.std.proofs.lemmas.List.{drop_more, drop_all}
use Rattle.std.proofs.lemmas.Bool.{cond-true, cond-false}
use Rattle.tables.specs.FirstPlaces.{place_from}

-- what is left of a list from the element that was read on
pub drop_read : {X : Type 0} (xs : List X) (i : ℕ) (x : X) → i < length xs → x ≡ get_or xs i x → drop i xs ≡ x ∷ drop (i + 1) xs
drop_read xs i x h r = drop_more xs i x h ∙ ap (λ y. y ∷ drop (i + 1) xs) (sym r)

module _ {X : Type 0} (p : X → Bool) (xs : List X) (i : ℕ) where
  here_or_past : (x : X) → i < length xs → x ≡ get_or xs i x → place_from p i (drop i xs) ≡ cond (p x) (Some i) (place_from p (i + 1) (drop (i + 1) xs))
  here_or_past x h r = ap (place_from p i) (drop_read xs i x h r)

  -- its place is here
  pub place_here : (x : X) → i < length xs → x ≡ get_or xs i x → true ≡ p x → place_from p i (drop i xs) ≡ Some i
  place_here x h r e = here_or_past x h r ∙ cond-true (p x) (Some i) (place_from p (i + 1) (drop (i + 1) xs)) (sym e)

  -- its place is further on
  pub place_past : (x : X) → i < length xs → x ≡ get_or xs i x → false ≡ p x → place_from p (i + 1) (drop (i + 1) xs) ≡ place_from p i (drop i xs)
  place_past x h r e = sym (here_or_past x h r ∙ cond-false (p x) (Some i) (place_from p (i + 1) (drop (i + 1) xs)) (sym e))

  -- it has no place
  pub place_none : length xs ≤ i → place_from p i (drop i xs) ≡ None
  place_none h = ap (place_from p i) (drop_all i xs h)
