-- The place of the first that passes a test.
use Rattle.std.specs.Prelude.{ℕ, ◌+◌, Bool, cond, List, [], ◌∷◌, Some, None, Option}

-- the places are counted from i on
abbrev pub place_from : {X : Type 0} → (X → Bool) → ℕ → List X → Option ℕ
place_from p i [] = None
place_from p i (x ∷ xs) = cond (p x) (Some i) (place_from p (i + 1) xs)

abbrev pub place_of : {X : Type 0} → (X → Bool) → List X → Option ℕ
place_of p xs = place_from p 0 xs

-- two places, where both are there
abbrev pub both_places : Option ℕ → Option ℕ → Option (ℕ × ℕ)
both_places None k = None
both_places (Some i) None = None
both_places (Some i) (Some k) = Some (i, k)
