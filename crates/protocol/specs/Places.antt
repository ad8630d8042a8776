-- Places of a table, in their order. Where several pass a test, the first counts.
use Rattle.std.specs.Prelude.{Bool, cond, List, [], ◌∷◌, Some, None, Option}

-- the first that passes
abbrev pub first : {X : Type 0} → (X → Bool) → List X → Option X
first p [] = None
first p (x ∷ xs) = cond (p x) (Some x) (first p xs)

-- all but the first that passes
abbrev pub all_but_first : {X : Type 0} → (X → Bool) → List X → List X
all_but_first p [] = []
all_but_first p (x ∷ xs) = cond (p x) xs (x ∷ all_but_first p xs)

-- the first that passes is changed, in its place
abbrev pub change_first : {X : Type 0} → (X → Bool) → (X → X) → List X → List X
change_first p f [] = []
change_first p f (x ∷ xs) = cond (p x) (f x ∷ xs) (x ∷ change_first p f xs)
