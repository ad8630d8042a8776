-- A pass that rewrites every place of a table, by what the places tell.
use Rattle.std.proofs.Common.{◌≡◌, ℕ, ◌+◌, ◌<◌, ◌≤◌, List, [], ◌∷◌, ◌++◌, map, length, get_or, take, drop, set, sym, ap, ◌∙◌, arith}
use Rattle.std.proofs.lemmas.List.{append-nil, append_assoc, drop_more, drop_all, take_all, take_more_set, drop-set-lt, map_push}

-- the first i places tell what they are to tell, and so will the rest when F has made it
module _ {X Y : Type 0} (tell : X → Y) (F : ℕ → List Y → List Y) where
  abbrev pub Rewriting : List X → List Y → ℕ → Type 0
  Rewriting xs zs i = map tell (take i xs) ++ F i (map tell (drop i xs)) ≡ zs

  -- one place more
  pub rewriting_more : (f : ℕ → Y → Y) → ((i : ℕ) (y : Y) (ys : List Y) → F i (y ∷ ys) ≡ f i y ∷ F (i + 1) ys) → (xs : List X) (zs : List Y) (i : ℕ) (d x : X) → Rewriting xs zs i → i < length xs → tell x ≡ f i (tell (get_or xs i d)) → Rewriting (set xs i x) zs (i + 1)
  rewriting_more f one xs zs i d x inv h e =
      let l : i < i + 1 = omega arith in
      let rest = map tell (drop (i + 1) xs) in
      ap (λ ys. map tell ys ++ F (i + 1) (map tell (drop (i + 1) (set xs i x)))) (take_more_set xs i x h)
      ∙ ap (λ ys. map tell (take i xs ++ x ∷ []) ++ F (i + 1) (map tell ys)) (drop-set-lt (i + 1) xs i x l)
      ∙ ap (λ ys. ys ++ F (i + 1) rest) (map_push tell (take i xs) x)
      ∙ append_assoc (map tell (take i xs)) (tell x ∷ []) (F (i + 1) rest)
      ∙ ap (λ ys. map tell (take i xs) ++ ys) (ap (λ y. y ∷ F (i + 1) rest) e ∙ sym (ap (λ ys. F i (map tell ys)) (drop_more xs i d h) ∙ one i (tell (get_or xs i d)) rest))
      ∙ inv

  -- all places
  pub rewriting_all : (xs : List X) (zs : List Y) (i : ℕ) → F i [] ≡ [] → Rewriting xs zs i → length xs ≤ i → map tell xs ≡ zs
  rewriting_all xs zs i none inv h =
      sym (append-nil (map tell xs))
      ∙ ap (λ ys. map tell xs ++ ys) (sym none)
      ∙ ap (λ ys. map tell ys ++ F i []) (sym (take_all i xs h))
      ∙ ap (λ ys. map tell (take i xs) ++ F i (map tell ys)) (sym (drop_all i xs h))
      ∙ inv
