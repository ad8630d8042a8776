-- The items that are sent at once, when there is room for all of them.
use Rattle.std.proofs.Common.{◌≡◌, ℕ, zero, suc, ◌+◌, ◌<◌, ◌≤◌, List, [], ◌∷◌, ◌++◌, map, length, get_or, take, Some, sym, refl, ap, ◌∙◌, arith}
use Rattle.std.specs.List.{remove}
use Rattle.std.proofs.lemmas.List.{take_all, take_more, map-append, length-take-le, length-map}
use Rattle.protocol.specs.Items.{Item, to_each}
use Rattle.tables.specs.declared.head.Head.{Head}
use Rattle.tables.specs.declared.mail.MailPlace.{MailPlace}
use Rattle.tables.specs.HeadPlaces.{heads_of}
use Rattle.tables.specs.MailPlaces.{item_of, items_of, with_item, addressed}
use Rattle.tables.specs.Passes.{sent, names_but}

removed_map : {X Y : Type 0} (g : X → Y) (xs : List X) (i : ℕ) → remove (map g xs) i ≡ map g (remove xs i)
removed_map g [] zero = refl
removed_map g [] (suc i) = refl
removed_map g (x ∷ xs) zero = refl
removed_map g (x ∷ xs) (suc i) = ap (λ ys. g x ∷ ys) (removed_map g xs i)

module _ {V : Type 0} (item : MailPlace V) (f : ℕ → Item V) (told : (b : ℕ) → item_of (addressed item b) ≡ Some (f b)) where
  each : (names : List ℕ) → items_of (map (addressed item) names) ≡ map f names
  each [] = refl
  each (b ∷ bs) = ap (λ o. with_item o (items_of (map (addressed item) bs))) (told b) ∙ ap (λ is. f b ∷ is) (each bs)

  -- one item to each of the names
  pub sent_all : (n : ℕ) (names : List ℕ) → length names ≤ n → sent n item names ≡ map f names
  sent_all n names h = ap (λ bs. items_of (map (addressed item) bs)) (take_all n names h) ∙ each names

  to_names : (hs : List (Head V)) → map f (map (λ h. h.name) hs) ≡ to_each f (heads_of hs)
  to_names [] = refl
  to_names (h ∷ hs) = ap (λ is. f h.name ∷ is) (to_names hs)

  -- one item to each head but the one in place i
  pub each_to_others : (i : ℕ) (hs : List (Head V)) → items_of (map (addressed item) (names_but i hs)) ≡ to_each f (heads_of (remove hs i))
  each_to_others i hs = each (names_but i hs) ∙ ap (map f) (removed_map (λ h. h.name) hs i) ∙ to_names (remove hs i)

pushed_past : (xs : List ℕ) (k : ℕ) (y : ℕ) → length xs ≡ k → remove (xs ++ y ∷ []) k ≡ remove xs k
pushed_past [] zero y e = refl
pushed_past [] (suc k) y e = absurd (omega arith)
pushed_past (x ∷ xs) zero y e = absurd (omega arith)
pushed_past (x ∷ xs) (suc k) y e = ap (λ zs. x ∷ zs) (pushed_past xs k y (omega arith))

pushed : (xs : List ℕ) (k : ℕ) (y : ℕ) → (length xs ≡ k → ⊥) → remove (xs ++ y ∷ []) k ≡ remove xs k ++ y ∷ []
pushed [] zero y n = absurd (n (omega arith))
pushed [] (suc zero) y n = refl
pushed [] (suc (suc k)) y n = refl
pushed (x ∷ xs) zero y n = refl
pushed (x ∷ xs) (suc k) y n = ap (λ zs. x ∷ zs) (pushed xs k y (λ e. n (omega arith)))

-- the names of one place more
module _ {V : Type 0} (hs : List (Head V)) (i but : ℕ) (h : Head V) (inside : i < length hs) (r : h ≡ get_or hs i h) where
  name_of : Head V → ℕ
  name_of k = k.name

  more : map name_of (take (i + 1) hs) ≡ map name_of (take i hs) ++ h.name ∷ []
  unfolding name_of
  more = ap (map name_of) (take_more hs i h inside ∙ ap (λ k. take i hs ++ k ∷ []) (sym r)) ∙ map-append name_of (take i hs) (h ∷ [])

  long : length (map name_of (take i hs)) ≡ i
  long = length-map (take i hs) name_of ∙ length-take-le i hs (omega arith)

  pub another : (i ≡ but → ⊥) → names_but but (take (i + 1) hs) ≡ names_but but (take i hs) ++ h.name ∷ []
  unfolding name_of
  another n = ap (λ xs. remove xs but) more ∙ pushed (map name_of (take i hs)) but h.name (λ e. n (omega (arith, e, long)))

  pub left_out : i ≡ but → names_but but (take (i + 1) hs) ≡ names_but but (take i hs)
  unfolding name_of
  left_out e = ap (λ xs. remove xs but) more ∙ pushed_past (map name_of (take i hs)) but h.name (omega (arith, e, long))
