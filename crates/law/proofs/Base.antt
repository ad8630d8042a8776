-- Membership, and what the model's list functions do to it.
use Rattle.std.proofs.Common.{◌≡◌, ℕ, Bool, true, false, cond, ◌&&◌, eqb, ◌⊎◌, List, [], ◌∷◌, ◌++◌, map, filter, sym, refl, ap, ◌∙◌, subst, ap₂, inl, inr}
use Rattle.std.proofs.lemmas.Bool.{eqb-true, eqb-false, cond-true, cond-false, ne_eqb, eq-eqb, or_cases, and_parts, or_left, or_right, and_from, false≢true}
use Rattle.law.proofs.Coded.{In, here, there, Head, put, Phase, listening, inquiring, active, stranded, isAsking, isInquiring}

module _ {X : Type 0} where
  pub in_left : {x : X} {xs : List X} (ys : List X) → In x xs → In x (xs ++ ys)
  in_left ys (here e) = here e
  in_left ys (there i) = there (in_left ys i)

  pub in_right : {x : X} (xs : List X) {ys : List X} → In x ys → In x (xs ++ ys)
  in_right [] i = i
  in_right (y ∷ xs) i = there (in_right xs i)

  pub in_either : {x : X} (xs ys : List X) → In x (xs ++ ys) → In x xs ⊎ In x ys
  in_either [] ys i = inr i
  in_either (y ∷ xs) ys (here e) = inl (here e)
  in_either (y ∷ xs) ys (there i) = elim (in_either xs ys i) [ inl j ↦ inl (there j) | inr j ↦ inr j ]

  -- y taken out
  pub in_more : {x : X} (y : X) (xs ys : List X) → In x (xs ++ ys) → In x (xs ++ y ∷ ys)
  in_more y [] ys i = there i
  in_more y (z ∷ xs) ys (here e) = here e
  in_more y (z ∷ xs) ys (there i) = there (in_more y xs ys i)

  pub in_less : {x : X} (y : X) (xs ys : List X) → In x (xs ++ y ∷ ys) → (y ≡ x) ⊎ In x (xs ++ ys)
  in_less y [] ys (here e) = inl e
  in_less y [] ys (there i) = inr i
  in_less y (z ∷ xs) ys (here e) = inr (here e)
  in_less y (z ∷ xs) ys (there i) = elim (in_less y xs ys i) [ inl e ↦ inl e | inr j ↦ inr (there j) ]

  pub in_mid : {x : X} (y : X) (xs ys : List X) → y ≡ x → In x (xs ++ y ∷ ys)
  in_mid y xs ys e = in_right xs (here e)

  pub in_kept : (p : X → Bool) {x : X} (xs : List X) → In x xs → p x ≡ true → In x (filter p xs)
  in_kept p [] i t = elim i [ ]
  in_kept p (y ∷ xs) (here e) t = rw (cond-true (p y) (y ∷ filter p xs) (filter p xs) (ap p e ∙ t)) (here e)
  in_kept p {x} (y ∷ xs) (there i) t =
      let r = in_kept p xs i t in
      elim (p y) as (λ b. In x (cond b (y ∷ filter p xs) (filter p xs))) [ true ↦ there r | false ↦ r ]

  kept_in_go : (p : X → Bool) {x : X} (y : X) (xs : List X) (b : Bool) → p y ≡ b → (In x (filter p xs) → In x xs × (p x ≡ true)) → In x (cond b (y ∷ filter p xs) (filter p xs)) → In x (y ∷ xs) × (p x ≡ true)
  kept_in_go p y xs true e r (here f) = (here f, sym (ap p f) ∙ e)
  kept_in_go p y xs true e r (there j) = (there (r j).0, (r j).1)
  kept_in_go p y xs false e r j = (there (r j).0, (r j).1)

  pub kept_in : (p : X → Bool) {x : X} (xs : List X) → In x (filter p xs) → In x xs × (p x ≡ true)
  kept_in p [] i = elim i [ ]
  kept_in p (y ∷ xs) i = kept_in_go p y xs (p y) refl (λ j. kept_in p xs j) i

pub in_map : {X Y : Type 0} (f : X → Y) {x : X} {xs : List X} → In x xs → In (f x) (map f xs)
in_map f (here e) = here (ap f e)
in_map f (there i) = there (in_map f i)

pub map_in : {X Y : Type 0} (f : X → Y) {y : Y} (xs : List X) → In y (map f xs) → (x : X) × In x xs × (f x ≡ y)
map_in f [] i = elim i [ ]
map_in f (x ∷ xs) (here e) = (x, here refl, e)
map_in f (x ∷ xs) (there i) = let r = map_in f xs i in (r.0, there r.1, r.2)

pub moved : {X : Type 0} (P : X → Type 0) {x y : X} → x ≡ y → P x → P y
moved P e p = subst P e p

-- the head r replaced by h'
pub data Put (r : ℕ) (h' g : Head) : Head → Type 0 where
  at_r : g.name ≡ r → Put r h' g h'
  not_r : (g.name ≡ r → ⊥) → Put r h' g g

pub put_is : (r : ℕ) (h' g : Head) → Put r h' g (put r h' g)
put_is r h' g = go (eqb g.name r) refl
  where
    go : (b : Bool) → eqb g.name r ≡ b → Put r h' g (cond b h' g)
    go true e = at_r (eqb-true g.name r e)
    go false e = not_r (eqb-false g.name r e)

pub put_in : (r : ℕ) (h' : Head) {g : Head} (hs : List Head) → In g (map (put r h') hs) → (g ≡ h') ⊎ (In g hs × (g.name ≡ r → ⊥))
put_in r h' {g} hs i = let (x, j, e) = map_in (put r h') hs i in go x j (put r h' x) (put_is r h' x) e
  where
    go : (x : Head) → In x hs → (y : Head) → Put r h' x y → y ≡ g → (g ≡ h') ⊎ (In g hs × (g.name ≡ r → ⊥))
    go x j y (at_r f) e = inl (sym e)
    go x j y (not_r f) e = inr (moved (λ z. In z hs) e j, moved (λ z. z.name ≡ r → ⊥) e f)

pub in_put : (r : ℕ) (h' : Head) {g : Head} (hs : List Head) → In g hs → (g.name ≡ r → ⊥) → In g (map (put r h') hs)
in_put r h' {g} hs i ne =
    moved (λ z. In z (map (put r h') hs)) (cond-false (eqb g.name r) h' g (ne_eqb g.name r ne)) (in_map (put r h') i)

-- what holds of h', and of each head but r, holds of each head after the change
pub each_put : (P : Head → Type 0) (r : ℕ) (h' : Head) (hs : List Head) → P h' → ((g : Head) → In g hs → (g.name ≡ r → ⊥) → P g) → (g : Head) → In g (map (put r h') hs) → P g
each_put P r h' hs p q g i = elim (put_in r h' hs i) [ inl e ↦ moved P (sym e) p | inr j ↦ q g j.0 j.1 ]

pub put_self : (r : ℕ) (h : Head) (hs : List Head) → ((g : Head) → In g hs → g.name ≡ r → g ≡ h) → map (put r h) hs ≡ hs
put_self r h [] same = refl
put_self r h (g ∷ hs) same = ap₂ (λ x xs. x ∷ xs) (go (put_is r h g)) (put_self r h hs (λ x i. same x (there i)))
  where
    go : {y : Head} → Put r h g y → y ≡ g
    go (at_r p) = sym (same g (here refl) p)
    go (not_r p) = refl

is_asking : (p : Phase) → isAsking p ≡ true → p ≡ inquiring
is_asking listening e = absurd (false≢true e)
is_asking inquiring e = refl
is_asking active e = absurd (false≢true e)
is_asking stranded e = absurd (false≢true e)

pub inq_has : (hs : List Head) (x : ℕ) → isInquiring hs x ≡ true → (g : Head) × In g hs × (g.name ≡ x) × (g.phase ≡ inquiring)
inq_has [] x e = absurd (false≢true e)
inq_has (g ∷ gs) x e =
    elim (or_cases (eqb g.name x && isAsking g.phase) (isInquiring gs x) e) [
      | inl q ↦ let p = and_parts (eqb g.name x) (isAsking g.phase) q in (g, here refl, eqb-true g.name x p.0, is_asking g.phase p.1)
      | inr q ↦ let r = inq_has gs x q in (r.0, there r.1, r.2, r.3)
    ]

pub has_inq : (hs : List Head) {g : Head} → In g hs → g.phase ≡ inquiring → isInquiring hs g.name ≡ true
has_inq [] i e = elim i [ ]
has_inq (h ∷ hs) {g} (here q) e =
    or_left (eqb h.name g.name && isAsking h.phase) (isInquiring hs g.name) (and_from (eqb h.name g.name) (isAsking h.phase) (eq-eqb h.name g.name (ap (λ z. z.name) q)) (ap (λ z. isAsking z.phase) q ∙ ap isAsking e))
has_inq (h ∷ hs) {g} (there i) e = or_right (eqb h.name g.name && isAsking h.phase) (isInquiring hs g.name) (has_inq hs i e)
