-- The first element that passes: where it stands, and what is left or changed there.
use Rattle.std.proofs.Common.{◌≡◌, ℕ, Bool, true, false, cond, ◌⊎◌, List, [], ◌∷◌, ◌++◌, is_some as option_is_some, Some, None, Option, sym, refl, ap, ◌∙◌, subst, inl, inr, arith}
use Rattle.protocol.specs.Places.{first, all_but_first, change_first}
use Rattle.law.proofs.Coded.{In, here, there}
use Rattle.law.proofs.Base.{in_mid}

-- xs is us, then x, then vs, and x is the first that passes
pub record Split {X : Type 0} (p : X → Bool) (xs : List X) (x : X) : Type 0 where
  pub us : List X
  pub vs : List X
  pub whole : xs ≡ us ++ x ∷ vs
  pub passes : p x ≡ true
  pub before : (y : X) → In y us → p y ≡ false
  pub rest : all_but_first p xs ≡ us ++ vs
  pub changed : (f : X → X) → change_first p f xs ≡ us ++ f x ∷ vs

pub split_in : {X : Type 0} {p : X → Bool} {xs : List X} {x : X} → Split p xs x → In x xs
split_in {x = x} s = subst (λ z. In x z) (sym s.whole) (in_mid x s.us s.vs refl)

pub data Found {X : Type 0} (p : X → Bool) (xs : List X) : Option X → Type 0 where
  absent : ((y : X) → In y xs → p y ≡ false) → Found p xs None
  present : (x : X) → Split p xs x → Found p xs (Some x)

module _ {X : Type 0} (p : X → Bool) where
  none_in_more : (x : X) (xs : List X) → p x ≡ false → ((y : X) → In y xs → p y ≡ false) → (y : X) → In y (x ∷ xs) → p y ≡ false
  none_in_more x xs e f y (here q) = sym (ap p q) ∙ e
  none_in_more x xs e f y (there i) = f y i

  split_here : (x : X) (xs : List X) → p x ≡ true → Split p (x ∷ xs) x
  split_here x xs e = record {
    us = [];
    vs = xs;
    whole = refl;
    passes = e;
    before = λ y i. elim i [ ];
    rest = rw e;
    changed = λ f. rw e;
  }

  split_more : (y : X) (xs : List X) (x : X) → p y ≡ false → Split p xs x → Split p (y ∷ xs) x
  split_more y xs x e s = record {
    us = y ∷ s.us;
    vs = s.vs;
    whole = ap (λ zs. y ∷ zs) s.whole;
    passes = s.passes;
    before = none_in_more y s.us e s.before;
    rest = rw e (ap (λ zs. y ∷ zs) s.rest);
    changed = λ f. rw e (ap (λ zs. y ∷ zs) (s.changed f));
  }

  pub first_is : (xs : List X) → Found p xs (first p xs)
  first_is [] = absent (λ y i. elim i [ ])
  first_is (x ∷ xs) = go (p x) refl (first_is xs)
    where
      more : p x ≡ false → {o : Option X} → Found p xs o → Found p (x ∷ xs) o
      more e (absent f) = absent (none_in_more x xs e f)
      more e (present y s) = present y (split_more x xs y e s)

      go : (b : Bool) → p x ≡ b → {o : Option X} → Found p xs o → Found p (x ∷ xs) (cond b (Some x) o)
      go true e f = present x (split_here x xs e)
      go false e f = more e f

  -- one that passes is there
  pub found : (xs : List X) → option_is_some (first p xs) ≡ true → (x : X) × (first p xs ≡ Some x) × Split p xs x
  found xs e = go (first p xs) refl (first_is xs) e
    where
      go : (o : Option X) → first p xs ≡ o → Found p xs o → option_is_some o ≡ true → (x : X) × (first p xs ≡ Some x) × Split p xs x
      go None q f t = let z : ◌≡◌ {A = ℕ} 0 1 = cc in absurd (omega arith)
      go (Some x) q (present y s) t = (x, q, s)

  pub not_found : (xs : List X) → option_is_some (first p xs) ≡ false → (y : X) → In y xs → p y ≡ false
  not_found xs e = go (first_is xs) e
    where
      go : {o : Option X} → Found p xs o → option_is_some o ≡ false → (y : X) → In y xs → p y ≡ false
      go (absent f) t = f
      go (present x s) t = let z : ◌≡◌ {A = ℕ} 0 1 = cc in absurd (omega arith)

-- who is there after a change, or after one is left out
module _ {X : Type 0} (p : X → Bool) where
  pub in_change : (f : X → X) {y : X} (xs : List X) → In y (change_first p f xs) → In y xs ⊎ ((x : X) × In x xs × (f x ≡ y))
  in_change f [] i = elim i [ ]
  in_change f {y} (x ∷ xs) i = go (p x) (λ j. in_change f xs j) i
    where
      later : In y xs ⊎ ((z : X) × In z xs × (f z ≡ y)) → In y (x ∷ xs) ⊎ ((z : X) × In z (x ∷ xs) × (f z ≡ y))
      later (inl j) = inl (there j)
      later (inr (z, j, e)) = inr (z, there j, e)

      go : (b : Bool) → (In y (change_first p f xs) → In y xs ⊎ ((z : X) × In z xs × (f z ≡ y))) → In y (cond b (f x ∷ xs) (x ∷ change_first p f xs)) → In y (x ∷ xs) ⊎ ((z : X) × In z (x ∷ xs) × (f z ≡ y))
      go true r (here e) = inr (x, here refl, e)
      go true r (there j) = inl (there j)
      go false r (here e) = inl (here e)
      go false r (there j) = later (r j)

  pub in_rest : {y : X} (xs : List X) → In y (all_but_first p xs) → In y xs
  in_rest [] i = i
  in_rest {y} (x ∷ xs) i = go (p x) (λ j. in_rest xs j) i
    where
      go : (b : Bool) → (In y (all_but_first p xs) → In y xs) → In y (cond b xs (x ∷ all_but_first p xs)) → In y (x ∷ xs)
      go true r j = there j
      go false r (here e) = here e
      go false r (there j) = there (r j)

pub is_some : {X : Type 0} (o : Option X) → option_is_some o ≡ true → (x : X) × (o ≡ Some x)
is_some None e = let z : ◌≡◌ {A = ℕ} 0 1 = cc in absurd (omega arith)
is_some (Some x) e = (x, refl)

pub is_none : {X : Type 0} (o : Option X) → option_is_some o ≡ false → o ≡ None
is_none None e = refl
is_none (Some x) e = let z : ◌≡◌ {A = ℕ} 0 1 = cc in absurd (omega arith)
