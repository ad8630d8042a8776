-- A pass over the mail that clears places and fills empty ones, place by place.
use Rattle.std.proofs.Common.{◌≡◌, ℕ, ◌+◌, ◌<◌, ◌≤◌, true, false, cond, List, [], ◌∷◌, ◌++◌, map, length, get_or, take, drop, set, sym, refl, ap, ◌∙◌, arith}
use Rattle.std.proofs.lemmas.List.{append-nil, append_assoc, drop_all, take_all, take_more_set, drop-set-lt, length-set}
use Rattle.std.proofs.lemmas.Bool.{cond-true, cond-false}
use Rattle.tables.specs.declared.mail.MailPlace.{MailPlace}
use Rattle.tables.specs.MailPlaces.{is_empty, addressed}
use Rattle.tables.proofs.Searches.{drop_read}

-- one place more has its new content
front_more : {X : Type 0} (ys : List X) (i : ℕ) (q : X) (f : List X → List X) → i < length ys → take (i + 1) (set ys i q) ++ f (drop (i + 1) (set ys i q)) ≡ take i ys ++ q ∷ f (drop (i + 1) ys)
front_more ys i q f h =
    let l : i < i + 1 = omega arith in
    ap (λ zs. zs ++ f (drop (i + 1) (set ys i q))) (take_more_set ys i q h)
    ∙ ap (λ zs. (take i ys ++ q ∷ []) ++ f zs) (drop-set-lt (i + 1) ys i q l)
    ∙ append_assoc (take i ys) (q ∷ []) (f (drop (i + 1) ys))

-- all places are done
front_all : {X : Type 0} (xs ys : List X) (i : ℕ) (f : List X → List X) → f [] ≡ [] → length ys ≡ length xs → length xs ≤ i → ys ≡ take i ys ++ f (drop i ys)
front_all xs ys i f none e h =
    let l : length ys ≤ i = omega arith in
    sym
    (ap (λ zs. zs ++ f (drop i ys)) (take_all i ys l)
    ∙ ap (λ zs. ys ++ f zs) (drop_all i ys l)
    ∙ ap (λ zs. ys ++ zs) none
    ∙ append-nil ys)

-- each place is cleared, and takes an item to the next receiver if it is empty then
abbrev pub refilled : {V : Type 0} → (MailPlace V → MailPlace V) → MailPlace V → List (MailPlace V) → List ℕ → List (MailPlace V)
refilled c item [] names = []
refilled c item (p ∷ ps) [] = c p ∷ refilled c item ps []
refilled c item (p ∷ ps) (b ∷ bs) = cond (is_empty (c p)) (addressed item b ∷ refilled c item ps bs) (c p ∷ refilled c item ps (b ∷ bs))

-- xs is what the places were, ys what they are when i of them are done, and these names are left
pub record Refilling {V : Type 0} (c : MailPlace V → MailPlace V) (item : MailPlace V) (names : List ℕ) (xs ys : List (MailPlace V)) (left : List ℕ) (i : ℕ) : Type 0 where
  pub rest : take i ys ++ refilled c item (drop i ys) left ≡ refilled c item xs names
  pub long : length ys ≡ length xs

module _ {V : Type 0} (c : MailPlace V → MailPlace V) (item : MailPlace V) (names : List ℕ) (xs ys : List (MailPlace V)) (left : List ℕ) (i : ℕ) (inv : Refilling c item names xs ys left i) where
  one_more : (p q : MailPlace V) (bs : List ℕ) → i < length ys → p ≡ get_or ys i p → q ∷ refilled c item (drop (i + 1) ys) bs ≡ refilled c item (p ∷ drop (i + 1) ys) left → Refilling c item names xs (set ys i q) bs (i + 1)
  one_more p q bs h r e =
      record {
        rest =
            front_more ys i q (λ zs. refilled c item zs bs) h
            ∙ ap (λ zs. take i ys ++ zs) (e ∙ sym (ap (λ zs. refilled c item zs left) (drop_read ys i p h r)))
            ∙ inv.rest;
        long = length-set ys i q ∙ inv.long;
      }

  -- the place takes an item to the next receiver
  pub place_filled : (p q : MailPlace V) (b : ℕ) (bs : List ℕ) → i < length ys → p ≡ get_or ys i p → is_empty (c p) ≡ true → left ≡ b ∷ bs → q ≡ addressed item b → Refilling c item names xs (set ys i q) bs (i + 1)
  place_filled p q b bs h r t e f =
      let ps = drop (i + 1) ys in
      one_more p q bs h r
      (ap (λ z. z ∷ refilled c item ps bs) f
      ∙ sym (ap (refilled c item (p ∷ ps)) e ∙ cond-true (is_empty (c p)) (addressed item b ∷ refilled c item ps bs) (c p ∷ refilled c item ps (b ∷ bs)) t))

  -- an item lies in the place
  pub place_full : (p q : MailPlace V) → i < length ys → p ≡ get_or ys i p → is_empty (c p) ≡ false → q ≡ c p → Refilling c item names xs (set ys i q) left (i + 1)
  place_full p q h r t f =
      let ps = drop (i + 1) ys in
      one_more p q left h r (ap (λ z. z ∷ refilled c item ps left) f ∙ sym (skipped ps left))
    where
      skipped : (ps : List (MailPlace V)) (bs : List ℕ) → refilled c item (p ∷ ps) bs ≡ c p ∷ refilled c item ps bs
      skipped ps [] = refl
      skipped ps (b ∷ bs) = cond-false (is_empty (c p)) (addressed item b ∷ refilled c item ps bs) (c p ∷ refilled c item ps (b ∷ bs)) t

  -- no receiver is left
  pub place_left : (p q : MailPlace V) → i < length ys → p ≡ get_or ys i p → left ≡ [] → q ≡ c p → Refilling c item names xs (set ys i q) [] (i + 1)
  place_left p q h r e f =
      let ps = drop (i + 1) ys in
      one_more p q [] h r (ap (λ z. z ∷ refilled c item ps []) f ∙ sym (ap (refilled c item (p ∷ ps)) e))

  pub refilling_all : length xs ≤ i → ys ≡ refilled c item xs names
  refilling_all h = front_all xs ys i (λ zs. refilled c item zs left) refl inv.long h ∙ inv.rest

-- xs is what the places were, ys what they are when i of them are done
pub record Clearing {V : Type 0} (c : MailPlace V → MailPlace V) (xs ys : List (MailPlace V)) (i : ℕ) : Type 0 where
  pub rest : take i ys ++ map c (drop i ys) ≡ map c xs
  pub long : length ys ≡ length xs

module _ {V : Type 0} (c : MailPlace V → MailPlace V) (xs ys : List (MailPlace V)) (i : ℕ) (inv : Clearing c xs ys i) where
  -- one place more is done
  pub place_cleared : (p q : MailPlace V) → i < length ys → p ≡ get_or ys i p → q ≡ c p → Clearing c xs (set ys i q) (i + 1)
  place_cleared p q h r e =
      record {
        rest =
            front_more ys i q (map c) h
            ∙ ap (λ zs. take i ys ++ zs) (ap (λ z. z ∷ map c (drop (i + 1) ys)) e ∙ sym (ap (map c) (drop_read ys i p h r)))
            ∙ inv.rest;
        long = length-set ys i q ∙ inv.long;
      }

  pub clearing_all : length xs ≤ i → ys ≡ map c xs
  clearing_all h = front_all xs ys i (map c) refl inv.long h ∙ inv.rest
