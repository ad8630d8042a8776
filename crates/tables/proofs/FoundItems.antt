-- The first item that passes a test, by its place in the mail, and what a change of one place makes of the items.
use Rattle.std.proofs.Common.{◌≡◌, ℕ, zero, suc, ◌<◌, Bool, true, false, cond, List, [], ◌∷◌, ◌++◌, length, get_or, set, Some, None, Option, sym, refl, ap, ◌∙◌, arith}
use Rattle.std.specs.List.Sorted.{IsPermutation}
use Rattle.std.proofs.lemmas.Bool.{cond-true, cond-false}
use Rattle.std.proofs.lemmas.List.Sorted.{IsPermutation-refl, IsPermutation-sym, IsPermutation-to_front, IsPermutation-trans, IsPermutation-swap}
use Rattle.protocol.specs.Places.{first, all_but_first}
use Rattle.protocol.specs.Heads.{holds_of}
use Rattle.protocol.specs.Items.{Item}
use Rattle.tables.specs.declared.mail.MailPlace.{MailPlace}
use Rattle.tables.specs.MailPlaces.{item_of, items_of, with_item}
use Rattle.tables.proofs.Bags.{same_bag, with_shuffled}
use Rattle.tables.proofs.Found.{Found, here, later}

module _ {V : Type 0} (t : Item V → Bool) where
  first_with : (o : Option (Item V)) (is : List (Item V)) → holds_of t o ≡ true → first t (with_item o is) ≡ o
  first_with None is e = let z : ◌≡◌ {A = ℕ} 0 1 = cc in absurd (omega arith)
  first_with (Some x) is e = cond-true (t x) (Some x) (first t is) e

  first_beyond : (o : Option (Item V)) (is : List (Item V)) → holds_of t o ≡ false → first t (with_item o is) ≡ first t is
  first_beyond None is e = refl
  first_beyond (Some x) is e = cond-false (t x) (Some x) (first t is) e

  rest_with : (o : Option (Item V)) (is : List (Item V)) → holds_of t o ≡ true → all_but_first t (with_item o is) ≡ is
  rest_with None is e = let z : ◌≡◌ {A = ℕ} 0 1 = cc in absurd (omega arith)
  rest_with (Some x) is e = cond-true (t x) is (x ∷ all_but_first t is) e

  rest_beyond : (o : Option (Item V)) (is : List (Item V)) → holds_of t o ≡ false → all_but_first t (with_item o is) ≡ with_item o (all_but_first t is)
  rest_beyond None is e = refl
  rest_beyond (Some x) is e = cond-false (t x) is (x ∷ all_but_first t is) e

  -- it is the item in the place found
  pub first_item : {ps : List (MailPlace V)} {i : ℕ} → Found (λ p. holds_of t (item_of p)) ps i → (d : MailPlace V) → first t (items_of ps) ≡ item_of (get_or ps i d)
  first_item (here {x} {xs} e) d = first_with (item_of x) (items_of xs) e
  first_item (later {x} {xs} e f) d = first_beyond (item_of x) (items_of xs) e ∙ first_item f d

  -- the mail without it: its place is empty
  pub rest_items : {ps : List (MailPlace V)} {i : ℕ} → Found (λ p. holds_of t (item_of p)) ps i → (q : MailPlace V) → item_of q ≡ None → items_of (set ps i q) ≡ all_but_first t (items_of ps)
  rest_items (here {x} {xs} e) q n = ap (λ o. with_item o (items_of xs)) n ∙ sym (rest_with (item_of x) (items_of xs) e)
  rest_items (later {x} {xs} e f) q n = ap (with_item (item_of x)) (rest_items f q n) ∙ sym (rest_beyond (item_of x) (items_of xs) e)

  -- no place has one
  pub no_item : (ps : List (MailPlace V)) → first (λ p. holds_of t (item_of p)) ps ≡ None → first t (items_of ps) ≡ None
  no_item [] e = refl
  no_item (p ∷ ps) e = by (item_of p) e (no_item ps)
    where
      at : (x : Item V) (b : Bool) → cond b (Some p) (first (λ q. holds_of t (item_of q)) ps) ≡ None → (first (λ q. holds_of t (item_of q)) ps ≡ None → first t (items_of ps) ≡ None) → cond b (Some x) (first t (items_of ps)) ≡ None
      at x true h ih = let z : ◌≡◌ {A = ℕ} 0 1 = cc in absurd (omega arith)
      at x false h ih = ih h

      by : (o : Option (Item V)) → cond (holds_of t o) (Some p) (first (λ q. holds_of t (item_of q)) ps) ≡ None → (first (λ q. holds_of t (item_of q)) ps ≡ None → first t (items_of ps) ≡ None) → first t (with_item o (items_of ps)) ≡ None
      by None h ih = ih h
      by (Some x) h ih = at x (t x) h ih

module _ {V : Type 0} where
  with_with : (a b : Option (Item V)) (is : List (Item V)) → IsPermutation (with_item a (with_item b is)) (with_item b (with_item a is))
  with_with None b is = IsPermutation-refl (with_item b is)
  with_with (Some x) None is = IsPermutation-refl (x ∷ is)
  with_with (Some x) (Some y) is = IsPermutation-swap (x ∷ y ∷ is) (y ∷ x ∷ is) 0 1 (omega arith) (omega arith) refl

  -- the item of the new place for that of the old
  pub exchanged_item : (ps : List (MailPlace V)) (i : ℕ) (q d : MailPlace V) → i < length ps → IsPermutation (with_item (item_of q) (items_of ps)) (with_item (item_of (get_or ps i d)) (items_of (set ps i q)))
  exchanged_item [] i q d h = absurd (omega arith)
  exchanged_item (p ∷ ps) zero q d h = with_with (item_of q) (item_of p) (items_of ps)
  exchanged_item (p ∷ ps) (suc i) q d h =
      let a = item_of q in
      let b = item_of p in
      let o = item_of (get_or ps i d) in
      let js = items_of (set ps i q) in
      IsPermutation-trans (with_item a (with_item b (items_of ps))) (with_item b (with_item a (items_of ps))) (with_item o (with_item b js))
      (with_with a b (items_of ps))
      (IsPermutation-trans (with_item b (with_item a (items_of ps))) (with_item b (with_item o js)) (with_item o (with_item b js))
      (with_shuffled b (with_item a (items_of ps)) (with_item o js) (exchanged_item ps i q d (omega arith)))
      (with_with b o js))

  to_end : (x : Item V) (is : List (Item V)) → IsPermutation (x ∷ is) (is ++ x ∷ [])
  to_end x is = IsPermutation-sym (is ++ x ∷ []) (x ∷ is) (IsPermutation-to_front is x)

  -- an empty place takes an item
  pub put_in : (ps : List (MailPlace V)) (i : ℕ) (q d : MailPlace V) (x : Item V) → i < length ps → item_of (get_or ps i d) ≡ None → item_of q ≡ Some x → IsPermutation (items_of (set ps i q)) (items_of ps ++ x ∷ [])
  put_in ps i q d x h e f =
      IsPermutation-trans (items_of (set ps i q)) (x ∷ items_of ps) (items_of ps ++ x ∷ [])
      (IsPermutation-sym (x ∷ items_of ps) (items_of (set ps i q))
      (same_bag (ap (λ o. with_item o (items_of ps)) (sym f)) (ap (λ o. with_item o (items_of (set ps i q))) (sym e)) (exchanged_item ps i q d h)))
      (to_end x (items_of ps))
