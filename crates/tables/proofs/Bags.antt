-- The items that a pass over the mail leaves, as a bag.
use Rattle.std.proofs.Common.{◌≡◌, ℕ, zero, suc, ◌+◌, ◌-◌, Bool, true, false, cond, not, List, [], ◌∷◌, ◌++◌, map, length, is_some, Some, None, Option, sym, refl, ap, ◌∙◌, subst, arith}
use Rattle.std.specs.List.Sorted.{IsPermutation}
use Rattle.std.proofs.lemmas.Bool.{cond-true, cond-false}
use Rattle.std.proofs.lemmas.List.Sorted.{IsPermutation-refl, IsPermutation-cons, IsPermutation-trans, IsPermutation-sym, IsPermutation-middle}
use Rattle.protocol.specs.Heads.{holds_of}
use Rattle.protocol.specs.Items.{Item, dropping}
use Rattle.tables.specs.declared.mail.MailPlace.{MailPlace}
use Rattle.tables.specs.MailPlaces.{item_of, items_of, with_item, is_empty, addressed}
use Rattle.tables.specs.Passes.{sent, cleared, without_item}
use Rattle.tables.proofs.Counts.{length_with_item}
use Rattle.tables.proofs.Refilling.{refilled}

pub same_bag : {X : Type 0} {xs xs' ys ys' : List X} → xs' ≡ xs → ys' ≡ ys → IsPermutation xs ys → IsPermutation xs' ys'
same_bag {X} {xs} {xs'} {ys} {ys'} p q s = subst (λ zs. IsPermutation zs ys') (sym p) (subst (λ zs. IsPermutation xs zs) (sym q) s)

pub left_as : {V : Type 0} {ps qs : List (MailPlace V)} {is : List (Item V)} → ps ≡ qs → IsPermutation (items_of qs) is → IsPermutation (items_of ps) is
left_as {V} {ps} {qs} {is} e s = subst (λ zs. IsPermutation (items_of zs) is) (sym e) s

module _ {V : Type 0} where
  pub with_shuffled : (o : Option (Item V)) (xs ys : List (Item V)) → IsPermutation xs ys → IsPermutation (with_item o xs) (with_item o ys)
  with_shuffled None xs ys s = s
  with_shuffled (Some x) xs ys s = IsPermutation-cons x xs ys s

  with_append : (o : Option (Item V)) (xs ys : List (Item V)) → with_item o xs ++ ys ≡ with_item o (xs ++ ys)
  with_append None xs ys = refl
  with_append (Some x) xs ys = refl

  with_middle : (o : Option (Item V)) (xs ys : List (Item V)) → IsPermutation (with_item o (xs ++ ys)) (xs ++ with_item o ys)
  with_middle None xs ys = IsPermutation-refl (xs ++ ys)
  with_middle (Some x) xs ys = IsPermutation-sym (xs ++ x ∷ ys) (x ∷ (xs ++ ys)) (IsPermutation-middle xs x ys)

  sent_none : (n : ℕ) (item : MailPlace V) → sent n item [] ≡ []
  sent_none zero item = refl
  sent_none (suc n) item = refl

  -- an item that passes is gone
  abbrev pub left_of : (Item V → Bool) → Option (Item V) → Option (Item V)
  left_of t None = None
  left_of t (Some x) = cond (t x) None (Some x)

  drop_one : (t : Item V → Bool) (o : Option (Item V)) (is : List (Item V)) → dropping t (with_item o is) ≡ with_item (left_of t o) (dropping t is)
  drop_one t None is = refl
  drop_one t (Some x) is = by (t x)
    where
      by : (b : Bool) → cond (not b) (x ∷ dropping t is) (dropping t is) ≡ with_item (cond b None (Some x)) (dropping t is)
      by true = refl
      by false = refl

  pub cleared_item : (t : Item V → Bool) (p : MailPlace V) → item_of (cleared t p) ≡ left_of t (item_of p)
  cleared_item t p = by (item_of p) refl
    where
      at : (x : Item V) (b : Bool) → item_of p ≡ Some x → item_of (cond b (without_item p) p) ≡ cond b None (Some x)
      at x true e = refl
      at x false e = e

      by : (o : Option (Item V)) → item_of p ≡ o → item_of (cond (holds_of t o) (without_item p) p) ≡ left_of t o
      by None e = e
      by (Some x) e = at x (t x) e

  module _ (c : MailPlace V → MailPlace V) (t : Item V → Bool) (clears : (p : MailPlace V) → item_of (c p) ≡ left_of t (item_of p)) where
    empties : List (MailPlace V) → ℕ
    empties [] = 0
    empties (p ∷ ps) = cond (is_empty (c p)) (suc (empties ps)) (empties ps)

    drops : (p : MailPlace V) (ps : List (MailPlace V)) → dropping t (items_of (p ∷ ps)) ≡ with_item (item_of (c p)) (dropping t (items_of ps))
    drops p ps = drop_one t (item_of p) (items_of ps) ∙ ap (λ o. with_item o (dropping t (items_of ps))) (sym (clears p))

    all_places : (ps : List (MailPlace V)) → empties ps + length (dropping t (items_of ps)) ≡ length ps
    unfolding empties
    all_places [] = refl
    all_places (p ∷ ps) =
        let n = empties ps in
        let ds = dropping t (items_of ps) in
        ap (λ m. cond (is_empty (c p)) (suc n) n + m) (ap length (drops p ps) ∙ length_with_item (item_of (c p)) ds)
        ∙ by (is_empty (c p)) n (length ds) ∙ ap suc (all_places ps)
      where
        by : (b : Bool) (n m : ℕ) → cond b (suc n) n + (cond b 0 1 + m) ≡ suc (n + m)
        by true n m = omega arith
        by false n m = omega arith

    module _ (item : MailPlace V) where
      Bag : List (MailPlace V) → List ℕ → Type 0
      Bag ps names = IsPermutation (items_of (refilled c item ps names)) (dropping t (items_of ps) ++ sent (empties ps) item names)

      module _ (p : MailPlace V) (ps : List (MailPlace V)) where
        no_name : Bag ps [] → Bag (p ∷ ps) []
        unfolding Bag
        no_name s =
            let ds = dropping t (items_of ps) in
            let o = item_of (c p) in
            same_bag refl
            (ap (λ zs. dropping t (items_of (p ∷ ps)) ++ zs) (sent_none (empties (p ∷ ps)) item ∙ sym (sent_none (empties ps) item))
            ∙ ap (λ zs. zs ++ sent (empties ps) item []) (drops p ps)
            ∙ with_append o ds (sent (empties ps) item []))
            (with_shuffled o (items_of (refilled c item ps [])) (ds ++ sent (empties ps) item []) s)

        a_name : (b : ℕ) (bs : List ℕ) (o : Option (Item V)) → item_of (c p) ≡ o → Bag ps bs → Bag ps (b ∷ bs) → Bag (p ∷ ps) (b ∷ bs)
        unfolding Bag empties
        a_name b bs None e s s' =
            let ds = dropping t (items_of ps) in
            let n = empties ps in
            let a = item_of (addressed item b) in
            let empty : is_empty (c p) ≡ true = ap (λ o. not (is_some o)) e in
            same_bag
            (ap items_of (cond-true (is_empty (c p)) (addressed item b ∷ refilled c item ps bs) (c p ∷ refilled c item ps (b ∷ bs)) empty))
            (ap (λ zs. zs ++ sent (cond (is_empty (c p)) (suc n) n) item (b ∷ bs)) (drops p ps ∙ ap (λ o. with_item o ds) e)
            ∙ ap (λ m. ds ++ sent m item (b ∷ bs)) (cond-true (is_empty (c p)) (suc n) n empty))
            (IsPermutation-trans (with_item a (items_of (refilled c item ps bs))) (with_item a (ds ++ sent n item bs)) (ds ++ with_item a (sent n item bs))
            (with_shuffled a (items_of (refilled c item ps bs)) (ds ++ sent n item bs) s)
            (with_middle a ds (sent n item bs)))
        a_name b bs (Some x) e s s' =
            let ds = dropping t (items_of ps) in
            let n = empties ps in
            let full : is_empty (c p) ≡ false = ap (λ o. not (is_some o)) e in
            same_bag
            (ap items_of (cond-false (is_empty (c p)) (addressed item b ∷ refilled c item ps bs) (c p ∷ refilled c item ps (b ∷ bs)) full)
            ∙ ap (λ o. with_item o (items_of (refilled c item ps (b ∷ bs)))) e)
            (ap (λ zs. zs ++ sent (cond (is_empty (c p)) (suc n) n) item (b ∷ bs)) (drops p ps ∙ ap (λ o. with_item o ds) e)
            ∙ ap (λ m. x ∷ (ds ++ sent m item (b ∷ bs))) (cond-false (is_empty (c p)) (suc n) n full))
            (IsPermutation-cons x (items_of (refilled c item ps (b ∷ bs))) (ds ++ sent n item (b ∷ bs)) s')

      bag : (ps : List (MailPlace V)) (names : List ℕ) → Bag ps names
      unfolding Bag empties
      bag [] names = IsPermutation-refl []
      bag (p ∷ ps) [] = no_name p ps (bag ps [])
      bag (p ∷ ps) (b ∷ bs) = a_name p ps b bs (item_of (c p)) refl (bag ps bs) (bag ps (b ∷ bs))

      free : (ps : List (MailPlace V)) → empties ps ≡ length ps - length (dropping t (items_of ps))
      free ps = let e = all_places ps in omega arith

      pub refilled_bag : (ps : List (MailPlace V)) (names : List ℕ) → IsPermutation (items_of (refilled c item ps names)) (dropping t (items_of ps) ++ sent (length ps - length (dropping t (items_of ps))) item names)
      unfolding Bag
      refilled_bag ps names = same_bag refl (ap (λ n. dropping t (items_of ps) ++ sent n item names) (sym (free ps))) (bag ps names)

    -- every place is cleared
    pub cleared_items : (ps : List (MailPlace V)) → items_of (map c ps) ≡ dropping t (items_of ps)
    cleared_items [] = refl
    cleared_items (p ∷ ps) = ap (with_item (item_of (c p))) (cleared_items ps) ∙ sym (drops p ps)

  pub dropping_none : (is : List (Item V)) → dropping (λ _. false) is ≡ is
  dropping_none [] = refl
  dropping_none (x ∷ is) = ap (λ zs. x ∷ zs) (dropping_none is)

  kept_item : (o : Option (Item V)) → o ≡ left_of (λ _. false) o
  kept_item None = refl
  kept_item (Some x) = refl

  -- nothing is cleared
  pub filled_bag : (item : MailPlace V) (ps : List (MailPlace V)) (names : List ℕ) → IsPermutation (items_of (refilled (λ p. p) item ps names)) (items_of ps ++ sent (length ps - length (items_of ps)) item names)
  filled_bag item ps names =
      same_bag refl (ap (λ is. is ++ sent (length ps - length is) item names) (sym (dropping_none (items_of ps))))
      (refilled_bag (λ p. p) (λ _. false) (λ p. kept_item (item_of p)) item ps names)

  -- every place is empty
  pub no_items : (ps : List (MailPlace V)) → items_of (map without_item ps) ≡ []
  no_items [] = refl
  no_items (p ∷ ps) = no_items ps
