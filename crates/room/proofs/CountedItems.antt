-- What is added to the mail and dropped from it, by the counts.
use Rattle.std.proofs.Common.{◌≡◌, ℕ, ◌+◌, ◌-◌, ◌<◌, ◌≤◌, Bool, true, false, cond, not, eqb, List, [], ◌∷◌, ◌++◌, map, length, get_or, take, set, replicate, Some, None, filter, Option, sym, refl, ap, ◌∙◌, inl, inr, add-zero, arith}
use Rattle.std.proofs.lemmas.List.Elements.{filter-append}
use Rattle.std.proofs.lemmas.List.Filters.{length-filter_both}
use Rattle.std.proofs.lemmas.List.{length-append, length_push, get_or-set_same, get_or-set_other, get_or-replicate, take_more}
use Rattle.std.proofs.lemmas.Bool.{cases_eq, eq-eqb, ne_eqb, eqb-true}
use Rattle.std.proofs.lemmas.Bool.Decides.{nat_tests}
use Rattle.protocol.specs.Heads.{Copy, is_named}
use Rattle.protocol.specs.Items.{Item, write, inquiry, reply, is_reply_to, dropping}
use Rattle.tables.specs.declared.head.Head.{Head}
use Rattle.tables.specs.declared.mail.MailPlace.{MailPlace}
use Rattle.tables.specs.HeadPlaces.{head_of}
use Rattle.tables.specs.MailPlaces.{item_of, items_of, with_item}
use Rattle.tables.proofs.Found.{Found, here, later, found, found_within}
use Rattle.room.specs.Counting.{replies_to, place_named, Counted}

module _ {V : Type 0} where
  -- dropped and left are all
  length_dropping : (x : ℕ) (items : List (Item V)) → length (dropping (is_reply_to x) items) + replies_to items x ≡ length items
  length_dropping x items = length-filter_both (λ i. not (is_reply_to x i)) (is_reply_to x) (λ i. not_not (is_reply_to x i)) items
    where
      not_not : (b : Bool) → b ≡ not (not b)
      not_not true = refl
      not_not false = refl

  -- no REPLY to x is left, and those to another name are
  replies_dropping : (x y : ℕ) (items : List (Item V)) → replies_to (dropping (is_reply_to x) items) y ≡ cond (eqb x y) 0 (replies_to items y)
  replies_dropping x y [] = grind (arith, nat_tests)
  replies_dropping x y (write a b t c ∷ items) = replies_dropping x y items
  replies_dropping x y (inquiry a b t ∷ items) = replies_dropping x y items
  replies_dropping x y (reply a b t c ∷ items) = let r = replies_dropping x y items in go (eqb b x) refl (eqb b y) refl r
    where
      go : (p : Bool) → eqb b x ≡ p → (q : Bool) → eqb b y ≡ q → replies_to (dropping (is_reply_to x) items) y ≡ cond (eqb x y) 0 (replies_to items y) → length (filter (is_reply_to y) (cond (not p) (reply a b t c ∷ dropping (is_reply_to x) items) (dropping (is_reply_to x) items))) ≡ cond (eqb x y) 0 (length (cond q (reply a b t c ∷ filter (is_reply_to y) items) (filter (is_reply_to y) items)))
      go true e true f r = grind (arith, nat_tests)
      go true e false f r = r
      go false e true f r = ap (λ z. length (cond z (reply a b t c ∷ filter (is_reply_to y) (dropping (is_reply_to x) items)) (filter (is_reply_to y) (dropping (is_reply_to x) items)))) f ∙ grind (arith, nat_tests)
      go false e false f r = ap (λ z. length (cond z (reply a b t c ∷ filter (is_reply_to y) (dropping (is_reply_to x) items)) (filter (is_reply_to y) (dropping (is_reply_to x) items)))) f ∙ r

  one_reply : (i : Item V) (y : ℕ) → replies_to (i ∷ []) y ≡ cond (is_reply_to y i) 1 0
  one_reply i y = go (is_reply_to y i)
    where
      go : (b : Bool) → length (cond b (i ∷ []) []) ≡ cond b 1 0
      go true = refl
      go false = refl

  replies_push : (items : List (Item V)) (i : Item V) (y : ℕ) → replies_to (items ++ i ∷ []) y ≡ replies_to items y + cond (is_reply_to y i) 1 0
  replies_push items i y =
      ap length (filter-append (is_reply_to y) items (i ∷ []))
      ∙ length-append (filter (is_reply_to y) items) (filter (is_reply_to y) (i ∷ []))
      ∙ ap (λ n. replies_to items y + n) (one_reply i y)

  items_append : (ps qs : List (MailPlace V)) → items_of (ps ++ qs) ≡ items_of ps ++ items_of qs
  items_append [] qs = refl
  items_append (p ∷ ps) qs = ap (with_item (item_of p)) (items_append ps qs) ∙ sym (go (item_of p))
    where
      go : (o : Option (Item V)) → with_item o (items_of ps) ++ items_of qs ≡ with_item o (items_of ps ++ items_of qs)
      go None = refl
      go (Some x) = refl

  -- there are no more items than places
  pub items_within : (ps : List (MailPlace V)) → length (items_of ps) ≤ length ps
  items_within [] = omega arith
  items_within (p ∷ ps) = go (item_of p) (items_within ps)
    where
      go : (o : Option (Item V)) → length (items_of ps) ≤ length ps → length (with_item o (items_of ps)) ≤ length (p ∷ ps)
      go None l = omega arith
      go (Some x) l = omega arith

  -- the items of one place more
  pub items_more : (ps : List (MailPlace V)) (i : ℕ) (p : MailPlace V) → i < length ps → p ≡ get_or ps i p → items_of (take (i + 1) ps) ≡ items_of (take i ps) ++ with_item (item_of p) []
  items_more ps i p h r =
      ap items_of (take_more ps i p h ∙ ap (λ q. take i ps ++ q ∷ []) (sym r)) ∙ items_append (take i ps) (p ∷ [])

  name_found : {x k : ℕ} {hs : List (Head V)} → Found (λ h. is_named x (head_of h)) hs k → get_or (map (λ h. h.name) hs) k 0 ≡ x
  name_found {x} (here {x = h} e) = eqb-true h.name x e
  name_found (later e f) = name_found f

module _ {V : Type 0} (hs : List (Head V)) where
  pub place_within : (x k : ℕ) → place_named x hs ≡ Some k → k < length hs
  place_within x k e = found_within (λ h. is_named x (head_of h)) (found (λ h. is_named x (head_of h)) hs k e)

  -- the counts have this place
  pub place_counted : length hs ≤ 64 → (x k : ℕ) → place_named x hs ≡ Some k → k < 64
  place_counted few x k e = omega (arith, place_within x k e)

  -- one name, one place
  same_place : (x y k j : ℕ) → place_named x hs ≡ Some k → place_named y hs ≡ Some j → eqb x y ≡ eqb k j
  same_place x y k j e f =
      elim (cases_eq k j) [
        | inl q ↦
            let n = λ (i : ℕ). get_or (map (λ h. h.name) hs) i 0 in
            let same : x ≡ y = sym (name_found (found (λ h. is_named x (head_of h)) hs k e)) ∙ ap n q ∙ name_found (found (λ h. is_named y (head_of h)) hs j f) in
            eq-eqb x y same ∙ sym (eq-eqb k j q)
        | inr d ↦ ne_eqb x y (λ q. d (one k j (sym e ∙ ap (λ z. place_named z hs) q ∙ f))) ∙ sym (ne_eqb k j d)
      ]
    where
      one : (a b : ℕ) → ◌≡◌ {A = Option ℕ} (Some a) (Some b) → a ≡ b
      one a b w = cc

  no_place : (x y j : ℕ) → place_named x hs ≡ None → place_named y hs ≡ Some j → eqb x y ≡ false
  no_place x y j e f = ne_eqb x y (λ q. none j (sym e ∙ ap (λ z. place_named z hs) q ∙ f))
    where
      none : (a : ℕ) → ◌≡◌ {A = Option ℕ} None (Some a) → ⊥
      none a w = let z : ◌≡◌ {A = ℕ} 0 1 = cc in absurd (omega arith)

  pub none_counted : length hs ≤ 64 → Counted hs [] 0 (replicate 64 0)
  none_counted l = record { all = refl; each = λ x k e. get_or-replicate 64 k 0 0 (place_counted l x k e) }

  module _ (items : List (Item V)) (n : ℕ) (rs : List ℕ) (counted : Counted hs items n rs) where
    -- one more that is a REPLY to no head
    pub other_counted : (i : Item V) → ((y j : ℕ) → place_named y hs ≡ Some j → is_reply_to y i ≡ false) → Counted hs (items ++ i ∷ []) (n + 1) rs
    other_counted i none =
        record {
          all = omega (arith, counted.all, length_push items i);
          each = λ y j f. counted.each y j f ∙ sym (replies_push items i y ∙ ap (λ b. replies_to items y + cond b 1 0) (none y j f) ∙ add-zero (replies_to items y));
        }

    pub reply_passed : (a x t : ℕ) (cp : Option (Copy V)) → place_named x hs ≡ None → Counted hs (items ++ reply a x t cp ∷ []) (n + 1) rs
    reply_passed a x t cp e = other_counted (reply a x t cp) (λ y j f. no_place x y j e f)

    set_each : (x k v : ℕ) → place_named x hs ≡ Some k → k < length rs → (y j : ℕ) → place_named y hs ≡ Some j → get_or (set rs k v) j 0 ≡ cond (eqb x y) v (replies_to items y)
    set_each x k v e h y j f =
        elim (cases_eq k j) [
          | inl q ↦
              ap (λ i. get_or (set rs k v) i 0) (sym q)
              ∙ get_or-set_same rs k v 0 h
              ∙ sym (ap (λ b. cond b v (replies_to items y)) (same_place x y k j e f ∙ eq-eqb k j q))
          | inr d ↦
              get_or-set_other rs k j v 0 (λ q. d (sym q))
              ∙ counted.each y j f
              ∙ sym (ap (λ b. cond b v (replies_to items y)) (same_place x y k j e f ∙ ne_eqb k j d))
        ]

    pub reply_counted : (a x t : ℕ) (cp : Option (Copy V)) (k : ℕ) → place_named x hs ≡ Some k → k < length rs → Counted hs (items ++ reply a x t cp ∷ []) (n + 1) (set rs k (get_or rs k 0 + 1))
    reply_counted a x t cp k e h =
        record {
          all = omega (arith, counted.all, length_push items (reply a x t cp));
          each = λ y j f. set_each x k (get_or rs k 0 + 1) e h y j f ∙ go y j f (eqb x y) refl ∙ sym (replies_push items (reply a x t cp) y);
        }
      where
        go : (y j : ℕ) → place_named y hs ≡ Some j → (b : Bool) → eqb x y ≡ b → cond b (get_or rs k 0 + 1) (replies_to items y) ≡ replies_to items y + cond b 1 0
        go y j f true q = ap (λ n. n + 1) (counted.each x k e ∙ ap (replies_to items) (eqb-true x y q))
        go y j f false q = omega arith

    pub dropped_counted : (x k : ℕ) → place_named x hs ≡ Some k → k < length rs → Counted hs (dropping (is_reply_to x) items) (n - get_or rs k 0) (set rs k 0)
    dropped_counted x k e h =
        record {
          all = omega (arith, counted.all, counted.each x k e, length_dropping x items);
          each = λ y j f. set_each x k 0 e h y j f ∙ sym (replies_dropping x y items);
        }
