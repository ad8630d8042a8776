-- The empty places of the mail are found, and then each takes an item.
use Rattle.std.proofs.Common.{◌≡◌, ℕ, zero, suc, ◌+◌, ◌-◌, ◌<◌, ◌≤◌, min, Bool, true, false, cond, List, [], ◌∷◌, ◌++◌, map, length, get_or, take, drop, set, sym, refl, ap, ◌∙◌, ap₂, arith}
use Rattle.std.specs.List.Sorted.{IsPermutation}
use Rattle.std.proofs.lemmas.List.{append-nil, append_assoc, drop_more, drop_all, take_all, take_at, take_more_set, set_at, length-append, length-take-le, length_push}
use Rattle.tables.specs.declared.mail.MailPlace.{MailPlace}
use Rattle.tables.specs.MailPlaces.{item_of, items_of, is_empty, addressed}
use Rattle.mailing.specs.EmptyPlaces.{empties_from, placed}
use Rattle.tables.proofs.Bags.{same_bag, filled_bag}
use Rattle.tables.proofs.Counts.{length_with_item}
use Rattle.tables.proofs.Refilling.{refilled}
use Rattle.tables.proofs.Searches.{drop_read}

module _ {V : Type 0} where
  -- an empty place, or an item
  pub empty_or_full : (i : ℕ) (ps : List (MailPlace V)) → length (empties_from i ps) + length (items_of ps) ≡ length ps
  empty_or_full i [] = refl
  empty_or_full i (p ∷ ps) = ap (λ n. length (cond (is_empty p) (i ∷ es) es) + n) (length_with_item (item_of p) (items_of ps)) ∙ by (is_empty p) ∙ ap suc (empty_or_full (i + 1) ps)
    where
      es : List ℕ
      es = empties_from (i + 1) ps

      by : (b : Bool) → length (cond b (i ∷ es) es) + (cond b 0 1 + length (items_of ps)) ≡ suc (length es + length (items_of ps))
      by true = omega arith
      by false = omega arith

  -- where this place is empty, it is noted
  module _ (ps : List (MailPlace V)) (xs : List ℕ) (k i : ℕ) (p : MailPlace V) (h : i < length ps) (r : p ≡ get_or ps i p) where
    here : empties_from i (drop i ps) ≡ cond (is_empty p) (i ∷ empties_from (i + 1) (drop (i + 1) ps)) (empties_from (i + 1) (drop (i + 1) ps))
    here = ap (empties_from i) (drop_read ps i p h r)

    pub noted : true ≡ is_empty p → k < length xs → take (k + 1) (set xs k i) ++ empties_from (i + 1) (drop (i + 1) ps) ≡ take k xs ++ empties_from i (drop i ps)
    noted e l =
        let es = empties_from (i + 1) (drop (i + 1) ps) in
        ap (λ zs. zs ++ es) (take_more_set xs k i l)
        ∙ append_assoc (take k xs) (i ∷ []) es
        ∙ ap (λ zs. take k xs ++ zs) (sym (here ∙ ap (λ b. cond b (i ∷ es) es) (sym e)))

    pub not_noted : false ≡ is_empty p → take k xs ++ empties_from (i + 1) (drop (i + 1) ps) ≡ take k xs ++ empties_from i (drop i ps)
    not_noted e =
        let es = empties_from (i + 1) (drop (i + 1) ps) in
        ap (λ zs. take k xs ++ zs) (sym (here ∙ ap (λ b. cond b (i ∷ es) es) (sym e)))

  -- enough are noted
  pub noted_enough : (xs es : List ℕ) (ps : List (MailPlace V)) (k n : ℕ) → k ≡ n → k ≤ length xs → take k xs ++ es ≡ empties_from 0 ps → (take k xs ≡ take n (empties_from 0 ps)) × (k ≡ min n (length (empties_from 0 ps)))
  noted_enough xs es ps k n e l inv = (
    sym (ap (take n) (sym inv) ∙ take_at (take k xs) es n (length-take-le k xs l ∙ e)),
    omega (arith, ap length inv, length-append (take k xs) es, length-take-le k xs l),
  )

  -- all are noted
  pub noted_all : (xs : List ℕ) (ps : List (MailPlace V)) (k i n : ℕ) → k ≤ n → k ≤ length xs → length ps ≤ i → take k xs ++ empties_from i (drop i ps) ≡ empties_from 0 ps → (take k xs ≡ take n (empties_from 0 ps)) × (k ≡ min n (length (empties_from 0 ps)))
  noted_all xs ps k i n le l h inv =
      let e : take k xs ≡ empties_from 0 ps = sym (append-nil (take k xs)) ∙ ap (λ qs. take k xs ++ empties_from i qs) (sym (drop_all i ps h)) ∙ inv in
      let m : length (empties_from 0 ps) ≡ k = sym (ap length e) ∙ length-take-le k xs l in
      (e ∙ sym (take_all n (empties_from 0 ps) (omega arith)), omega arith)

  module _ (item : MailPlace V) where
    -- one place more has its item
    pub placed_more : (is names : List ℕ) (ps : List (MailPlace V)) (k i b : ℕ) → k < length is → k < length names → i ≡ get_or is k 0 → b ≡ get_or names k 0 → placed item (drop (k + 1) is) (drop (k + 1) names) (set ps i (addressed item b)) ≡ placed item (drop k is) (drop k names) ps
    placed_more is names ps k i b h l e f =
        ap₂ (λ j c. placed item (drop (k + 1) is) (drop (k + 1) names) (set ps j (addressed item c))) e f
        ∙ sym (ap₂ (λ js cs. placed item js cs ps) (drop_more is k 0 h) (drop_more names k 0 l))

    pub placed_all : (is names : List ℕ) (ps : List (MailPlace V)) (k : ℕ) → length is ≤ k → ps ≡ placed item (drop k is) (drop k names) ps
    placed_all is names ps k h = sym (ap (λ js. placed item js (drop k names) ps) (drop_all k is h))

    nobody : (is : List ℕ) (ps : List (MailPlace V)) → placed item is [] ps ≡ ps
    nobody [] ps = refl
    nobody (i ∷ is) ps = refl

    enough : (n : ℕ) (is names : List ℕ) (ps : List (MailPlace V)) → length names ≤ n → placed item (take n is) names ps ≡ placed item is names ps
    enough n is [] ps h = nobody (take n is) ps ∙ sym (nobody is ps)
    enough zero is (b ∷ bs) ps h = absurd (omega arith)
    enough (suc n) [] (b ∷ bs) ps h = refl
    enough (suc n) (i ∷ is) (b ∷ bs) ps h = enough n is bs (set ps i (addressed item b)) (omega arith)

    nothing_sent : (ps : List (MailPlace V)) → refilled (λ p. p) item ps [] ≡ ps
    nothing_sent [] = refl
    nothing_sent (p ∷ ps) = ap (λ zs. p ∷ zs) (nothing_sent ps)

    module _ (qs : List (MailPlace V)) (p : MailPlace V) (ps : List (MailPlace V)) (i b : ℕ) (bs : List ℕ) (l : length qs ≡ i) where
      abbrev es : List ℕ
      es = empties_from (i + 1) ps

      abbrev fill_on : List ℕ → List (MailPlace V)
      fill_on cs = refilled (λ p. p) item ps cs

      by_place : ((q : MailPlace V) (cs : List ℕ) → placed item es cs ((qs ++ q ∷ []) ++ ps) ≡ (qs ++ q ∷ []) ++ fill_on cs) → placed item (empties_from i (p ∷ ps)) (b ∷ bs) (qs ++ p ∷ ps) ≡ qs ++ refilled (λ p. p) item (p ∷ ps) (b ∷ bs)
      by_place on = by (is_empty p)
        where
          one_more : (q : MailPlace V) (cs : List ℕ) → placed item es cs (qs ++ q ∷ ps) ≡ qs ++ q ∷ fill_on cs
          one_more q cs = ap (placed item es cs) (sym (append_assoc qs (q ∷ []) ps)) ∙ on q cs ∙ append_assoc qs (q ∷ []) (fill_on cs)

          by : (t : Bool) → placed item (cond t (i ∷ es) es) (b ∷ bs) (qs ++ p ∷ ps) ≡ qs ++ cond t (addressed item b ∷ fill_on bs) (p ∷ fill_on (b ∷ bs))
          by true = ap (placed item es bs) (set_at qs p ps (addressed item b) i l) ∙ one_more (addressed item b) bs
          by false = one_more p (b ∷ bs)

    by_places : (qs ps : List (MailPlace V)) (i : ℕ) (names : List ℕ) → length qs ≡ i → placed item (empties_from i ps) names (qs ++ ps) ≡ qs ++ refilled (λ p. p) item ps names
    by_places qs [] i names l = refl
    by_places qs (p ∷ ps) i [] l = nobody (empties_from i (p ∷ ps)) (qs ++ p ∷ ps) ∙ ap (λ zs. qs ++ zs) (sym (nothing_sent (p ∷ ps)))
    by_places qs (p ∷ ps) i (b ∷ bs) l = by_place qs p ps i b bs l (λ q cs. by_places (qs ++ q ∷ []) ps (i + 1) cs (length_push qs q ∙ ap (λ n. n + 1) l))

    -- the empty places that were found have taken their items
    pub placed_bag : (n : ℕ) (names : List ℕ) (ps qs : List (MailPlace V)) → length names ≤ n → n ≤ length (empties_from 0 ps) → qs ≡ placed item (take n (empties_from 0 ps)) names ps → IsPermutation (items_of qs) (items_of ps ++ items_of (map (addressed item) names))
    placed_bag n names ps qs h l e =
        let z : length names ≤ length ps - length (items_of ps) = omega (arith, empty_or_full 0 ps) in
        same_bag (ap items_of (e ∙ enough n (empties_from 0 ps) names ps h ∙ by_places [] ps 0 names refl))
        (ap (λ bs. items_of ps ++ items_of (map (addressed item) bs)) (sym (take_all (length ps - length (items_of ps)) names z)))
        (filled_bag item ps names)
