-- Make, swap and write house heads and mail.
use Rattle.std.proofs.Common.{◌≡◌, ℕ, ◌+◌, ◌<◌, ◌≤◌, Bool, true, false, cond, not, ◌&&◌, eqb, ◌⊎◌, List, [], ◌∷◌, ◌++◌, map, length, is_some, Some, None, Option, sym, refl, ap, ◌∙◌, subst, inl, inr, arith}
use Rattle.std.proofs.lemmas.List.{length-append, length-map}
use Rattle.std.proofs.lemmas.Bool.{cases_eq, both_ways, not-true, or_left}
use Rattle.std.proofs.lemmas.Bool.Decides.{nat_tests}
use Rattle.protocol.specs.Places.{first}
use Rattle.protocol.specs.Heads.{Copy, Head, is_named, forgetting, with_copy}
use Rattle.protocol.specs.Items.{Item, write, inquiry, reply, kind_of, sender_of, receiver_of, is_inquiry, goes_with, dropping, to_each}
use Rattle.protocol.specs.Sites.{UnderWay}
use Rattle.protocol.specs.Make.{Lacking, originals}
use Rattle.protocol.specs.Swap.{newcomer}
use Rattle.law.proofs.Originals.{originals_each, originals_length}
use Rattle.law.proofs.Coded.{In}
use Rattle.law.proofs.Base.{in_less, in_more, in_mid, in_either, in_map, kept_in, map_in}
use Rattle.law.proofs.Totals.{bit, total, total_append, total_put, total_kept, total_map, total_zero}
use Rattle.law.proofs.Weights.{Pairs, item_weight, head_weight, weight, asked_by, asked_at, write_to, weight_put, forgetting_weight, forgotten_weight, dropped_weight}
use Rattle.law.proofs.Housed.{Here, Cap, nothing, named, Good, HeadGood, ItemGood, Housed, good_more, cap_lighter, here_change, other_name, changed}

-- make
module _ {V : Type 0} (start : V) where
  originals_below : (z x : ℕ) (free : List Lacking) → z < x → named z (originals start x free) ≡ 0
  originals_below z x free lt = total_zero (λ (h : Head V). bit (is_named z h)) (originals start x free) (originals_each start (λ h. bit (is_named z h) ≡ 0) x free (λ y l p q. grind (arith, nat_tests)))

  originals_apart : (z x : ℕ) (free : List Lacking) → named z (originals start x free) ≤ 1
  originals_apart z x [] = omega arith
  originals_apart z x (l ∷ ls) = elim (cases_eq x z) [
    | inl e ↦ let a = originals_below z (x + 1) ls (omega arith) in let b : bit (eqb x z) ≤ 1 = grind (arith, nat_tests) in omega arith
    | inr e ↦ let a = originals_apart z (x + 1) ls in let b : bit (eqb x z) ≡ 0 = grind (arith, nat_tests) in omega arith
  ]

  pub make_housed : (lawful : V → Bool) (n : ℕ) (free : List Lacking) → length free ≡ n → lawful start ≡ true → Housed lawful n 0 (n + 1) None (originals start 1 free) []
  make_housed lawful n free e l = record {
    size = originals_length start 1 free ∙ e;
    apart = λ z. originals_apart z 1 free;
    caps = λ b. let a = weightless (asked_by b) in nothing (omega arith);
    pairs = λ a b. let c = weightless (asked_at a b) in omega arith;
    once = λ b. omega arith;
    to_present = λ i j. elim j [ ];
    heads_good = originals_each start (HeadGood lawful 0 (n + 1)) 1 free (λ y m p q. record { some = p; below = omega arith; copy = (l, omega arith); best = tt; acts = λ _. refl });
    items_good = λ i j. elim j [ ];
  }
    where
      weightless : (q : Pairs) → total (head_weight q) (originals start 1 free) ≡ 0
      weightless q = total_zero (head_weight q) (originals start 1 free) (originals_each start (λ h. head_weight q h ≡ 0) 1 free (λ y m p r. refl))

-- swap
pub some_map : {X : Type 0} (p : X → Bool) (f : X → X) → ((x : X) → p (f x) ≡ p x) → (xs : List X) → is_some (first p (map f xs)) ≡ is_some (first p xs)
some_map p f e [] = refl
some_map {X} p f e (x ∷ xs) = rw (e x) (go (p x) (some_map p f e xs))
  where
    go : (b : Bool) → is_some (first p (map f xs)) ≡ is_some (first p xs) → is_some (cond b (Some (f x)) (first p (map f xs))) ≡ is_some (cond b (Some x) (first p xs))
    go true r = refl
    go false r = r

module _ {V : Type 0} (lawful : V → Bool) (n limit y : ℕ) (way : Option UnderWay) (heads : List (Head V)) (items : List (Item V)) (k : Housed lawful n limit y way heads items) (x time free : ℕ) (us vs : List (Head V)) (h : Head V) (whole : map (forgetting x) heads ≡ us ++ h ∷ vs) (e : h.name ≡ x) where
  stays : {g : Head V} → In g heads → (g.name ≡ x → ⊥) → In (forgetting x g) (us ++ newcomer y time free ∷ vs)
  stays {g} i ne = elim (in_less h us vs (subst (λ z. In (forgetting x g) z) whole (in_map (forgetting x) i))) [
    | inl p ↦ absurd (ne (sym (ap (λ z. z.name) p) ∙ e))
    | inr j ↦ in_more (newcomer y time free) us vs j
  ]

  lighter : (q : Pairs) → weight q (us ++ newcomer y time free ∷ vs) (dropping (goes_with x) items) ≤ total (item_weight q) (dropping (goes_with x) items) + total (head_weight q) (map (forgetting x) heads)
  lighter q =
      let a = weight_put q us (newcomer y time free) vs (dropping (goes_with x) items) in
      let b = total_put (head_weight q) us h vs in
      let c : total (head_weight q) (map (forgetting x) heads) ≡ total (head_weight q) (us ++ h ∷ vs) = ap (total (head_weight q)) whole in
      omega arith

  lighter_than : (q : Pairs) → weight q (us ++ newcomer y time free ∷ vs) (dropping (goes_with x) items) ≤ weight q heads items
  lighter_than q =
      let a = lighter q in
      let b = total_kept (item_weight q) (λ i. not (goes_with x i)) items in
      let c = forgetting_weight q x heads in
      omega arith

  swap_cap : (b : ℕ) → (b ≡ x) ⊎ (b ≡ x → ⊥) → Cap n (us ++ newcomer y time free ∷ vs) (dropping (goes_with x) items) b
  swap_cap b (inl p) =
      rw p
      (let a = lighter (asked_by x) in
      let c = dropped_weight x items in
      let d = forgotten_weight x heads in
      nothing (omega arith))
  swap_cap b (inr p) =
      cap_lighter n heads (us ++ newcomer y time free ∷ vs) items (dropping (goes_with x) items) b (lighter_than (asked_by b))
      (λ g. record { head = forgetting x g.head; there_is = stays g.there_is (λ q. p (sym g.is ∙ q)); is = g.is; past = g.past })
      (k.caps b)

  named_forgot : (z : ℕ) → named z (us ++ h ∷ vs) ≡ named z heads
  named_forgot z = ap (named z) (sym whole) ∙ total_map (λ (g : Head V). bit (is_named z g)) (forgetting x) heads

  swap_apart : (z : ℕ) → named z (us ++ newcomer y time free ∷ vs) ≤ 1
  swap_apart z =
      let a = named_forgot z in
      let b = total_put (λ (g : Head V). bit (is_named z g)) us h vs in
      let c = total_put (λ (g : Head V). bit (is_named z g)) us (newcomer y time free) vs in
      let o = k.apart z in
      elim (cases_eq y z) [
        | inl p ↦
            let d = total_zero (λ (g : Head V). bit (is_named z g)) heads (λ g i. let l = (k.heads_good g i).below in grind (arith, nat_tests)) in
            let f : bit (eqb y z) ≤ 1 = grind (arith, nat_tests) in
            omega arith
        | inr p ↦ let f : bit (eqb y z) ≡ 0 = grind (arith, nat_tests) in omega arith
      ]

  swap_good : 1 ≤ y → (g : Head V) → In g (us ++ newcomer y time free ∷ vs) → HeadGood lawful limit (y + 1) g
  swap_good some-name g i = elim (in_less (newcomer y time free) us vs i) [
    | inl p ↦ subst (HeadGood lawful limit (y + 1)) p (record { some = some-name; below = omega arith; copy = tt; best = tt; acts = λ q. let z : ◌≡◌ {A = ℕ} 0 1 = cc in absurd (omega arith) })
    | inr j ↦
        let (g₀, j₀, p) = map_in (forgetting x) heads (subst (λ z. In g z) (sym whole) (in_more h us vs j)) in
        let o = k.heads_good g₀ j₀ in
        subst (HeadGood lawful limit (y + 1)) p (record { some = o.some; below = omega arith; copy = o.copy; best = o.best; acts = o.acts })
  ]

  swap_present : (i : Item V) → In i (dropping (goes_with x) items) → Here (receiver_of i) (us ++ newcomer y time free ∷ vs)
  swap_present i j =
      let (j₀, p) = kept_in (λ i. not (goes_with x i)) items j in
      let g = k.to_present i j₀ in
      let ne : receiver_of i ≡ x → ⊥ = λ q. not_to i q p in
      record { head = forgetting x g.head; there_is = stays g.there_is (λ q. ne (sym g.is ∙ q)); is = g.is }
    where
      not_to : (i : Item V) → receiver_of i ≡ x → not (goes_with x i) ≡ true → ⊥
      not_to i q p = let r : eqb (receiver_of i) x ≡ true = grind (arith, nat_tests) in both_ways (goes_with x i) (not-true (goes_with x i) p) (or_left (eqb (receiver_of i) x) (is_inquiry (kind_of i) && eqb (sender_of i) x) r)

  pub swap_housed : 1 ≤ y → Housed lawful n limit (y + 1) way (us ++ newcomer y time free ∷ vs) (dropping (goes_with x) items)
  swap_housed some-name = record {
    size = length-append us (newcomer y time free ∷ vs) ∙ sym (length-append us (h ∷ vs)) ∙ ap length (sym whole) ∙ length-map heads (forgetting x) ∙ k.size;
    apart = swap_apart;
    caps = λ b. swap_cap b (cases_eq b x);
    pairs = λ a b. let c = lighter_than (asked_at a b) in let d = k.pairs a b in omega arith;
    once = λ b. let c = total_kept (write_to b) (λ i. not (goes_with x i)) items in let d = k.once b in omega arith;
    to_present = swap_present;
    heads_good = swap_good some-name;
    items_good = λ i j. k.items_good i (kept_in (λ i. not (goes_with x i)) items j).0;
  }

-- write
module _ {V : Type 0} (lawful : V → Bool) (n time next : ℕ) (us vs : List (Head V)) (h : Head V) (items : List (Item V)) (k : Housed lawful n time next None (us ++ h ∷ vs) items) (c : Copy V) (cg : Good lawful (time + 1) (Some c)) where
  abbrev new_way : Option UnderWay
  new_way = Some (record { writer = h.name; begin = time })

  abbrev new_mail : List (Item V)
  new_mail = items ++ to_each (λ b. write h.name b time (Some c)) (us ++ vs)

  no_writes : (b : ℕ) (i : Item V) → ItemGood lawful time None i → write_to b i ≡ 0
  no_writes b (write a d t o) g = absurd g.2
  no_writes b (inquiry a d t) g = refl
  no_writes b (reply a d t o) g = refl

  still_good : (i : Item V) → ItemGood lawful time None i → ItemGood lawful (time + 1) new_way i
  still_good (write a d t o) g = absurd g.2
  still_good (inquiry a d t) g = tt
  still_good (reply a d t o) g = good_more lawful time (time + 1) (omega arith) o g

  each : (P : Item V → Type 0) → ((i : Item V) → In i items → P i) → ((g : Head V) → In g (us ++ vs) → P (write h.name g.name time (Some c))) → (i : Item V) → In i new_mail → P i
  each P f g i j = elim (in_either items (to_each (λ b. write h.name b time (Some c)) (us ++ vs)) j) [
    | inl x ↦ f i x
    | inr x ↦ let (y, z, e) = map_in (λ (g : Head V). write h.name g.name time (Some c)) (us ++ vs) x in subst P e (g y z)
  ]

  pub write_housed : Housed lawful n (time + 1) next new_way (us ++ with_copy (Some c) h ∷ vs) new_mail
  write_housed =
      changed lawful n time (time + 1) next None new_way us vs h (with_copy (Some c) h) items new_mail k refl (omega arith) (λ q. q)
      (λ q.
      let a = total_append (item_weight q) items (to_each (λ b. write h.name b time (Some c)) (us ++ vs)) in
      let b = total_map (item_weight {V = V} q) (λ (g : Head V). write h.name g.name time (Some c)) (us ++ vs) in
      let d = total_zero (λ (g : Head V). 0) (us ++ vs) (λ g i. refl) in
      omega arith)
      (λ x.
      let a = total_append (write_to x) items (to_each (λ b. write h.name b time (Some c)) (us ++ vs)) in
      let b = total_map (write_to {V = V} x) (λ (g : Head V). write h.name g.name time (Some c)) (us ++ vs) in
      let d = total_zero (write_to x) items (λ i j. no_writes x i (k.items_good i j)) in
      let f = total_append (λ (g : Head V). bit (is_named x g)) us vs in
      let l = total_put (λ (g : Head V). bit (is_named x g)) us h vs in
      let o = k.apart x in
      omega arith)
      (each (λ i. Here (receiver_of i) (us ++ with_copy (Some c) h ∷ vs)) (λ i j. here_change us vs h (with_copy (Some c) h) refl (k.to_present i j)) (λ g i. record { head = g; there_is = in_more (with_copy (Some c) h) us vs i; is = refl }))
      (let o = k.heads_good h (in_mid h us vs refl) in record { some = o.some; below = o.below; copy = cg; best = good_more lawful time (time + 1) (omega arith) h.best o.best; acts = λ _. refl })
      (each (ItemGood lawful (time + 1) new_way) (λ i j. still_good i (k.items_good i j)) (λ g i. (cg, (λ p. other_name us vs h g k.apart i (sym p)), refl)))
