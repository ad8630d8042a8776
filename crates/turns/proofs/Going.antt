-- The turns so far, and what is left of them.
use Rattle.std.proofs.Common.{◌≡◌, ℕ, zero, suc, ◌+◌, ◌<◌, ◌≤◌, List, [], ◌∷◌, ◌++◌, map, length, get_or, take, drop, Some, None, Option, sym, refl, ap, ◌∙◌, subst, add-one, arith, drop-cons}
use Rattle.std.specs.List.Sorted.{IsPermutation}
use Rattle.std.proofs.lemmas.List.{length-map, length-take-le, take_at, drop_at, drop-drop, drop_all, drop_more, map_more, get_or_at}
use Rattle.std.proofs.lemmas.List.Sorted.{IsPermutation-refl, IsPermutation-sym, IsPermutation-trans}
use Rattle.protocol.specs.Heads.{Head as Told}
use Rattle.protocol.specs.Items.{Item}
use Rattle.protocol.specs.Tick.{turn, turned, turn_mail, turns_mail, then_do}
use Rattle.turns.proofs.SameMail.{turns_shuffled}

-- what stands in a place of a list
pub one_at : {X : Type 0} (xs : List X) (i : ℕ) → i < length xs → (x : X) × (x ≡ get_or xs i x)
one_at [] i l = absurd (omega arith)
one_at (x ∷ xs) zero l = (x, refl)
one_at (x ∷ xs) (suc i) l = one_at xs i (omega arith)

module _ {V : Type 0} (delay now : ℕ) (heads : List (Told V)) where
  -- the heads that have turned, before place i
  abbrev pub before : ℕ → List (Told V)
  before i = map (turned delay now) (take i heads)

  -- the heads when those before place i have turned
  abbrev pub amid : ℕ → List (Told V)
  amid i = before i ++ drop i heads

  module _ (i : ℕ) (l : i < length heads) (ks : List (Told V)) (e : ks ≡ amid i) where
    before_long : length (before i) ≡ i
    before_long = length-map (take i heads) (turned delay now) ∙ length-take-le i heads (omega arith)

    pub amid_before : take i ks ≡ before i
    amid_before = ap (take i) e ∙ take_at (before i) (drop i heads) i before_long

    pub amid_after : drop (suc i) ks ≡ drop (suc i) heads
    amid_after =
        ap (drop (suc i)) e
        ∙ ap (λ n. drop n (before i ++ drop i heads)) (sym (add-one i))
        ∙ sym (drop-drop 1 i (before i ++ drop i heads))
        ∙ ap (drop 1) (drop_at (before i) (drop i heads) i before_long)
        ∙ drop-drop 1 i heads
        ∙ ap (λ n. drop n heads) (add-one i)

    pub amid_here : (h : Told V) → h ≡ get_or ks i h → h ≡ get_or heads i h
    amid_here h r =
        r ∙ ap (λ zs. get_or zs i h) e
        ∙ ap (λ zs. get_or (before i ++ zs) i h) (drop_more heads i h l)
        ∙ get_or_at (before i) (get_or heads i h) (drop (i + 1) heads) h i before_long

  module _ (places : ℕ) (origin : List (Item V)) where
    -- what the turns that are left make of the items is what all turns make of the mail
    abbrev pub Going : ℕ → List (Item V) → Type 0
    Going i items = (all : List (Item V)) → turns_mail places delay now [] heads origin ≡ Some all → (left : List (Item V)) × (turns_mail places delay now (before i) (drop i heads) items ≡ Some left) × IsPermutation left all

    pub going_start : Going 0 origin
    going_start all e = (all, e, IsPermutation-refl all)

    pub going_end : (i : ℕ) (items : List (Item V)) → length heads ≤ i → Going i items → (all : List (Item V)) → turns_mail places delay now [] heads origin ≡ Some all → IsPermutation items all
    going_end i items l going all e =
        let (left, q, s) = going all e in
        let z : ◌≡◌ {A = Option (List (Item V))} (Some items) (Some left) = sym (ap (λ hs. turns_mail places delay now (before i) hs items) (drop_all i heads l)) ∙ q in
        let w : left ≡ items = cc in
        subst (λ is. IsPermutation is all) w s

    module _ (i : ℕ) (l : i < length heads) (h : Told V) (r : h ≡ get_or heads i h) (items next : List (Item V)) where
      abbrev made_here : Option (List (Item V))
      made_here = turn_mail places now (before i) h (drop (suc i) heads) items (turn delay now h)

      one_on : turns_mail places delay now (before i) (drop i heads) items ≡ then_do made_here (λ mail. turns_mail places delay now (before (i + 1)) (drop (i + 1) heads) mail)
      one_on =
          ap (λ hs. turns_mail places delay now (before i) hs items) (drop-cons heads i h l ∙ ap (λ k. k ∷ drop (suc i) heads) (sym r))
          ∙ ap (λ hs. then_do made_here (λ mail. turns_mail places delay now hs (drop (suc i) heads) mail)) (ap (λ k. before i ++ turned delay now k ∷ []) r ∙ sym (map_more (turned delay now) heads i h l))
          ∙ ap (λ n. then_do made_here (λ mail. turns_mail places delay now (before (i + 1)) (drop n heads) mail)) (sym (add-one i))

      pub going_more : Going i items → ((made : List (Item V)) → made_here ≡ Some made → IsPermutation next made) → Going (i + 1) next
      going_more going step all e =
          let (left, q, s) = going all e in
          go left s made_here refl (sym one_on ∙ q)
        where
          go : (left : List (Item V)) → IsPermutation left all → (o : Option (List (Item V))) → made_here ≡ o → then_do o (λ mail. turns_mail places delay now (before (i + 1)) (drop (i + 1) heads) mail) ≡ Some left → (new : List (Item V)) × (turns_mail places delay now (before (i + 1)) (drop (i + 1) heads) next ≡ Some new) × IsPermutation new all
          go left s None m q = let z : ◌≡◌ {A = ℕ} 0 1 = cc in absurd (omega arith)
          go left s (Some made) m q =
              let (new, w, t) = turns_shuffled places delay now (before (i + 1)) (drop (i + 1) heads) made next left (IsPermutation-sym next made (step made m)) q in
              (new, w, IsPermutation-trans new left all (IsPermutation-sym left new t) s)
