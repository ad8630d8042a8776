-- The head with a name amid a tick stands where it stood before.
use Rattle.std.proofs.Common.{◌≡◌, ℕ, zero, suc, ◌+◌, ◌-◌, ◌<◌, ◌≤◌, Bool, true, false, cond, eqb, List, [], ◌∷◌, ◌++◌, length, get_or, take, drop, Some, None, Option, sym, refl, ap, ◌∙◌, arith}
use Rattle.std.proofs.lemmas.List.{append_assoc, length-append, length-map, length-take-le, length-drop, map_more}
use Rattle.std.proofs.lemmas.Bool.{cond-true, cond-false, eq-eqb}
use Rattle.protocol.specs.Places.{first}
use Rattle.protocol.specs.Heads.{Head as Told, is_named, is_inquiring, inquiring_named, state_by, holds_of}
use Rattle.protocol.specs.Tick.{Turn, rests, inquires, activates, strands, turn, turned, turned_by}
use Rattle.tables.specs.declared.head.Head.{Head}
use Rattle.tables.specs.HeadPlaces.{head_of, heads_of}
use Rattle.tables.proofs.Found.{Found, here, later, found, not_found}
use Rattle.room.specs.Amid.{turned_heads, amid}
use Rattle.room.specs.Counting.{place_named}

module _ {V : Type 0} where
  name_by : (now : ℕ) (t : Turn V) (h : Told V) → (turned_by now t h).name ≡ h.name
  name_by now rests h = refl
  name_by now inquires h = refl
  name_by now (activates c) h = refl
  name_by now strands h = refl

  module _ (delay now x : ℕ) where
    named_still : (h : Told V) (b : Bool) → is_named x h ≡ b → is_named x (turned delay now h) ≡ b
    named_still h b e = ap (λ n. eqb n x) (name_by now (turn delay now h) h) ∙ e

    turned_first : {hs : List (Head V)} {k : ℕ} → Found (λ h. is_named x (head_of h)) hs k → (n : ℕ) → k < n → (d : Head V) → first (is_named x) (amid delay now n hs) ≡ Some (turned delay now (head_of (get_or hs k d)))
    turned_first (here e) zero l d = absurd (omega arith)
    turned_first (here {x = h} {xs = hs} e) (suc n) l d = cond-true (is_named x (turned delay now (head_of h))) (Some (turned delay now (head_of h))) (first (is_named x) (amid delay now n hs)) (named_still (head_of h) true e)
    turned_first (later e f) zero l d = absurd (omega arith)
    turned_first (later {x = h} {xs = hs} e f) (suc n) l d = cond-false (is_named x (turned delay now (head_of h))) (Some (turned delay now (head_of h))) (first (is_named x) (amid delay now n hs)) (named_still (head_of h) false e) ∙ turned_first f n (omega arith) d

    waiting_first : {hs : List (Head V)} {k : ℕ} → Found (λ h. is_named x (head_of h)) hs k → (n : ℕ) → n ≤ k → (d : Head V) → first (is_named x) (amid delay now n hs) ≡ Some (head_of (get_or hs k d))
    waiting_first (here {x = h} {xs = hs} e) zero l d = cond-true (is_named x (head_of h)) (Some (head_of h)) (first (is_named x) (heads_of hs)) e
    waiting_first (here e) (suc n) l d = absurd (omega arith)
    waiting_first (later {x = h} {xs = hs} e f) zero l d = cond-false (is_named x (head_of h)) (Some (head_of h)) (first (is_named x) (heads_of hs)) e ∙ waiting_first f zero (omega arith) d
    waiting_first (later {x = h} {xs = hs} e f) (suc n) l d = cond-false (is_named x (turned delay now (head_of h))) (Some (turned delay now (head_of h))) (first (is_named x) (amid delay now n hs)) (named_still (head_of h) false e) ∙ waiting_first f n (omega arith) d

    nobody_first : (hs : List (Head V)) (n : ℕ) → first (λ h. is_named x (head_of h)) hs ≡ None → first (is_named x) (amid delay now n hs) ≡ None
    nobody_first [] zero e = refl
    nobody_first [] (suc n) e = refl
    nobody_first (h ∷ hs) n e = by n (is_named x (head_of h)) refl e (nobody_first hs)
      where
        by : (n : ℕ) (b : Bool) → is_named x (head_of h) ≡ b → cond b (Some h) (first (λ h. is_named x (head_of h)) hs) ≡ None → ((m : ℕ) → first (λ h. is_named x (head_of h)) hs ≡ None → first (is_named x) (amid delay now m hs) ≡ None) → first (is_named x) (amid delay now n (h ∷ hs)) ≡ None
        by n true e q ih = let z : ◌≡◌ {A = ℕ} 0 1 = cc in absurd (omega arith)
        by zero false e q ih = cond-false (is_named x (head_of h)) (Some (head_of h)) (first (is_named x) (heads_of hs)) e ∙ ih zero q
        by (suc n) false e q ih = cond-false (is_named x (turned delay now (head_of h))) (Some (turned delay now (head_of h))) (first (is_named x) (amid delay now n hs)) (named_still (head_of h) false e) ∙ ih n q

    module _ (hs : List (Head V)) (n : ℕ) where
      pub nobody_amid : place_named x hs ≡ None → inquiring_named x (amid delay now n hs) ≡ false
      nobody_amid e = ap (λ o. holds_of is_inquiring (state_by o)) (nobody_first hs n (not_found (λ h. is_named x (head_of h)) hs e))

      module _ (k : ℕ) (e : place_named x hs ≡ Some k) (h : Head V) (r : h ≡ get_or hs k h) where
        pub turned_amid : k < n → inquiring_named x (amid delay now n hs) ≡ is_inquiring (turned delay now (head_of h)).state
        turned_amid l =
            ap (λ o. holds_of is_inquiring (state_by o)) (turned_first (found (λ h. is_named x (head_of h)) hs k e) n l h) ∙ ap (λ h. is_inquiring (turned delay now (head_of h)).state) (sym r)

        pub waiting_amid : n ≤ k → inquiring_named x (amid delay now n hs) ≡ is_inquiring h.state
        waiting_amid l = ap (λ o. holds_of is_inquiring (state_by o)) (waiting_first (found (λ h. is_named x (head_of h)) hs k e) n l h) ∙ ap (λ h. is_inquiring h.state) (sym r)

  no_first : (p : Head V → Bool) (hs : List (Head V)) (i : ℕ) (d : Head V) → i < length hs → p (get_or hs i d) ≡ true → first p hs ≡ None → ⊥
  no_first p [] i d l e q = absurd (omega arith)
  no_first p (h ∷ hs) zero d l e q = let z : ◌≡◌ {A = Option (Head V)} (Some h) None = sym (cond-true (p h) (Some h) (first p hs) e) ∙ q in let w : ◌≡◌ {A = ℕ} 0 1 = cc in absurd (omega arith)
  no_first p (h ∷ hs) (suc i) d l e q = by (p h) q (no_first p hs i d (omega arith) e)
    where
      by : (b : Bool) → cond b (Some h) (first p hs) ≡ None → (first p hs ≡ None → ⊥) → ⊥
      by true z ih = let w : ◌≡◌ {A = ℕ} 0 1 = cc in absurd (omega arith)
      by false z ih = ih z

  module _ (hs : List (Head V)) (i : ℕ) (h : Head V) (l : i < length hs) (r : h ≡ get_or hs i h) where
    -- a head of the table has a place
    pub has_place : place_named h.name hs ≡ None → ⊥
    has_place q = no_first (λ k. is_named h.name (head_of k)) hs i h l (eq-eqb (get_or hs i h).name h.name (ap (λ k. k.name) (sym r))) (not_found (λ k. is_named h.name (head_of k)) hs q)

    -- the heads when the one in this place has turned
    pub amid_here : (delay now : ℕ) → turned_heads delay now (take i hs) ++ turned delay now (head_of h) ∷ heads_of (drop (i + 1) hs) ≡ amid delay now (i + 1) hs
    amid_here delay now =
        sym (ap (λ ks. ks ++ heads_of (drop (i + 1) hs)) (map_more (λ k. turned delay now (head_of k)) hs i h l ∙ ap (λ k. turned_heads delay now (take i hs) ++ turned delay now (head_of k) ∷ []) (sym r))
        ∙ append_assoc (turned_heads delay now (take i hs)) (turned delay now (head_of h) ∷ []) (heads_of (drop (i + 1) hs)))

  pub others_length : (delay now : ℕ) (hs : List (Head V)) (i : ℕ) → i < length hs → length (turned_heads delay now (take i hs) ++ heads_of (drop (i + 1) hs)) ≡ length hs - 1
  others_length delay now hs i l =
      omega (arith, length-append (turned_heads delay now (take i hs)) (heads_of (drop (i + 1) hs)), length-map (take i hs) (λ k. turned delay now (head_of k)), length-map (drop (i + 1) hs) (λ k. head_of k), length-take-le i hs (omega arith), length-drop (i + 1) hs)
