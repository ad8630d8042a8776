-- Items are put one by one, and counted.
use Rattle.std.proofs.Common.{◌≡◌, ℕ, ◌+◌, ◌<◌, ◌≤◌, Bool, true, false, cond, leb, List, [], ◌∷◌, ◌++◌, map, length, get_or, drop, Some, None, Ok, Err, filter, Option, sym, refl, ap, ◌∙◌, subst, arith}
use Rattle.std.proofs.lemmas.List.{append_assoc, append-nil, length_push, drop_more, drop_all}
use Rattle.std.proofs.lemmas.Bool.{cond-true, cond-false, le-leb, lt-leb}
use Rattle.protocol.specs.Heads.{Copy}
use Rattle.protocol.specs.Items.{Item, reply, put}
use Rattle.tables.specs.declared.head.Head.{Head}
use Rattle.protocol.specs.declared.refusal.Refusal.TheVariants.{NoRoom}
use Rattle.protocol.specs.Heads.{inquiring_named}
use Rattle.room.specs.declared.forecast.Forecast.{Forecast}
use Rattle.room.specs.Amid.{amid}
use Rattle.room.specs.Counting.{Foresees, Followed}

module _ {V : Type 0} (places : ℕ) (items : List (Item V)) where
  put_one : (i : Item V) (new : List (Item V)) → put places items (i ∷ new) ≡ put places (items ++ i ∷ []) new
  put_one i new =
      ap (λ n. cond (leb n places) (Some (items ++ i ∷ new)) None) (let l = length_push items i in omega arith)
      ∙ ap (λ is. cond (leb (length (items ++ i ∷ []) + length new) places) (Some is) None) (sym (append_assoc items (i ∷ []) new))

  put_full : (i : Item V) (new : List (Item V)) → places ≤ length items → put places items (i ∷ new) ≡ None
  put_full i new l = cond-false (leb (length items + length (i ∷ new)) places) (Some (items ++ i ∷ new)) None (lt-leb (length items + length (i ∷ new)) places (omega arith))

  put_none : length items ≤ places → put places items [] ≡ Some items
  put_none l = cond-true (leb (length items + 0) places) (Some (items ++ [])) None (le-leb (length items + 0) places (omega arith)) ∙ ap (λ is. Some is) (append-nil items)

-- the replies to the names before place j are counted, and what is left of them gives the mail
abbrev pub Replying : {V : Type 0} → ℕ → ℕ → ℕ → List ℕ → Forecast V → ℕ → Forecast V → Type 0
Replying {V} delay time turns to start j f =
    (hs : List (Head V)) (places : ℕ) (origin : List (Item V)) (a : ℕ) (c : Option (Copy V)) → Foresees hs places origin start →
    (items : List (Item V))
    × Foresees hs places items f
    × (put places items (map (λ x. reply a x time c) (filter (λ x. inquiring_named x (amid delay time turns hs)) (drop j to))) ≡ put places origin (map (λ x. reply a x time c) (filter (λ x. inquiring_named x (amid delay time turns hs)) to)))

module _ {V : Type 0} (delay time turns : ℕ) (to : List ℕ) (start : Forecast V) where
  pub replying_start : Replying delay time turns to start 0 start
  replying_start hs places origin a c d = (origin, d, refl)

  module _ (j : ℕ) (f : Forecast V) (inv : Replying delay time turns to start j f) where
    module _ (hs : List (Head V)) (places : ℕ) (origin : List (Item V)) (a : ℕ) (c : Option (Copy V)) (d : Foresees hs places origin start) where
      abbrev p : ℕ → Bool
      p x = inquiring_named x (amid delay time turns hs)

      abbrev replies : List ℕ → List (Item V)
      replies xs = map (λ x. reply a x time c) (filter p xs)

      pub replying_end : length to ≤ j → f.items ≤ f.places → Followed hs places (put places origin (replies to)) (Ok tt) f
      replying_end l within =
          let (items, now, e) = inv hs places origin a c d in
          subst (λ o. Followed hs places o (Ok tt) f)
          (sym (put_none places items (omega (arith, now.counted.all, now.size, within)))
          ∙ ap (λ ys. put places items (replies ys)) (sym (drop_all j to l))
          ∙ e)
          (refl, now)

      module _ (x : ℕ) (l : j < length to) (r : x ≡ get_or to j x) (b : Bool) (k : inquiring_named x (amid delay time turns f.heads.now) ≡ b) where
        kept_here : (now : List (Head V)) → now ≡ hs → inquiring_named x (amid delay time turns now) ≡ b → filter p (drop j to) ≡ cond b (x ∷ filter p (drop (j + 1) to)) (filter p (drop (j + 1) to))
        kept_here now s e =
            ap (filter p) (drop_more to j x l ∙ ap (λ y. y ∷ drop (j + 1) to) (sym r))
            ∙ ap (λ b. cond b (x ∷ filter p (drop (j + 1) to)) (filter p (drop (j + 1) to))) (ap (λ ks. inquiring_named x (amid delay time turns ks)) (sym s) ∙ e)

        pub left_here : (items : List (Item V)) (now : Foresees hs places items f) (e : put places items (replies (drop j to)) ≡ put places origin (replies to)) → put places items (map (λ x. reply a x time c) (cond b (x ∷ filter p (drop (j + 1) to)) (filter p (drop (j + 1) to)))) ≡ put places origin (replies to)
        left_here items now e = ap (λ ys. put places items (map (λ x. reply a x time c) ys)) (sym (kept_here f.heads.now now.lent k)) ∙ e

    module _ (x : ℕ) (l : j < length to) (r : x ≡ get_or to j x) where
      pub replying_past : inquiring_named x (amid delay time turns f.heads.now) ≡ false → Replying delay time turns to start (j + 1) f
      replying_past k hs places origin a c d =
          let (items, now, e) = inv hs places origin a c d in
          (items, now, left_here hs places origin a c d x l r false k items now e)

      module _ (k : inquiring_named x (amid delay time turns f.heads.now) ≡ true) where
        pub replying_full : f.places < f.items + 1 → (hs : List (Head V)) (places : ℕ) (origin : List (Item V)) (a : ℕ) (c : Option (Copy V)) (d : Foresees hs places origin start) → Followed hs places (put places origin (replies hs places origin a c d to)) (Err NoRoom) f
        replying_full full hs places origin a c d =
            let (items, now, e) = inv hs places origin a c d in
            subst (λ o. Followed hs places o (Err NoRoom) f)
            (sym (put_full places items (reply a x time c) (replies hs places origin a c d (drop (j + 1) to)) (omega (arith, now.counted.all, now.size, full)))
            ∙ left_here hs places origin a c d x l r true k items now e)
            refl

        pub replying_more : (next : Forecast V) → ((hs : List (Head V)) (places : ℕ) (is : List (Item V)) (a t : ℕ) (c : Option (Copy V)) → Foresees hs places is f → Foresees hs places (is ++ reply a x t c ∷ []) next) → Replying delay time turns to start (j + 1) next
        replying_more next more hs places origin a c d =
            let (items, now, e) = inv hs places origin a c d in (
              items ++ reply a x time c ∷ [],
              more hs places items a time c now,
              sym (put_one places items (reply a x time c) (replies hs places origin a c d (drop (j + 1) to)))
                  ∙ left_here hs places origin a c d x l r true k items now e,
            )
