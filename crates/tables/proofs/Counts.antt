-- Counts of heads, place by place, and of items.
use Rattle.std.proofs.Common.{◌≡◌, ℕ, ◌+◌, ◌<◌, ◌≤◌, Bool, true, false, cond, not, List, ◌∷◌, length, get_or, drop, is_some, Some, None, filter, Option, sym, ap, ◌∙◌, arith}
use Rattle.std.proofs.lemmas.List.{drop_all}
use Rattle.std.proofs.lemmas.Bool.{cond-true, cond-false}
use Rattle.protocol.specs.Places.{first}
use Rattle.protocol.specs.Heads.{is_named, is_inquiring, inquiring_named, state_by, holds_of}
use Rattle.protocol.specs.Items.{Item}
use Rattle.protocol.specs.Tick.{activations, is_activation, turn}
use Rattle.tables.specs.declared.head.Head.{Head}
use Rattle.tables.specs.HeadPlaces.{head_of, heads_of}
use Rattle.tables.specs.MailPlaces.{with_item}
use Rattle.tables.proofs.Searches.{drop_read}

length_kept : {X : Type 0} (q : X → Bool) (x : X) (xs : List X) → length (filter q (x ∷ xs)) ≡ cond (q x) 1 0 + length (filter q xs)
length_kept q x xs = by (q x)
  where
    by : (b : Bool) → length (cond b (x ∷ filter q xs) (filter q xs)) ≡ cond b 1 0 + length (filter q xs)
    by true = omega arith
    by false = omega arith

module _ {V : Type 0} (xs : List (Head V)) (i : ℕ) where
  pub no_more_activations : (delay time : ℕ) → length xs ≤ i → activations delay time (heads_of (drop i xs)) ≡ 0
  no_more_activations delay time h = ap (λ ys. activations delay time (heads_of ys)) (drop_all i xs h)

  pub nobody_inquiring : (name : ℕ) → length xs ≤ i → inquiring_named name (heads_of (drop i xs)) ≡ false
  nobody_inquiring name h = ap (λ ys. inquiring_named name (heads_of ys)) (drop_all i xs h)

  module _ (x : Head V) (h : i < length xs) (r : x ≡ get_or xs i x) where
    pub activation_here : (delay time : ℕ) (b : Bool) → b ≡ is_activation (turn delay time (head_of x)) → activations delay time (heads_of (drop i xs)) ≡ cond b 1 0 + activations delay time (heads_of (drop (i + 1) xs))
    activation_here delay time b e =
        ap (λ ys. activations delay time (heads_of ys)) (drop_read xs i x h r)
        ∙ length_kept (λ k. is_activation (turn delay time k)) (head_of x) (heads_of (drop (i + 1) xs))
        ∙ ap (λ c. cond c 1 0 + activations delay time (heads_of (drop (i + 1) xs))) (sym e)

    split : (name : ℕ) → inquiring_named name (heads_of (drop i xs)) ≡ holds_of is_inquiring (state_by (cond (is_named name (head_of x)) (Some (head_of x)) (first (is_named name) (heads_of (drop (i + 1) xs)))))
    split name = ap (λ ys. inquiring_named name (heads_of ys)) (drop_read xs i x h r)

    pub inquiring_here : (name : ℕ) → true ≡ is_named name (head_of x) → inquiring_named name (heads_of (drop i xs)) ≡ is_inquiring x.state
    inquiring_here name e =
        split name ∙ ap (λ o. holds_of is_inquiring (state_by o)) (cond-true (is_named name (head_of x)) (Some (head_of x)) (first (is_named name) (heads_of (drop (i + 1) xs))) (sym e))

    pub inquiring_past : (name : ℕ) → false ≡ is_named name (head_of x) → inquiring_named name (heads_of (drop (i + 1) xs)) ≡ inquiring_named name (heads_of (drop i xs))
    inquiring_past name e =
        sym (split name ∙ ap (λ o. holds_of is_inquiring (state_by o)) (cond-false (is_named name (head_of x)) (Some (head_of x)) (first (is_named name) (heads_of (drop (i + 1) xs))) (sym e)))

pub length_with_item : {V : Type 0} (o : Option (Item V)) (is : List (Item V)) → length (with_item o is) ≡ cond (not (is_some o)) 0 1 + length is
length_with_item None is = omega arith
length_with_item (Some x) is = omega arith
