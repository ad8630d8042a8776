-- Each way of a bring is a step.
use Rattle.std.proofs.Common.{◌≡◌, ℕ, ◌<◌, Bool, true, false, cond, not, ◌&&◌, ◌||◌, eqb, List, [], ◌∷◌, ◌++◌, length, get_or, take, set, is_some, Some, None, Ok, Err, Option, sym, refl, ap, ◌∙◌, inl, inr, arith}
use Rattle.std.specs.List.Sorted.{IsPermutation}
use Rattle.std.proofs.lemmas.List.{append-nil, length-set, get_or-set_same, set-set}
use Rattle.std.proofs.lemmas.List.Sorted.{IsPermutation-refl}
use Rattle.std.proofs.lemmas.Bool.{false≢true, eqb-true, and_parts}
use Rattle.logs.specs.Meanings.{Meaning}
use Rattle.protocol.specs.declared.kind.MailKind.{MailKind}
use Rattle.protocol.specs.declared.kind.MailKind.TheVariants.{Write, Inquiry, Reply}
use Rattle.protocol.specs.declared.refusal.Refusal.{Refusal}
use Rattle.protocol.specs.declared.refusal.Refusal.TheVariants.{NoRoom}
use Rattle.protocol.specs.declared.call.Call.TheVariants.{Bring}
use Rattle.protocol.specs.declared.answer.Answer.TheVariants.{Brought, Refused}
use Rattle.protocol.specs.Places.{first, all_but_first}
use Rattle.protocol.specs.Heads.{Head as Told, is_named, head_named, present, holds_of}
use Rattle.protocol.specs.Items.{Item, write, inquiry, reply, is_inquiry, is_told}
use Rattle.protocol.specs.Sites.{Site, State, refused_by}
use Rattle.protocol.specs.Bring.{holds_too_many, received, bring_heads, bring_answers, bring_checks, bring_refusal}
use Rattle.protocol.specs.Steps.{Step, refused, accepted}
use Rattle.tables.specs.declared.head.Head.{Head}
use Rattle.tables.specs.declared.mail.MailPlace.{MailPlace}
use Rattle.tables.specs.FirstPlaces.{place_of, both_places}
use Rattle.tables.specs.HeadPlaces.{head_of, heads_of}
use Rattle.tables.specs.MailPlaces.{item_of, items_of, with_item}
use Rattle.tables.specs.Passes.{without_item}
use Rattle.tables.proofs.Bags.{same_bag}
use Rattle.tables.proofs.Found.{Found, found, found_within, found_passes, not_found, both_found, one_missing}
use Rattle.tables.proofs.FoundItems.{first_item, rest_items, no_item, put_in}
use Rattle.acts.specs.Delivering.{overfills, received_from, Delivers, Delivery}
use Rattle.acts.specs.Lent.{lent}
use Rattle.acts.proofs.Checks.{refused_first, passed_first}
use Rattle.acts.proofs.Named.{nobody, within, named, changed}

module _ {V : Type 0} where
  -- whether an item overfills a head is told by the item's kind and sender
  overfills_told : (kind : MailKind) (a b : ℕ) (i : Item V) (h : Told V) → is_told kind a b i ≡ true → overfills (Some i) h ≡ (is_inquiry kind && holds_too_many a h)
  overfills_told Write a b (write a' b' t c) h e = refl
  overfills_told Write a b (inquiry a' b' t) h e = absurd (false≢true e)
  overfills_told Write a b (reply a' b' t c) h e = refl
  overfills_told Inquiry a b (write a' b' t c) h e = absurd (false≢true e)
  overfills_told Inquiry a b (inquiry a' b' t) h e = ap (λ n. holds_too_many n h) (eqb-true a' a (and_parts (eqb a' a) (eqb b' b) e).0)
  overfills_told Inquiry a b (reply a' b' t c) h e = absurd (false≢true e)
  overfills_told Reply a b (write a' b' t c) h e = refl
  overfills_told Reply a b (inquiry a' b' t) h e = absurd (false≢true e)
  overfills_told Reply a b (reply a' b' t c) h e = refl

  overfills_is : (kind : MailKind) (a b : ℕ) (o : Option (Item V)) (h : Told V) → holds_of (is_told kind a b) o ≡ true → overfills o h ≡ (is_inquiry kind && holds_too_many a h)
  overfills_is kind a b None h e = absurd (false≢true e)
  overfills_is kind a b (Some i) h e = overfills_told kind a b i h e

  is_there : (t : Item V → Bool) (o : Option (Item V)) → holds_of t o ≡ true → not (is_some o) ≡ false
  is_there t None e = absurd (false≢true e)
  is_there t (Some i) e = refl

or_true : (b : Bool) → (b || true) ≡ true
or_true true = refl
or_true false = refl

module _ {V : Type 0} (hs : List (Head V)) (ms : List (MailPlace V)) (kind : MailKind) (a b : ℕ) where
  abbrev told : Item V → Bool
  told = is_told kind a b

  abbrev lies : MailPlace V → Bool
  lies p = holds_of (is_told kind a b) (item_of p)

  abbrev receives : Head V → Bool
  receives h = is_named b (head_of h)

  -- there is no such item, or its receiver is not present
  abbrev missing : Bool
  missing = not (is_some (first told (items_of ms))) || not (present b (heads_of hs))

  pub not_there : both_places (place_of receives hs) (place_of lies ms) ≡ None → missing ≡ true
  not_there e =
      elim (one_missing (place_of receives hs) (place_of lies ms) e) [
        | inl n ↦ ap (λ o. not (is_some (first told (items_of ms))) || not (is_some o)) (nobody b hs n) ∙ or_true (not (is_some (first told (items_of ms))))
        | inr n ↦ ap (λ o. not (is_some o) || not (present b (heads_of hs))) (no_item told ms (not_found lies ms n))
      ]

  module _ (i k : ℕ) (e : both_places (place_of receives hs) (place_of lies ms) ≡ Some (i, k)) where
    pub receiver_within : i < length hs
    receiver_within = within b hs i (both_found (place_of receives hs) (place_of lies ms) i k e).0

    pub item_within : k < length ms
    item_within = found_within lies (found lies ms k (both_found (place_of receives hs) (place_of lies ms) i k e).1)

    pub delivery : (h : Head V) (p : MailPlace V) → h ≡ get_or hs i h → p ≡ get_or ms k p → Delivery hs ms kind a b i h k p
    delivery h p hr pr =
        let f = both_found (place_of receives hs) (place_of lies ms) i k e in
        record { receiver = f.0; head = hr; item = f.1; place = pr }

  module _ (i : ℕ) (h : Head V) (k : ℕ) (p : MailPlace V) (d : Delivery hs ms kind a b i h k p) where
    abbrev item_found : Found lies ms k
    item_found = found lies ms k d.item

    head_is : head_named b (heads_of hs) ≡ Some (head_of h)
    head_is = named b hs i d.receiver h d.head

    item_is : first told (items_of ms) ≡ item_of p
    item_is = first_item told item_found p ∙ ap item_of (sym d.place)

    passes : holds_of told (item_of p) ≡ true
    passes = ap (λ q. holds_of told (item_of q)) d.place ∙ found_passes lies item_found p

    pub both_there : missing ≡ false
    both_there =
        ap (λ o. not (is_some o) || not (present b (heads_of hs))) item_is
        ∙ ap (λ c. c || not (present b (heads_of hs))) (is_there told (item_of p) passes)
        ∙ ap (λ o. not (is_some o)) head_is

    heads_by : (w : Head V) (o : Option (Item V)) → holds_of told o ≡ true → head_of w ≡ received_from o (head_of h) → heads_of (set hs i w) ≡ bring_heads b o (heads_of hs)
    heads_by w None e f = absurd (false≢true e)
    heads_by w (Some x) e f = changed b hs i d.receiver h d.head (received x) w f

    heads_are : (w : Head V) → head_of w ≡ received_from (item_of p) (head_of h) → heads_of (set hs i w) ≡ bring_heads b (first told (items_of ms)) (heads_of hs)
    heads_are w f = heads_by w (item_of p) passes f ∙ ap (λ o. bring_heads b o (heads_of hs)) (sym item_is)

    items_by : (q : MailPlace V) (o : Option (Item V)) → item_of q ≡ o → IsPermutation (items_of (set ms k q)) (all_but_first told (items_of ms) ++ with_item o [])
    items_by q None e = same_bag (rest_items told item_found q e) (append-nil (all_but_first told (items_of ms))) (IsPermutation-refl (all_but_first told (items_of ms)))
    items_by q (Some x) e =
        let n = found_within lies item_found in
        same_bag
        (ap items_of (sym (set-set ms k (without_item p) q)))
        (ap (λ is. is ++ x ∷ []) (sym (rest_items told item_found (without_item p) refl)))
        (put_in (set ms k (without_item p)) k q p x (omega (arith, length-set ms k (without_item p), n)) (ap item_of (get_or-set_same ms k (without_item p) p n)) e)

    items_are : (q : MailPlace V) (time : ℕ) → items_of (q ∷ []) ≡ bring_answers time (Some (head_of h)) (item_of p) → IsPermutation (items_of (set ms k q)) (all_but_first told (items_of ms) ++ bring_answers time (head_named b (heads_of hs)) (first told (items_of ms)))
    items_are q time e =
        same_bag refl
        (ap (λ is. all_but_first told (items_of ms) ++ is)
        (ap (bring_answers time (head_named b (heads_of hs))) item_is ∙ ap (λ o. bring_answers time o (item_of p)) head_is ∙ sym e))
        (items_by q (item_of q) refl)

module _ {V : Type 0} (lawful : V → Bool) (u : Site) (hs : List (Head V)) (ms : List (MailPlace V)) (m : Meaning V) (kind : MailKind) (a b : ℕ) where
  abbrev s : State V
  s = lent u hs ms m

  pub bring_refused : (why : Refusal) → refused_by (take 2 (bring_checks s kind a b)) None ≡ Some why → Step lawful s (Bring kind a b) (Refused why) s
  bring_refused why e = refused why (refused_first (take 2 (bring_checks s kind a b)) _ why e) refl refl

  module _ (none : refused_by (take 2 (bring_checks s kind a b)) None ≡ None) (i : ℕ) (h : Head V) (k : ℕ) (p : MailPlace V) (d : Delivery hs ms kind a b i h k p) where
    refusal_is : bring_refusal s kind a b ≡ cond (overfills (item_of p) (head_of h)) (Some NoRoom) None
    refusal_is =
        passed_first (take 2 (bring_checks s kind a b)) _ none
        ∙ ap (λ o. cond (is_inquiry kind && holds_of (holds_too_many a) o) (Some NoRoom) None) (head_is hs ms kind a b i h k p d)
        ∙ ap (λ c. cond c (Some NoRoom) None) (sym (overfills_is kind a b (item_of p) (head_of h) (passes hs ms kind a b i h k p d)))

    pub bring_overfills : (why : Refusal) → Delivers u.time (item_of p) (head_of h) (Err why) → Step lawful s (Bring kind a b) (Refused why) s
    bring_overfills why (e, w) = refused why (refusal_is ∙ ap (λ c. cond c (Some NoRoom) None) e ∙ ap Some (sym w)) refl refl

    pub brought : (w : Head V) (q : MailPlace V) → Delivers u.time (item_of p) (head_of h) (Ok (w, q)) → (ks : List (Head V)) (ns : List (MailPlace V)) → ks ≡ set hs i w → ns ≡ set ms k q → Step lawful s (Bring kind a b) Brought (lent u ks ns m)
    brought w q (e, f, g) ks ns put-w put-q =
        accepted 0 (refusal_is ∙ ap (λ c. cond c (Some NoRoom) None) e) refl
        (record {
          site = refl;
          heads = ap heads_of put-w ∙ heads_are hs ms kind a b i h k p d w f;
          places = ap length put-q ∙ length-set ms k q;
          items = same_bag (ap items_of put-q) refl (items_are hs ms kind a b i h k p d q u.time g);
          log = refl;
        })
