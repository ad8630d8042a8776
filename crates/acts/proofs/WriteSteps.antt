-- Each way of a write is a step.
use Rattle.std.proofs.Common.{◌≡◌, ℕ, ◌+◌, ◌≤◌, Bool, true, false, cond, not, ◌||◌, ltb, leb, List, ◌++◌, map, length, get_or, set, ℤ, pos, is_some as option_is_some, Some, None, Ok, Err, Option, unwrap_or, sym, refl, ap, ◌∙◌, arith}
use Rattle.std.specs.List.Sorted.{IsPermutation}
use Rattle.std.proofs.lemmas.List.{length-map, take_all}
use Rattle.std.proofs.lemmas.Bool.{cond-true}
use Rattle.logs.specs.Meanings.{Meaning}
use Rattle.protocol.specs.declared.refusal.Refusal.{Refusal}
use Rattle.protocol.specs.declared.refusal.Refusal.TheVariants.{NoRoom, NotActive, ValueUnlawful, WriteUnderWay}
use Rattle.protocol.specs.declared.call.Call.TheVariants.{Write}
use Rattle.protocol.specs.declared.answer.Answer.TheVariants.{Written, Refused}
use Rattle.protocol.specs.Numbers.{last_number}
use Rattle.protocol.specs.Places.{all_but_first}
use Rattle.protocol.specs.Heads.{Head as Told, is_named, is_active, head_named, holds_of, state_by, copy_by, next_stamp, with_copy}
use Rattle.protocol.specs.Items.{Item, write, to_each}
use Rattle.protocol.specs.Look.{look_checks, look_refusal}
use Rattle.protocol.specs.Sites.{Site, State}
use Rattle.protocol.specs.Write.{new_copy, write_mail, write_refusal, write_site}
use Rattle.protocol.specs.Steps.{Step, refused, accepted}
use Rattle.tables.specs.declared.head.Head.{Head}
use Rattle.tables.specs.declared.mail.MailPlace.{MailPlace}
use Rattle.tables.specs.FirstPlaces.{place_of}
use Rattle.tables.specs.HeadPlaces.{head_of, heads_of}
use Rattle.tables.specs.MailPlaces.{item_of, items_of, addressed}
use Rattle.tables.specs.Passes.{names_but}
use Rattle.tables.proofs.Bags.{same_bag}
use Rattle.tables.proofs.Found.{found, rest_found}
use Rattle.tables.proofs.SentItems.{sent_all, each_to_others}
use Rattle.acts.specs.Lent.{lent}
use Rattle.acts.specs.Writing.{Writes}
use Rattle.acts.proofs.Checks.{refused_first, passed_first}
use Rattle.acts.proofs.Named.{named, changed}

is_some : {X : Type 0} (b : Bool) (x : X) → option_is_some (cond b (Some x) None) ≡ b
is_some true x = refl
is_some false x = refl

-- four checks; the last of them may hold because there is no room
module _ (p q r t : Refusal) where
  abbrev checked : Bool → Bool → Bool → Bool → Option Refusal
  checked a b c d = cond a (Some p) (cond b (Some q) (cond c (Some r) (cond d (Some t) None)))

  refused_anyway : (a b c d room : Bool) (why : Refusal) → checked a b c d ≡ Some why → checked a b c (not room || d) ≡ Some why
  refused_anyway true b c d room why e = e
  refused_anyway false true c d room why e = e
  refused_anyway false false true d room why e = e
  refused_anyway false false false true true why e = e
  refused_anyway false false false true false why e = e
  refused_anyway false false false false room why e = let z : ◌≡◌ {A = ℕ} 0 1 = cc in absurd (omega arith)

  passed_but : (a b c d room : Bool) → checked a b c d ≡ None → checked a b c (not room || d) ≡ cond (not room) (Some t) None
  passed_but true b c d room e = let z : ◌≡◌ {A = ℕ} 0 1 = cc in absurd (omega arith)
  passed_but false true c d room e = let z : ◌≡◌ {A = ℕ} 0 1 = cc in absurd (omega arith)
  passed_but false false true d room e = let z : ◌≡◌ {A = ℕ} 0 1 = cc in absurd (omega arith)
  passed_but false false false true room e = let z : ◌≡◌ {A = ℕ} 0 1 = cc in absurd (omega arith)
  passed_but false false false false true e = refl
  passed_but false false false false false e = refl

module _ {V : Type 0} (lawful : V → Bool) (u : Site) (hs : List (Head V)) (ms : List (MailPlace V)) (m : Meaning V) (x : ℕ) (v : V) where
  abbrev s : State V
  s = lent u hs ms m

  pub write_refused : (why : Refusal) → look_refusal s x ≡ Some why → Step lawful s (Write x v) (Refused why) s
  write_refused why e = refused why (refused_first (look_checks s x) _ why e) refl refl

  module _ (none : look_refusal s x ≡ None) (i : ℕ) (at : place_of (λ k. is_named x (head_of k)) hs ≡ Some i) (h : Head V) (r : h ≡ get_or hs i h) where
    head_is : head_named x (heads_of hs) ≡ Some (head_of h)
    head_is = named x hs i at h r

    abbrev room : Bool
    room = option_is_some (write_mail s x v)

    refusal_is : write_refusal lawful s x v ≡ checked NotActive ValueUnlawful WriteUnderWay NoRoom (not (is_active h.state)) (not (lawful v)) (option_is_some u.under_way) (not room || ltb last_number (next_stamp (head_of h).copy))
    refusal_is =
        passed_first (look_checks s x) _ none
        ∙ ap (λ o. checked NotActive ValueUnlawful WriteUnderWay NoRoom (not (holds_of is_active (state_by o))) (not (lawful v)) (option_is_some u.under_way) (not room || ltb last_number (next_stamp (copy_by o)))) head_is

    pub write_not_begun : (why : Refusal) → Writes lawful (option_is_some u.under_way) h v (Err why) → Step lawful s (Write x v) (Refused why) s
    write_not_begun why e =
        refused why
        (refusal_is ∙ refused_anyway NotActive ValueUnlawful WriteUnderWay NoRoom (not (is_active h.state)) (not (lawful v)) (option_is_some u.under_way) (ltb last_number (next_stamp (head_of h).copy)) room why e)
        refl
        refl

    module _ (w : Head V) (wr : Writes lawful (option_is_some u.under_way) h v (Ok w)) (p : MailPlace V) (told : (b : ℕ) → item_of (addressed p b) ≡ Some (write x b u.time (head_of w).copy)) where
      abbrev item : ℕ → Item V
      item b = write x b u.time (Some (new_copy s x v))

      abbrev others : List (Told V)
      others = all_but_first (is_named x) (heads_of hs)

      copied : with_copy (Some (record { stamp = next_stamp (head_of h).copy; value = v })) (head_of h) ≡ with_copy (Some (new_copy s x v)) (head_of h)
      copied = ap (λ o. with_copy (Some (record { stamp = next_stamp (copy_by o); value = v })) (head_of h)) (sym head_is)

      told_item : (b : ℕ) → item_of (addressed p b) ≡ Some (item b)
      told_item b = told b ∙ ap (λ k. Some (write x b u.time k.copy)) (wr.1.head ∙ copied)

      sent_are : items_of (map (addressed p) (names_but i hs)) ≡ to_each item others
      sent_are = each_to_others p item told_item i hs ∙ ap (to_each item) (sym (rest_found head_of (is_named x) (found (λ k. is_named x (head_of k)) hs i at)))

      as_many : length (to_each item others) ≡ length (names_but i hs)
      as_many =
          let n = length (names_but i hs) in
          let l : n ≤ n = omega arith in
          ap length (sym sent_are ∙ ap (λ bs. items_of (map (addressed p) bs)) (sym (take_all n (names_but i hs) l)) ∙ sent_all p item told_item n (names_but i hs) l)
          ∙ length-map (names_but i hs) item

      room_is : {b : Bool} → b ≡ leb (length (items_of ms) + length (names_but i hs)) (length ms) → leb (length (items_of ms) + length (to_each item others)) (length ms) ≡ b
      room_is e = ap (λ n. leb (length (items_of ms) + n) (length ms)) as_many ∙ sym e

      refusal_by : {b : Bool} → b ≡ leb (length (items_of ms) + length (names_but i hs)) (length ms) → write_refusal lawful s x v ≡ cond (not b) (Some NoRoom) None
      refusal_by {b} e =
          refusal_is
          ∙ passed_but NotActive ValueUnlawful WriteUnderWay NoRoom (not (is_active h.state)) (not (lawful v)) (option_is_some u.under_way) (ltb last_number (next_stamp (head_of h).copy)) room wr.0
          ∙ ap (λ c. cond (not c) (Some NoRoom) None) (is_some (leb (length (items_of ms) + length (to_each item others)) (length ms)) (items_of ms ++ to_each item others) ∙ room_is e)

      pub write_full : false ≡ leb (length (items_of ms) + length (names_but i hs)) (length ms) → (ns : List (MailPlace V)) → ns ≡ ms → Step lawful s (Write x v) (Refused NoRoom) (lent u hs ns m)
      write_full e ns left = refused NoRoom (refusal_by e) refl (ap (λ qs. lent u hs qs m) left)

      pub write_begun : true ≡ leb (length (items_of ms) + length (names_but i hs)) (length ms) → (ns : List (MailPlace V)) → IsPermutation (items_of ns) (items_of ms ++ items_of (map (addressed p) (names_but i hs))) → length ns ≡ length ms → (ks : List (Head V)) → ks ≡ set hs i w → (t : Site) → t ≡ write_site u x → (z : ℤ) → z ≡ w.copy.stamp → Step lawful s (Write x v) (Written z) (lent t ks ns m)
      write_begun e ns sent long ks put t after z stamp =
          accepted 0 (refusal_by e) (ap Written (stamp ∙ wr.1.stamp ∙ ap (λ o. pos (next_stamp (copy_by o))) (sym head_is)))
          (record {
            site = after;
            heads = ap heads_of put ∙ changed x hs i at h r (with_copy (Some (new_copy s x v))) w (wr.1.head ∙ copied);
            places = long;
            items =
                same_bag refl
                (ap (λ o. unwrap_or o (items_of ms)) (cond-true (leb (length (items_of ms) + length (to_each item others)) (length ms)) (Some (items_of ms ++ to_each item others)) None (room_is e))
                ∙ ap (λ is. items_of ms ++ is) (sym sent_are))
                sent;
            log = refl;
          })
