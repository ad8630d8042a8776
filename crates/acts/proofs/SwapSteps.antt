-- Each way of a swap is a step.
use Rattle.std.proofs.Common.{◌≡◌, ℕ, Bool, List, map, length, set, Some, None, sym, refl, ap, ◌∙◌}
use Rattle.std.proofs.lemmas.Simd.{map-map}
use Rattle.std.proofs.lemmas.List.{map-set}
use Rattle.std.proofs.lemmas.List.Sorted.{IsPermutation-refl}
use Rattle.logs.specs.Meanings.{Meaning}
use Rattle.protocol.specs.declared.refusal.Refusal.{Refusal}
use Rattle.protocol.specs.declared.call.Call.TheVariants.{Swap}
use Rattle.protocol.specs.declared.answer.Answer.TheVariants.{Swapped, Refused}
use Rattle.protocol.specs.Places.{change_first}
use Rattle.protocol.specs.Heads.{is_named, forgetting}
use Rattle.protocol.specs.Items.{goes_with, dropping}
use Rattle.protocol.specs.Look.{look_checks, look_refusal}
use Rattle.protocol.specs.Sites.{Site, State, refused_by}
use Rattle.protocol.specs.Steps.{Step, refused, accepted}
use Rattle.protocol.specs.Swap.{swap_site, newcomer}
use Rattle.tables.specs.declared.head.Head.{Head}
use Rattle.tables.specs.declared.mail.MailPlace.{MailPlace}
use Rattle.tables.specs.FirstPlaces.{place_of}
use Rattle.tables.specs.HeadPlaces.{head_of, heads_of}
use Rattle.tables.specs.MailPlaces.{items_of}
use Rattle.tables.proofs.Found.{found, change_found}
use Rattle.acts.specs.Lent.{lent}
use Rattle.acts.specs.Swapping.{limit_checks}
use Rattle.acts.proofs.Checks.{refused_first, passed_first}

module _ {V : Type 0} (x i : ℕ) (hs ys : List (Head V)) (k : Head V) (tick name free : ℕ) where
  swapped_heads : place_of (λ h. is_named x (head_of h)) hs ≡ Some i → heads_of ys ≡ map (forgetting x) (heads_of hs) → head_of k ≡ newcomer name tick free → heads_of (set ys i k) ≡ change_first (is_named x) (λ _. newcomer name tick free) (map (forgetting x) (heads_of hs))
  swapped_heads e f n =
      let told = λ (h : Head V). forgetting x (head_of h) in
      let new = newcomer name tick free in
      let a : map (forgetting x) (heads_of hs) ≡ map told hs = map-map (forgetting x) head_of hs in
      let same : told k ≡ new = ap (forgetting x) n in
      map-set head_of ys i k
      ∙ ap (λ l. set l i (head_of k)) (f ∙ a)
      ∙ ap (set (map told hs) i) (n ∙ sym same)
      ∙ sym (map-set told hs i k)
      ∙ sym (change_found told (is_named x) (found (λ h. is_named x (head_of h)) hs i e) (λ _. new) k k same)
      ∙ ap (change_first (is_named x) (λ _. new)) (sym a)

module _ {V : Type 0} (lawful : V → Bool) (u : Site) (hs : List (Head V)) (ms : List (MailPlace V)) (m : Meaning V) (x : ℕ) where
  abbrev s : State V
  s = lent u hs ms m

  pub swap_refused : (why : Refusal) → look_refusal s x ≡ Some why → Step lawful s (Swap x) (Refused why) s
  swap_refused why e = refused why (refused_first (look_checks s x) _ why e) refl refl

  module _ (none : look_refusal s x ≡ None) where
    pub swap_limited : (why : Refusal) → refused_by (limit_checks u x) None ≡ Some why → Step lawful s (Swap x) (Refused why) s
    swap_limited why e = refused why (passed_first (look_checks s x) _ none ∙ e) refl refl

    pub swap_made : (t : Site) (ys zs : List (Head V)) (ns : List (MailPlace V)) (i : ℕ) (k : Head V) (free : ℕ) → refused_by (limit_checks u x) None ≡ None → zs ≡ set ys i k → place_of (λ h. is_named x (head_of h)) hs ≡ Some i → heads_of ys ≡ map (forgetting x) (heads_of hs) → head_of k ≡ newcomer u.next_name u.time free → items_of ns ≡ dropping (goes_with x) (items_of ms) → length ns ≡ length ms → t ≡ swap_site u → Step lawful s (Swap x) (Swapped u.next_name) (lent t zs ns m)
    swap_made t ys zs ns i k free l put e f n d len w =
        accepted free (passed_first (look_checks s x) _ none ∙ l) refl
        (record {
          site = w;
          heads = ap heads_of put ∙ swapped_heads x i hs ys k u.time u.next_name free e f n;
          places = len;
          items = rw d (IsPermutation-refl (dropping (goes_with x) (items_of ms)));
          log = refl;
        })
