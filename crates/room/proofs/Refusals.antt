-- The first check that holds.
use Rattle.std.proofs.Common.{◌≡◌, ℕ, ◌+◌, ◌<◌, ◌≤◌, Bool, true, false, cond, not, leb, List, [], ◌∷◌, length, is_some, Some, None, Option, Result, sym, refl, ap, ◌∙◌, subst}
use Rattle.std.proofs.lemmas.Bool.{lt-ltb, le-ltb, le-leb, lt-leb}
use Rattle.protocol.specs.declared.refusal.Refusal.{Refusal}
use Rattle.protocol.specs.declared.refusal.Refusal.TheVariants.{ForeignTables, LastTick, MailDue, NoRoom}
use Rattle.protocol.specs.Numbers.{last_tick}
use Rattle.protocol.specs.Places.{first}
use Rattle.protocol.specs.Heads.{holds_of}
use Rattle.protocol.specs.Items.{Item, is_due}
use Rattle.protocol.specs.Sites.{refused_by}
use Rattle.records.specs.Passing.{Passes}
use Rattle.tables.specs.declared.head.Head.{Head}
use Rattle.tables.specs.declared.mail.MailPlace.{MailPlace}
use Rattle.tables.specs.FirstPlaces.{place_from}
use Rattle.tables.specs.MailPlaces.{item_of, items_of, with_item}
use Rattle.room.specs.Checks.{mail_due, finds_room, checks}
use Rattle.room.specs.Counting.{place_due}

-- a place holds an item that passes where an item passes
placed_some : {V : Type 0} (t : Item V → Bool) (ps : List (MailPlace V)) (i : ℕ) → is_some (place_from (λ p. holds_of t (item_of p)) i ps) ≡ is_some (first t (items_of ps))
placed_some {V} t [] i = refl
placed_some {V} t (p ∷ ps) i = go (item_of p) (placed_some t ps (i + 1))
  where
    pick : (b : Bool) (x : Item V) → is_some (place_from (λ p. holds_of t (item_of p)) (i + 1) ps) ≡ is_some (first t (items_of ps)) → is_some (cond b (Some i) (place_from (λ p. holds_of t (item_of p)) (i + 1) ps)) ≡ is_some (cond b (Some x) (first t (items_of ps)))
    pick true x r = refl
    pick false x r = r

    go : (o : Option (Item V)) → is_some (place_from (λ p. holds_of t (item_of p)) (i + 1) ps) ≡ is_some (first t (items_of ps)) → is_some (cond (holds_of t o) (Some i) (place_from (λ p. holds_of t (item_of p)) (i + 1) ps)) ≡ is_some (first t (with_item o (items_of ps)))
    go None r = r
    go (Some x) r = pick (t x) x r

abbrev answer : Bool → Bool → Bool → Bool → Option Refusal
answer a b c d = cond a (Some ForeignTables) (cond b (Some LastTick) (cond c (Some MailDue) (cond (not d) (Some NoRoom) None)))

module _ {V : Type 0} (hs : List (Head V)) (ms : List (MailPlace V)) (delay time : ℕ) where
  pub too_many : 64 < length hs → refused_by (checks hs ms delay time) None ≡ Some ForeignTables
  too_many l = ap (λ a. answer a (leb last_tick time) (mail_due ms delay time) (finds_room hs ms delay time)) (lt-ltb 64 (length hs) l)

  module _ (few : length hs ≤ 64) where
    by_time : (b : Bool) → leb last_tick time ≡ b → refused_by (checks hs ms delay time) None ≡ answer false b (mail_due ms delay time) (finds_room hs ms delay time)
    by_time b e =
        ap (λ a. answer a (leb last_tick time) (mail_due ms delay time) (finds_room hs ms delay time)) (le-ltb 64 (length hs) few)
        ∙ ap (λ b. answer false b (mail_due ms delay time) (finds_room hs ms delay time)) e

    pub at_last : 268435454 ≤ time → refused_by (checks hs ms delay time) None ≡ Some LastTick
    at_last l = by_time true (le-leb 268435454 time l)

    module _ (more : time < 268435454) where
      by_place : (o : Option ℕ) → place_due delay time ms ≡ o → refused_by (checks hs ms delay time) None ≡ answer false false (is_some o) (finds_room hs ms delay time)
      by_place o e =
          by_time false (lt-leb 268435454 time more)
          ∙ ap (λ c. answer false false c (finds_room hs ms delay time)) (sym (placed_some (is_due delay time) ms 0) ∙ ap is_some e)

      pub overdue : (i : ℕ) → place_due delay time ms ≡ Some i → refused_by (checks hs ms delay time) None ≡ Some MailDue
      overdue i e = by_place (Some i) e

      module _ (none : place_due delay time ms ≡ None) where
        by_turns : (b : Bool) → cond b None (Some NoRoom) ≡ cond (not b) (Some NoRoom) None
        by_turns true = refl
        by_turns false = refl

        pub foretold : (r : Result (Unit {0}) Refusal) → Passes (cond (finds_room hs ms delay time) None (Some NoRoom)) r → Passes (refused_by (checks hs ms delay time) None) r
        foretold r p = subst (λ o. Passes o r) (by_turns (finds_room hs ms delay time) ∙ sym (by_place None none)) p
