-- Bring: an item reaches its receiver.
use Rattle.std.specs.Prelude.{ℕ, Bool, cond, not, ◌&&◌, ◌||◌, List, [], ◌∷◌, ◌++◌, length, is_some, Some, None, Option, nat_le}
use Rattle.protocol.specs.declared.kind.MailKind.{MailKind}
use Rattle.protocol.specs.declared.refusal.Refusal.{Refusal}
use Rattle.protocol.specs.declared.refusal.Refusal.TheVariants.{ForeignTables, NoRoom, NoSuchItem}
use Rattle.protocol.specs.Places.{first, all_but_first, change_first}
use Rattle.protocol.specs.Heads.{Head, is_named, head_named, present, is_active, newer, with_copy, with_best, holds, holding, holds_of}
use Rattle.protocol.specs.Items.{Item, write, inquiry, reply, is_inquiry, is_told}
use Rattle.protocol.specs.Sites.{State, foreign, refused_by}

-- the head would hold a 65th name
abbrev pub holds_too_many : {V : Type 0} → ℕ → Head V → Bool
holds_too_many x h = not (is_active h.state) && (not (holds x h) && nat_le 64 (length h.held))

abbrev pub bring_checks : {V : Type 0} → State V → MailKind → ℕ → ℕ → List (Bool × Refusal)
bring_checks s kind a b =
    (foreign s, ForeignTables)
    ∷ ((not (is_some (first (is_told kind a b) s.items)) || not (present b s.heads), NoSuchItem)
    ∷ ((is_inquiry kind && holds_of (holds_too_many a) (head_named b s.heads), NoRoom)
    ∷ []))

abbrev pub bring_refusal : {V : Type 0} → State V → MailKind → ℕ → ℕ → Option Refusal
bring_refusal s kind a b = refused_by (bring_checks s kind a b) None

-- what the item does to the head that receives it
abbrev pub received : {V : Type 0} → Item V → Head V → Head V
received (write a b t c) h = with_copy (newer h.copy c) h
received (inquiry a b t) h = cond (is_active h.state) h (holding a h)
received (reply a b t c) h = with_best (newer h.best c) h

-- what the head that receives it sends: an active head replies to an INQUIRY with its copy
abbrev pub answered : {V : Type 0} → ℕ → Head V → Item V → List (Item V)
answered time h (write a b t c) = []
answered time h (inquiry a b t) = cond (is_active h.state) (reply h.name a time h.copy ∷ []) []
answered time h (reply a b t c) = []

abbrev pub bring_heads : {V : Type 0} → ℕ → Option (Item V) → List (Head V) → List (Head V)
bring_heads b None heads = heads
bring_heads b (Some i) heads = change_first (is_named b) (received i) heads

abbrev pub bring_answers : {V : Type 0} → ℕ → Option (Head V) → Option (Item V) → List (Item V)
bring_answers time None i = []
bring_answers time (Some h) None = []
bring_answers time (Some h) (Some i) = answered time h i

-- the item goes out of the mail, and then the answer in
abbrev pub bring_leaves : {V : Type 0} → State V → MailKind → ℕ → ℕ → State V
bring_leaves s kind a b =
    record {
      site = s.site;
      heads = bring_heads b (first (is_told kind a b) s.items) s.heads;
      places = s.places;
      items = all_but_first (is_told kind a b) s.items ++ bring_answers s.site.time (head_named b s.heads) (first (is_told kind a b) s.items);
      log = s.log;
    }
