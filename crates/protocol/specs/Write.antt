-- Write: an active head takes a new value and sends it to every other head.
use Rattle.std.specs.Prelude.{ℕ, Bool, not, ◌||◌, List, [], ◌∷◌, is_some, Some, None, Option, nat_lt}
use Rattle.std.specs.Option.{unwrap_or}
use Rattle.protocol.specs.declared.refusal.Refusal.{Refusal}
use Rattle.protocol.specs.declared.refusal.Refusal.TheVariants.{ForeignTables, NoRoom, NoSuchHead, NotActive, ValueUnlawful, WriteUnderWay}
use Rattle.protocol.specs.Numbers.{last_number}
use Rattle.protocol.specs.Places.{all_but_first, change_first}
use Rattle.protocol.specs.Heads.{Copy, is_named, present, active_named, copy_named, next_stamp, with_copy}
use Rattle.protocol.specs.Items.{Item, write, put, to_each}
use Rattle.protocol.specs.Sites.{Site, State, foreign, refused_by}

-- the value with a stamp one higher than the head's own
abbrev pub new_copy : {V : Type 0} → State V → ℕ → V → Copy V
new_copy s x v = record { stamp = next_stamp (copy_named x s.heads); value = v }

-- the mail with a WRITE to every other head
abbrev pub write_mail : {V : Type 0} → State V → ℕ → V → Option (List (Item V))
write_mail s x v = put s.places s.items (to_each (λ b. write x b s.site.time (Some (new_copy s x v))) (all_but_first (is_named x) s.heads))

abbrev pub write_checks : {V : Type 0} → (V → Bool) → State V → ℕ → V → List (Bool × Refusal)
write_checks lawful s x v =
    (foreign s, ForeignTables)
    ∷ ((not (present x s.heads), NoSuchHead)
    ∷ ((not (active_named x s.heads), NotActive)
    ∷ ((not (lawful v), ValueUnlawful)
    ∷ ((is_some s.site.under_way, WriteUnderWay)
    ∷ ((not (is_some (write_mail s x v)) || nat_lt last_number (new_copy s x v).stamp, NoRoom)
    ∷ [])))))

abbrev pub write_refusal : {V : Type 0} → (V → Bool) → State V → ℕ → V → Option Refusal
write_refusal lawful s x v = refused_by (write_checks lawful s x v) None

abbrev pub write_site : Site → ℕ → Site
write_site t x = record { size = t.size; delay = t.delay; swap_limit = t.swap_limit; time = t.time; swaps = t.swaps; next_name = t.next_name; under_way = Some (record { writer = x; begin = t.time }) }

abbrev pub write_leaves : {V : Type 0} → State V → ℕ → V → State V
write_leaves s x v =
    record {
      site = write_site s.site x;
      heads = change_first (is_named x) (with_copy (Some (new_copy s x v))) s.heads;
      places = s.places;
      items = unwrap_or (write_mail s x v) s.items;
      log = s.log;
    }
