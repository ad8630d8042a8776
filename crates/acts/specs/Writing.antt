-- What a write makes of the head that writes.
use Rattle.std.specs.Prelude.{◌≡◌, Bool, not, List, [], ◌∷◌, pos, Some, None, Ok, Err, Result, nat_lt}
use Rattle.protocol.specs.declared.refusal.Refusal.{Refusal}
use Rattle.protocol.specs.declared.refusal.Refusal.TheVariants.{NoRoom, NotActive, ValueUnlawful, WriteUnderWay}
use Rattle.protocol.specs.Numbers.{last_number}
use Rattle.protocol.specs.Heads.{Head as Told, is_active, next_stamp, with_copy}
use Rattle.protocol.specs.Sites.{refused_by}
use Rattle.tables.specs.declared.head.Head.{Head}
use Rattle.tables.specs.HeadPlaces.{head_of}

-- 12, 16, 17, and the stamp's part of 7
abbrev pub writer_checks : {V : Type 0} → (V → Bool) → Bool → Told V → V → List (Bool × Refusal)
writer_checks lawful busy h v =
    (not (is_active h.state), NotActive)
    ∷ ((not (lawful v), ValueUnlawful)
    ∷ ((busy, WriteUnderWay)
    ∷ ((nat_lt last_number (next_stamp h.copy), NoRoom)
    ∷ [])))

-- w is h with the value and the stamp after its own
pub record Written {V : Type 0} (h : Head V) (v : V) (w : Head V) : Type 0 where
  pub stamp : w.copy.stamp ≡ pos (next_stamp (head_of h).copy)
  pub head : head_of w ≡ with_copy (Some (record { stamp = next_stamp (head_of h).copy; value = v })) (head_of h)

abbrev pub Writes : {V : Type 0} → (V → Bool) → Bool → Head V → V → Result (Head V) Refusal → Type 0
Writes lawful busy h v (Ok w) = (refused_by (writer_checks lawful busy (head_of h) v) None ≡ None) × Written h v w
Writes lawful busy h v (Err why) = refused_by (writer_checks lawful busy (head_of h) v) None ≡ Some why
