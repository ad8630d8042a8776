-- What an answer holds.
use Rattle.std.specs.Prelude.{ℕ, ℤ, Some, None, Option}
use Rattle.protocol.specs.declared.refusal.Refusal.{Refusal}
use Rattle.protocol.specs.declared.answer.Answer.{Answer}
use Rattle.protocol.specs.declared.answer.Answer.TheVariants.{Swapped, Value, Written, Brought, Ticked, Seen, Refused}

-- why the call was refused, if it was
abbrev pub refusal_told : {V : Type 0} → Answer V → Option Refusal
refusal_told (Swapped y) = None
refusal_told (Value z v) = None
refusal_told (Written z) = None
refusal_told Brought = None
refusal_told (Ticked t n) = None
refusal_told (Seen q z) = None
refusal_told (Refused why) = Some why

-- the new name that a swap answered
abbrev pub new_name : {V : Type 0} → Answer V → Option ℕ
new_name (Swapped y) = Some y
new_name (Value z v) = None
new_name (Written z) = None
new_name Brought = None
new_name (Ticked t n) = None
new_name (Seen q z) = None
new_name (Refused why) = None

-- the stamp and the value that a read answered
abbrev pub value_read : {V : Type 0} → Answer V → Option (ℤ × V)
value_read (Swapped y) = None
value_read (Value z v) = Some (z, v)
value_read (Written z) = None
value_read Brought = None
value_read (Ticked t n) = None
value_read (Seen q z) = None
value_read (Refused why) = None
