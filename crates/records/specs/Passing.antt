-- Whether a call is refused.
use Rattle.std.specs.Prelude.{◌≡◌, Some, None, Ok, Err, Option, Result}
use Rattle.protocol.specs.declared.refusal.Refusal.{Refusal}

-- nothing is refused, or why
abbrev pub Passes : Option Refusal → Result (Unit {0}) Refusal → Type 0
Passes o (Ok u) = o ≡ None
Passes o (Err why) = o ≡ Some why
