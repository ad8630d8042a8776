-- What a stamp with its value tells: a copy, or nothing.
use Rattle.std.specs.Prelude.{ℤ, pos, negsuc, Some, None, Option}
use Rattle.protocol.specs.Heads.{Copy}
use Rattle.records.specs.declared.copied.Copied.{Copied}

-- a copy is there where the stamp is not negative
abbrev pub copy_of : {V : Type 0} → ℤ → V → Option (Copy V)
copy_of (pos n) v = Some (record { stamp = n; value = v })
copy_of (negsuc n) v = None

abbrev pub copied : {V : Type 0} → Copied V → Option (Copy V)
copied c = copy_of c.stamp c.value
