-- What a site is made with, and whether it can be.
use Rattle.std.specs.Prelude.{ℕ}
use Rattle.logs.specs.Meanings.{Meaning}
use Rattle.protocol.specs.Make.{Setup}

abbrev pub setup_of : {V : Type 0} → ℕ → ℕ → ℕ → ℕ → V → Meaning V → Setup V
setup_of size places delay swap_limit start log = record { size = size; places = places; delay = delay; swap_limit = swap_limit; start = start; log = log }
