-- The checks of a swap that ask the site's own record.
use Rattle.std.specs.Prelude.{ℕ, Bool, List, [], ◌∷◌, nat_le, nat_lt}
use Rattle.protocol.specs.declared.refusal.Refusal.{Refusal}
use Rattle.protocol.specs.declared.refusal.Refusal.TheVariants.{WritingHead, SwapLimit, NamesUsedUp}
use Rattle.protocol.specs.Numbers.{last_number}
use Rattle.protocol.specs.Sites.{Site}
use Rattle.protocol.specs.Swap.{writing}

-- 15, 13 and 14
abbrev pub limit_checks : Site → ℕ → List (Bool × Refusal)
limit_checks t x =
    (writing x t, WritingHead)
    ∷ ((nat_le t.swap_limit t.swaps, SwapLimit)
    ∷ ((nat_lt last_number t.next_name, NamesUsedUp)
    ∷ []))
