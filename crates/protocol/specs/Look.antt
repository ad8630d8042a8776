-- Look: a head's state and stamp.
use Rattle.std.specs.Prelude.{ℕ, Bool, not, List, [], ◌∷◌, None, Option}
use Rattle.protocol.specs.declared.refusal.Refusal.{Refusal}
use Rattle.protocol.specs.declared.refusal.Refusal.TheVariants.{ForeignTables, NoSuchHead}
use Rattle.protocol.specs.Heads.{present}
use Rattle.protocol.specs.Sites.{State, foreign, refused_by}

abbrev pub look_checks : {V : Type 0} → State V → ℕ → List (Bool × Refusal)
look_checks s x =
    (foreign s, ForeignTables)
    ∷ ((not (present x s.heads), NoSuchHead)
    ∷ [])

abbrev pub look_refusal : {V : Type 0} → State V → ℕ → Option Refusal
look_refusal s x = refused_by (look_checks s x) None
