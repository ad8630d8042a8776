-- Runs: a site is made, and then any calls come, mixed, repeated or refused.
use Rattle.std.specs.Prelude.{Bool, [], ◌∷◌}
use Rattle.protocol.specs.declared.call.Call.{Call}
use Rattle.protocol.specs.declared.answer.Answer.{Answer}
use Rattle.protocol.specs.Sites.{State}
use Rattle.protocol.specs.Make.{Setup, Made}
use Rattle.protocol.specs.Steps.{Step}
use Rattle.law.specs.Tallies.{History}

-- a run of the site made with m, by these calls with these answers, can leave this state, for some choice of what is free
pub data Reached {V : Type 0} (lawful : V → Bool) (m : Setup V) : History V → State V → Type 0 where
  made : {s : State V} → Made m s → Reached lawful m [] s
  then : {es : History V} {s t : State V} {c : Call V} {a : Answer V} → Reached lawful m es s → Step lawful s c a t → Reached lawful m (record { call = c; answer = a } ∷ es) t
