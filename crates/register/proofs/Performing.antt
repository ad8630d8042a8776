-- What a call owes to the run.
use Rattle.std.proofs.Common.{◌≡◌, Bool, sym, subst}
use Rattle.protocol.specs.declared.call.Call.{Call}
use Rattle.protocol.specs.declared.answer.Answer.{Answer}
use Rattle.protocol.specs.Sites.{State}
use Rattle.protocol.specs.Steps.{Step}

-- the step of a call is that of the call that was asked
pub as_asked : {V : Type 0} {lawful : V → Bool} {s t : State V} {call c : Call V} {a : Answer V} → call ≡ c → Step lawful s c a t → Step lawful s call a t
as_asked {lawful} {s} {t} {a} p step = subst (λ d. Step lawful s d a t) (sym p) step
