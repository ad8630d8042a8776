-- Sites and a run with plans, written out.
use Rattle.std.specs.Prelude.{◌≡◌, ℕ, ◌*◌, List, [], ◌∷◌, reverse, pos, Some, None, Option}
use Rattle.std.specs.Option.{option_map}
use Rattle.plans.specs.Plans.{plan_lawful}
use Rattle.plans.specs.declared.Plan.{Plan}
use Rattle.protocol.specs.declared.kind.MailKind.TheVariants.{Write as WRITE, Inquiry as INQUIRY, Reply as REPLY}
use Rattle.protocol.specs.declared.refusal.Refusal.TheVariants.{NotActive, WritingHead, MailDue}
use Rattle.protocol.specs.declared.call.Call.{Call}
use Rattle.protocol.specs.declared.call.Call.TheVariants.{Swap, Read, Write, Bring, Tick}
use Rattle.protocol.specs.declared.answer.Answer.{Answer}
use Rattle.protocol.specs.declared.answer.Answer.TheVariants.{Swapped, Value, Written, Brought, Ticked, Refused}
use Rattle.protocol.specs.Numbers.{refusal_number}
use Rattle.protocol.specs.Sites.{State}
use Rattle.protocol.specs.Make.{Setup, make_refusal}
use Rattle.law.specs.Tallies.{Event}
use Rattle.law.specs.Runs.{Reached}

abbrev pub plan : ℕ → ℕ → ℕ → Plan
plan c o g = record { cycle = c; offset = o; green = g }

-- n heads, delay limit D and k swaps a tick, with just enough mail places, an empty log that takes 682 entries, and the plan 90 10 40
abbrev pub plan_site : ℕ → ℕ → ℕ → Setup Plan
plan_site n D k = record { size = n; places = n * n; delay = D; swap_limit = k; start = plan 90 10 40; log = record { entries = []; free = 682 } }

-- the number by which make refuses it
abbrev pub make_number : ℕ → ℕ → ℕ → Option ℕ
make_number n D k = option_map refusal_number (make_refusal plan_lawful (plan_site n D k))

-- where the churn limit lies
abbrev pub ChurnLimit : Type 0
ChurnLimit = (make_number 4 1 1 ≡ None) × (make_number 3 1 1 ≡ Some 3) × (make_number 64 16 1 ≡ None) × (make_number 48 16 1 ≡ Some 3) × (make_number 1 17 0 ≡ Some 2)

abbrev pub event : Call Plan → Answer Plan → Event Plan
event c a = record { call = c; answer = a }

-- a shift in its order: a write, a swap, and the newcomer that joins and reads the new plan
abbrev pub sample_calls : List (Event Plan)
sample_calls =
    event (Write 1 (plan 100 20 50)) (Written (pos 1))
    ∷ (event (Swap 1) (Refused WritingHead)
    ∷ (event (Swap 2) (Swapped 5)
    ∷ (event Tick (Refused MailDue)
    ∷ (event (Read 3) (Value (pos 0) (plan 90 10 40))
    ∷ (event (Bring WRITE 1 3) Brought
    ∷ (event (Bring WRITE 1 4) Brought
    ∷ (event Tick (Ticked 1 0)
    ∷ (event (Read 5) (Refused NotActive)
    ∷ (event (Bring INQUIRY 5 1) Brought
    ∷ (event (Bring INQUIRY 5 3) Brought
    ∷ (event (Bring INQUIRY 5 4) Brought
    ∷ (event (Bring REPLY 1 5) Brought
    ∷ (event (Bring REPLY 3 5) Brought
    ∷ (event (Bring REPLY 4 5) Brought
    ∷ (event Tick (Ticked 2 0)
    ∷ (event Tick (Ticked 3 1)
    ∷ (event (Read 5) (Value (pos 1) (plan 100 20 50))
    ∷ [])))))))))))))))))

-- the site is made, and the shift is a run of it
abbrev pub SampleRun : Type 0
SampleRun = (make_number 4 1 1 ≡ None) × ((s : State Plan) × Reached plan_lawful (plan_site 4 1 1) (reverse sample_calls) s)
