-- The sample shift is a run, call by call.
use Rattle.std.proofs.Common.{◌≡◌, [], ◌∷◌, Some, None, refl}
use Rattle.std.proofs.lemmas.List.Sorted.{IsPermutation-refl}
use Rattle.plans.specs.Plans.{plan_lawful}
use Rattle.plans.specs.declared.Plan.{Plan}
use Rattle.protocol.specs.declared.kind.MailKind.TheVariants.{Write as WRITE, Inquiry as INQUIRY, Reply as REPLY}
use Rattle.protocol.specs.declared.refusal.Refusal.{Refusal}
use Rattle.protocol.specs.declared.refusal.Refusal.TheVariants.{NotActive, WritingHead, MailDue}
use Rattle.protocol.specs.declared.call.Call.{Call}
use Rattle.protocol.specs.declared.call.Call.TheVariants.{Swap, Read, Write, Bring, Tick}
use Rattle.protocol.specs.declared.answer.Answer.TheVariants.{Refused}
use Rattle.protocol.specs.Sites.{State}
use Rattle.protocol.specs.Make.{Lacking}
use Rattle.protocol.specs.Steps.{refusal, answer, leaves, accepted, refused}
use Rattle.law.specs.Tallies.{History}
use Rattle.law.specs.Runs.{Reached, made, then}
use Rattle.law.specs.Samples.{plan, plan_site, event, SampleRun}

abbrev Run : History Plan → State Plan → Type 0
Run es s = Reached plan_lawful (plan_site 4 1 1) es s

-- an accepted call, with 0 for what is free and each item where it was
ok : {es : History Plan} {s : State Plan} (c : Call Plan) → Run es s → refusal plan_lawful s c ≡ None → Run (event c (answer s c) ∷ es) (leaves s 0 c)
ok {s = s} c r e = then r (accepted 0 e refl (record { site = refl; heads = refl; places = refl; items = IsPermutation-refl (leaves s 0 c).items; log = refl }))

no : {es : History Plan} {s : State Plan} (c : Call Plan) (why : Refusal) → Run es s → refusal plan_lawful s c ≡ Some why → Run (event c (Refused why) ∷ es) s
no c why r e = then r (refused why e refl refl)

abbrev blank : Lacking
blank = record { swap_tick = 0; inquiry_tick = 0 }

pub sample_run : SampleRun
sample_run = (
  refl,
  (
    _,
    (ok (Read 5)
        (ok (Tick)
        (ok (Tick)
        (ok (Bring REPLY 4 5)
        (ok (Bring REPLY 3 5)
        (ok (Bring REPLY 1 5)
        (ok (Bring INQUIRY 5 4)
        (ok (Bring INQUIRY 5 3)
        (ok (Bring INQUIRY 5 1)
        (no (Read 5) NotActive
        (ok (Tick)
        (ok (Bring WRITE 1 4)
        (ok (Bring WRITE 1 3)
        (ok (Read 3)
        (no (Tick) MailDue
        (ok (Swap 2)
        (no (Swap 1) WritingHead
        (ok (Write 1 (plan 100 20 50))
        (made (record { free = blank ∷ (blank ∷ (blank ∷ (blank ∷ []))); all = refl; left = refl })) refl) refl) refl) refl) refl) refl) refl) refl) refl) refl) refl) refl) refl) refl) refl) refl) refl) refl),
  ),
)
