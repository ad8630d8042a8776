-- The lines that are printed of a site's calls.
use Rattle.std.specs.Prelude.{List, ℕ, ◌++◌, codes, decimal, Ok, Err, Result}
use Rattle.plans.specs.declared.Plan.{Plan}
use Rattle.plans.specs.Plans.{plan_text}
use Rattle.protocol.specs.declared.call.Call.{Call}
use Rattle.protocol.specs.declared.answer.Answer.{Answer}
use Rattle.protocol.specs.declared.refusal.Refusal.{Refusal}
use Rattle.protocol.specs.Numbers.{refusal_number}
use Rattle.protocol.specs.Texts.{call_text, answer_text}

abbrev pub line_text : Call Plan → Answer Plan → List ℕ
line_text c a = call_text plan_text c ++ (codes " " ++ answer_text plan_text a)

abbrev pub make_text : {S : Type 0} → Result S Refusal → List ℕ
make_text (Ok s) = codes "make = ok"
make_text (Err why) = codes "make ! " ++ decimal (refusal_number why)
