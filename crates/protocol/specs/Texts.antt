-- How calls and answers are told.
use Rattle.std.specs.Prelude.{ℕ, List, [], ◌++◌, Some, codes, decimal, Option}
use Rattle.std.specs.Fmt.{signed_decimal}
use Rattle.std.specs.Option.{option_map}
use Rattle.protocol.specs.declared.kind.MailKind.{MailKind}
use Rattle.protocol.specs.declared.kind.MailKind.TheVariants.{Write as WRITE, Inquiry as INQUIRY, Reply as REPLY}
use Rattle.protocol.specs.declared.call.Call.{Call}
use Rattle.protocol.specs.declared.call.Call.TheVariants.{Swap, Read, Write, Bring, Tick, Look}
use Rattle.protocol.specs.declared.answer.Answer.{Answer}
use Rattle.protocol.specs.declared.answer.Answer.TheVariants.{Swapped, Value, Written, Brought, Ticked, Seen, Refused}
use Rattle.protocol.specs.Numbers.{refusal_number, state_number}

abbrev pub kind_text : MailKind → List ℕ
kind_text WRITE = codes "write"
kind_text INQUIRY = codes "inquiry"
kind_text REPLY = codes "reply"

-- the call with its names and the text of its value
abbrev pub call_text : {V : Type 0} → (V → List ℕ) → Call V → List ℕ
call_text text (Swap x) = codes "swap " ++ decimal x
call_text text (Read x) = codes "read " ++ decimal x
call_text text (Write x v) = codes "write " ++ (decimal x ++ (codes " " ++ text v))
call_text text (Bring k a b) = codes "bring-" ++ (kind_text k ++ (codes " " ++ (decimal a ++ (codes " " ++ decimal b))))
call_text text Tick = codes "tick"
call_text text (Look x) = codes "look " ++ decimal x

-- `=` and the answer, or `!` and the number of the refusal
abbrev pub answer_text : {V : Type 0} → (V → List ℕ) → Answer V → List ℕ
answer_text text (Swapped x) = codes "= " ++ decimal x
answer_text text (Value s v) = codes "= " ++ (signed_decimal s ++ (codes " " ++ text v))
answer_text text (Written s) = codes "= " ++ signed_decimal s
answer_text text Brought = codes "= ok"
answer_text text (Ticked t k) = codes "= " ++ (decimal t ++ (codes " " ++ decimal k))
answer_text text (Seen k s) = codes "= " ++ (decimal (state_number k) ++ (codes " " ++ signed_decimal s))
answer_text text (Refused why) = codes "! " ++ decimal (refusal_number why)

-- what the value in the call prints, and nothing where the call has none
abbrev pub call_value_output : {V : Type 0} → (V → Option (List ℕ)) → Call V → Option (List ℕ)
call_value_output output (Write x v) = output v
call_value_output output (Swap x) = Some []
call_value_output output (Read x) = Some []
call_value_output output (Bring k a b) = Some []
call_value_output output Tick = Some []
call_value_output output (Look x) = Some []

-- what a call prints, by what its value prints
abbrev pub call_output : {V : Type 0} → (V → Option (List ℕ)) → Call V → Option (List ℕ)
call_output output c = option_map (λ t. call_text (λ v. t) c) (call_value_output output c)

-- what the value in the answer prints, and nothing where the answer has none
abbrev pub answer_value_output : {V : Type 0} → (V → Option (List ℕ)) → Answer V → Option (List ℕ)
answer_value_output output (Value s v) = output v
answer_value_output output (Swapped x) = Some []
answer_value_output output (Written s) = Some []
answer_value_output output Brought = Some []
answer_value_output output (Ticked t k) = Some []
answer_value_output output (Seen k s) = Some []
answer_value_output output (Refused why) = Some []

-- what an answer prints, by what its value prints
abbrev pub answer_output : {V : Type 0} → (V → Option (List ℕ)) → Answer V → Option (List ℕ)
answer_output output a = option_map (λ t. answer_text (λ v. t) a) (answer_value_output output a)
