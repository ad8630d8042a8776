-- How words tell a site and its calls.
use Rattle.std.specs.Prelude.{ℕ, zero, suc, ◌+◌, Bool, cond, ◌&&◌, List, length, Some, None, Ok, Err, Option, Result, ◌==◌, nat_lt, slice_index}
use Rattle.plans.specs.declared.Plan.{Plan}
use Rattle.protocol.specs.declared.kind.MailKind.{MailKind}
use Rattle.protocol.specs.declared.call.Call.{Call}
use Rattle.protocol.specs.declared.call.Call.TheVariants.{Swap, Read, Write, Bring, Tick, Look}
use Rattle.words.specs.Words.{kind_of, number_of}
use Rattle.script.specs.declared.BadWord.{BadWord}
use Rattle.script.specs.declared.Opening.{Opening}
use Rattle.script.specs.declared.call_kind.CallKind.{CallKind}
use Rattle.script.specs.declared.call_kind.CallKind.TheVariants.{Swap as SWAP, Read as READ, Write as WRITE, Bring as BRING, Tick as TICK}
use Rattle.script.specs.declared.call_kind.NoCall.{NoCall}
use Rattle.script.specs.CallKinds.{call_kind}

-- the number of the word at an index
abbrev pub number_at : List ℕ → ℕ → ℕ
number_at ws i = number_of (slice_index ws i)

-- there is a word at the index, and it has this kind
abbrev pub has_kind : List ℕ → ℕ → ℕ → Bool
has_kind ws kind i = nat_lt i (length ws) && kind_of (slice_index ws i) == kind

-- the first of n words from the index i on that is missing or has another kind
abbrev pub bad_from : List ℕ → ℕ → ℕ → ℕ → Option ℕ
bad_from ws kind i zero = None
bad_from ws kind i (suc n) = cond (has_kind ws kind i) (bad_from ws kind (i + 1) n) (Some i)

-- the plan in three words
abbrev pub plan_at : List ℕ → ℕ → Plan
plan_at ws i = record { cycle = number_at ws i; offset = number_at ws (i + 1); green = number_at ws (i + 2) }

-- what is told, where none of its words is bad
abbrev pub unless : {X : Type 0} → Option ℕ → X → Result X BadWord
unless None x = Ok x
unless (Some i) x = Err (record { index = i })

abbrev pub wrong_at : {X : Type 0} → ℕ → Result X BadWord
wrong_at i = Err (record { index = i })

-- an item's way, told by two words: the sender in the first, the receiver in the second
abbrev pub bring_at : MailKind → List ℕ → ℕ → Result (Call Plan) BadWord
bring_at kind ws i = unless (bad_from ws 2 (i + 1) 1) (Bring kind (number_at ws i) (number_at ws (i + 1)))

-- the call of this kind whose first word stands at the index i; a tick has the number 0
abbrev pub call_of : Result CallKind NoCall → List ℕ → ℕ → Result (Call Plan) BadWord
call_of (Ok SWAP) ws i = Ok (Swap (number_at ws i))
call_of (Ok READ) ws i = Ok (Read (number_at ws i))
call_of (Ok WRITE) ws i = unless (bad_from ws 4 (i + 1) 3) (Write (number_at ws i) (plan_at ws (i + 1)))
call_of (Ok (BRING kind)) ws i = bring_at kind ws i
call_of (Ok TICK) ws i = cond (number_at ws i == 0) (Ok Tick) (wrong_at i)
call_of (Err e) ws i = wrong_at i

-- the call whose first word stands at the index i
abbrev pub call_at : List ℕ → ℕ → Result (Call Plan) BadWord
call_at ws i = call_of (call_kind (kind_of (slice_index ws i))) ws i

-- how many words tell a call
abbrev pub call_size : Call Plan → ℕ
call_size (Swap x) = 1
call_size (Read x) = 1
call_size (Write x v) = 4
call_size (Bring k a b) = 2
call_size Tick = 1
call_size (Look x) = 1

abbrev pub or_first : Option ℕ → Option ℕ → Option ℕ
or_first None o = o
or_first (Some i) o = Some i

-- the first six words: three of kind 0 and three of kind 4
abbrev pub opening_of : List ℕ → Result Opening BadWord
opening_of ws =
    unless (or_first (bad_from ws 0 0 3) (bad_from ws 4 3 3))
    (record { heads = number_at ws 0; delay = number_at ws 1; swap_limit = number_at ws 2; start = plan_at ws 3 })

abbrev pub some_call : Result (Call Plan) BadWord → Result (Option (Call Plan)) BadWord
some_call (Ok c) = Ok (Some c)
some_call (Err b) = Err b

-- what comes at the index `at`: a call, a bad word, or the end, where a short word is bad
abbrev pub next_call : List ℕ → Bool → ℕ → Result (Option (Call Plan)) BadWord
next_call ws short at = cond (nat_lt at (length ws)) (some_call (call_at ws at)) (cond short (wrong_at (length ws)) (Ok None))

-- where the reader stands then
abbrev pub next_index : ℕ → Result (Option (Call Plan)) BadWord → ℕ
next_index at (Ok None) = at
next_index at (Ok (Some c)) = at + call_size c
next_index at (Err b) = at
