-- The highest numbers, and those by which states, kinds of mail and refusals are told.
use Rattle.std.specs.Prelude.{ℕ}
use Rattle.logs.specs.Entries.{log_refusal_number}
use Rattle.protocol.specs.declared.state.HeadState.{HeadState}
use Rattle.protocol.specs.declared.state.HeadState.TheVariants.{Listening, Inquiring, Active, Stranded}
use Rattle.protocol.specs.declared.kind.MailKind.{MailKind}
use Rattle.protocol.specs.declared.kind.MailKind.TheVariants.{Write, Inquiry, Reply}
use Rattle.protocol.specs.declared.refusal.Refusal.{Refusal}
use Rattle.protocol.specs.declared.refusal.Refusal.TheVariants.{HeadCount, DelayLimit, ChurnLimit, MailPlaces, StartUnlawful, ForeignTables, NoRoom, NoSuchHead, NotActive, SwapLimit, NamesUsedUp, WritingHead, ValueUnlawful, WriteUnderWay, NoSuchItem, MailDue, LastTick, Log}

-- the clock goes no further
abbrev pub last_tick : ℕ
last_tick = 268435454

-- the highest name and the highest stamp
abbrev pub last_number : ℕ
last_number = 268435455

abbrev pub state_number : HeadState → ℕ
state_number Listening = 1
state_number Inquiring = 2
state_number Active = 3
state_number Stranded = 4

-- the number of the call that brings an item of this kind
abbrev pub kind_number : MailKind → ℕ
kind_number Write = 12
kind_number Inquiry = 13
kind_number Reply = 14

-- make, the tables lent, heads and writes, mail and clock, and the log's own
abbrev pub refusal_number : Refusal → ℕ
refusal_number HeadCount = 1
refusal_number DelayLimit = 2
refusal_number ChurnLimit = 3
refusal_number MailPlaces = 4
refusal_number StartUnlawful = 5
refusal_number ForeignTables = 6
refusal_number NoRoom = 7
refusal_number NoSuchHead = 11
refusal_number NotActive = 12
refusal_number SwapLimit = 13
refusal_number NamesUsedUp = 14
refusal_number WritingHead = 15
refusal_number ValueUnlawful = 16
refusal_number WriteUnderWay = 17
refusal_number NoSuchItem = 21
refusal_number MailDue = 22
refusal_number LastTick = 23
refusal_number (Log why) = log_refusal_number why
