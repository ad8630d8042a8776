-- What a head sends.
use Rattle.std.specs.Prelude.{ℕ, Some}
use Rattle.protocol.specs.declared.kind.MailKind.{MailKind}
use Rattle.records.specs.declared.copied.Copied.{Copied}
use Rattle.tables.specs.declared.mail.MailPlace.{MailPlace}

-- whom it goes to is filled in for each receiver
abbrev pub place_from : {V : Type 0} → MailKind → ℕ → Copied V → ℕ → MailPlace V
place_from kind sender copy sent = record { kind = Some kind; sender = sender; receiver = sender; sent = sent; copy = copy }
