-- Which call a word of a kind begins.
use Rattle.std.specs.Prelude.{ℕ, cond, Ok, Err, Result, ◌==◌}
use Rattle.protocol.specs.declared.kind.MailKind.TheVariants.{Write as WRITE, Inquiry as INQUIRY, Reply as REPLY}
use Rattle.script.specs.declared.call_kind.CallKind.{CallKind}
use Rattle.script.specs.declared.call_kind.CallKind.TheVariants.{Swap, Read, Write, Bring, Tick}
use Rattle.script.specs.declared.call_kind.NoCall.{NoCall}

-- 9 swap, 10 read, 11 write, 12 to 14 bring, 15 tick
abbrev pub call_kind : ℕ → Result CallKind NoCall
call_kind kind =
    cond (kind == 9) (Ok Swap)
    (cond (kind == 10) (Ok Read)
    (cond (kind == 11) (Ok Write)
    (cond (kind == 12) (Ok (Bring WRITE))
    (cond (kind == 13) (Ok (Bring INQUIRY))
    (cond (kind == 14) (Ok (Bring REPLY))
    (cond (kind == 15) (Ok Tick) (Err (record { kind = kind }))))))))
