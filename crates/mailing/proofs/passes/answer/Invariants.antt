use Rattle.std.specs.Slice.Iter.{iter_rest}
use Rattle.protocol.specs.Items.{is_reply_to}
use Rattle.tables.specs.Passes.{cleared}
use Rattle.tables.proofs.Refilling.{Refilling}
use Rattle.mailing.proofs.passes.answer.Given as goal

abbrev pub invariant-loop-place : goal.invariant-loop-place
invariant-loop-place g l = Refilling (cleared (is_reply_to l.fn.name)) l.item l.names l.initial.mail l.mail (iter_rest l.left) l.place-index
