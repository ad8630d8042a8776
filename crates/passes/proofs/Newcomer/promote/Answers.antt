use Rattle.std.proofs.Common.{true, false, sym, ap}
use Rattle.passes.specs.Passes.{promoted_by}
use Rattle.passes.proofs.Passing.{read_refused, read_by_state}
use Rattle.passes.proofs.Newcomer.promote.Goals as goal

pub returns-in-Ok : goal.returns-in-Ok
returns-in-Ok g c m = ap (promoted_by c.args.self.name) (sym (read_by_state true c.if-is_active.ensures (c.in-Ok.ensures m)))

pub returns-in-Ok-2 : goal.returns-in-Ok-2
returns-in-Ok-2 g c m = ap (promoted_by c.args.self.name) (sym (read_by_state false c.if-is_active.ensures (c.in-Ok.ensures m)))

pub returns-in-Err : goal.returns-in-Err
returns-in-Err g c m = ap (promoted_by c.args.self.name) (sym (read_refused (c.in-Err.ensures m)))
