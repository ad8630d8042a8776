use Rattle.std.proofs.Common.{◌-◌, length}
use Rattle.siterun.proofs.Shift.run.Given as goal

abbrev pub decreases-loop-call : goal.decreases-loop-call
decreases-loop-call l = length l.calls.words.now - l.calls.at
