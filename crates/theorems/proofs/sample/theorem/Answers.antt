use Rattle.law.proofs.SampleRun.{sample_run}
use Rattle.theorems.proofs.sample.theorem.Goals as goal

pub returns : goal.returns
returns c = sample_run
