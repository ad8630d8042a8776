use Rattle.std.proofs.Common.{w64, SFits, rules}
use Rattle.std.proofs.lemmas.Result.{err_from_is_err_and}
use Rattle.std.proofs.lemmas.Int.{to_z-of_z}
use Rattle.register.proofs.Performing.{as_asked}
use Rattle.register.proofs.carry_out.Goals as goal

pub returns-in_err-swap-in-Swap-clause-step : goal.returns-in_err-swap-in-Swap-clause-step
returns-in_err-swap-in-Swap-clause-step g c =
    let p = err_from_is_err_and c.from_residual.result c.from_residual.ensures.1 in
    rw (p.1, p.2) (as_asked c.in-Swap.is (c.in_err-swap-in-Swap.ensures.step (g.L.Log.meaning c.args.log.now)))

pub returns-in_err-swap-in-Swap-clause-lender : goal.returns-in_err-swap-in-Swap-clause-lender
returns-in_err-swap-in-Swap-clause-lender g c = g.L.Log.rests c.args.log.now

pub returns-in_ok-swap-in-Swap-clause-step : goal.returns-in_ok-swap-in-Swap-clause-step
returns-in_ok-swap-in-Swap-clause-step g c = as_asked c.in-Swap.is (c.in_ok-swap-in-Swap.ensures.step (g.L.Log.meaning c.args.log.now))

pub returns-in_ok-swap-in-Swap-clause-lender : goal.returns-in_ok-swap-in-Swap-clause-lender
returns-in_ok-swap-in-Swap-clause-lender g c = g.L.Log.rests c.args.log.now

pub returns-in_err-stamp-in-Read-clause-step : goal.returns-in_err-stamp-in-Read-clause-step
returns-in_err-stamp-in-Read-clause-step g c =
    let p = err_from_is_err_and c.from_residual-in_err-stamp-in-Read.result c.from_residual-in_err-stamp-in-Read.ensures.1 in
    rw (p.1, p.2) (as_asked c.in-Read.is (c.in_err-stamp-in-Read.ensures.step))

pub returns-in_ok-stamp-in-Read-clause-step : goal.returns-in_ok-stamp-in-Read-clause-step
returns-in_ok-stamp-in-Read-clause-step g c =
    let f : SFits w64 c.in_ok-stamp-in-Read.stamp = search rules in
    rw (to_z-of_z w64 c.in_ok-stamp-in-Read.stamp f) (as_asked c.in-Read.is (c.in_ok-stamp-in-Read.ensures.step))

pub returns-in_err-write-in-Write-clause-step : goal.returns-in_err-write-in-Write-clause-step
returns-in_err-write-in-Write-clause-step g c =
    let p = err_from_is_err_and c.from_residual-in_err-write-in-Write.result c.from_residual-in_err-write-in-Write.ensures.1 in
    rw (p.1, p.2) (as_asked c.in-Write.is (c.in_err-write-in-Write.ensures.step (g.L.Log.meaning c.args.log.now)))

pub returns-in_err-write-in-Write-clause-lender : goal.returns-in_err-write-in-Write-clause-lender
returns-in_err-write-in-Write-clause-lender g c = g.L.Log.rests c.args.log.now

pub returns-in_ok-write-in-Write-clause-step : goal.returns-in_ok-write-in-Write-clause-step
returns-in_ok-write-in-Write-clause-step g c =
    let f : SFits w64 c.in_ok-write-in-Write.field-0 = search rules in
    rw (to_z-of_z w64 c.in_ok-write-in-Write.field-0 f) (as_asked c.in-Write.is (c.in_ok-write-in-Write.ensures.step (g.L.Log.meaning c.args.log.now)))

pub returns-in_ok-write-in-Write-clause-lender : goal.returns-in_ok-write-in-Write-clause-lender
returns-in_ok-write-in-Write-clause-lender g c = g.L.Log.rests c.args.log.now

pub returns-in_err-bring-in-Bring-clause-step : goal.returns-in_err-bring-in-Bring-clause-step
returns-in_err-bring-in-Bring-clause-step g c =
    let p = err_from_is_err_and c.from_residual-in_err-bring-in-Bring.result c.from_residual-in_err-bring-in-Bring.ensures.1 in
    rw (p.1, p.2) (as_asked c.in-Bring.is (c.in_err-bring-in-Bring.ensures.step (g.L.Log.meaning c.args.log.now)))

pub returns-in_err-bring-in-Bring-clause-lender : goal.returns-in_err-bring-in-Bring-clause-lender
returns-in_err-bring-in-Bring-clause-lender g c = g.L.Log.rests c.args.log.now

pub returns-in_ok-bring-in-Bring-clause-step : goal.returns-in_ok-bring-in-Bring-clause-step
returns-in_ok-bring-in-Bring-clause-step g c = as_asked c.in-Bring.is (c.in_ok-bring-in-Bring.ensures.step (g.L.Log.meaning c.args.log.now))

pub returns-in_ok-bring-in-Bring-clause-lender : goal.returns-in_ok-bring-in-Bring-clause-lender
returns-in_ok-bring-in-Bring-clause-lender g c = g.L.Log.rests c.args.log.now

pub returns-in_err-time-in-Tick-clause-step : goal.returns-in_err-time-in-Tick-clause-step
returns-in_err-time-in-Tick-clause-step g c =
    let p = err_from_is_err_and c.from_residual-in_err-time-in-Tick.result c.from_residual-in_err-time-in-Tick.ensures.1 in
    rw (p.1, p.2) (as_asked c.in-Tick.is (c.in_err-time-in-Tick.ensures.step (g.L.Log.meaning c.args.log.now)))

pub returns-in_err-time-in-Tick-clause-lender : goal.returns-in_err-time-in-Tick-clause-lender
returns-in_err-time-in-Tick-clause-lender g c = g.L.Log.rests c.args.log.now

pub returns-in_ok-time-in-Tick-clause-step : goal.returns-in_ok-time-in-Tick-clause-step
returns-in_ok-time-in-Tick-clause-step g c = as_asked c.in-Tick.is (c.in_ok-time-in-Tick.ensures.step (g.L.Log.meaning c.args.log.now))

pub returns-in_ok-time-in-Tick-clause-lender : goal.returns-in_ok-time-in-Tick-clause-lender
returns-in_ok-time-in-Tick-clause-lender g c = g.L.Log.rests c.args.log.now

pub returns-in_err-state-in-Look-clause-step : goal.returns-in_err-state-in-Look-clause-step
returns-in_err-state-in-Look-clause-step g c =
    let p = err_from_is_err_and c.from_residual-in_err-state-in-Look.result c.from_residual-in_err-state-in-Look.ensures.1 in
    rw (p.1, p.2) (as_asked c.in-Look.is (c.in_err-state-in-Look.ensures (g.L.Log.meaning c.args.log.now)))

pub returns-in_err-state-in-Look-clause-lender : goal.returns-in_err-state-in-Look-clause-lender
returns-in_err-state-in-Look-clause-lender g c = g.L.Log.rests c.args.log.now

pub returns-in_ok-state-in-Look-clause-step : goal.returns-in_ok-state-in-Look-clause-step
returns-in_ok-state-in-Look-clause-step g c =
    let f : SFits w64 c.in_ok-state-in-Look.stamp = search rules in
    rw (to_z-of_z w64 c.in_ok-state-in-Look.stamp f) (as_asked c.in-Look.is (c.in_ok-state-in-Look.ensures (g.L.Log.meaning c.args.log.now)))

pub returns-in_ok-state-in-Look-clause-lender : goal.returns-in_ok-state-in-Look-clause-lender
returns-in_ok-state-in-Look-clause-lender g c = g.L.Log.rests c.args.log.now
