use Rattle.std.proofs.Common.{sym, ap}
use Rattle.std.proofs.lemmas.Result.{err_from_is_err_and}
use Rattle.passes.specs.Passes.{newcomer_by}
use Rattle.passes.proofs.Passing.{look_refused, look_passed}
use Rattle.passes.proofs.Newcomer.of.Goals as goal

pub returns-in_err-look : goal.returns-in_err-look
returns-in_err-look g c =
    let p = err_from_is_err_and c.from_residual.result c.from_residual.ensures.1 in
    rw (p.1, p.2) (λ m. ap (newcomer_by c.args.name) (sym (look_refused (c.in_err-look.ensures m))))

pub returns : goal.returns
returns g c m = ap (newcomer_by c.args.name) (sym (look_passed (c.in_ok-look.ensures m)).0)
