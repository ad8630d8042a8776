-- What make accepts fits, and its churn is low.
use Rattle.std.proofs.Common.{◌-◌, ◌*◌, ◌≤◌, None, mul-le-mul_right, arith}
use Rattle.std.proofs.lemmas.Bool.Decides.{nat_tests}
use Rattle.protocol.specs.Make.{make_checks}
use Rattle.law.specs.Laws.{MakeSuffices}
use Rattle.law.proofs.Checks.{passed}

pub make_suffices : (V : Type 0) → MakeSuffices V
make_suffices V lawful m e =
    let (heads, (delay, (churn, (mail, (start, _))))) = (passed (make_checks lawful m) None e).checks in
    let less : (3 * m.delay - 1) * m.swap_limit ≤ 3 * m.delay * m.swap_limit = mul-le-mul_right m.swap_limit (omega arith) in (
      record {
        some_head = grind (arith, nat_tests);
        most_heads = grind (arith, nat_tests);
        some_delay = grind (arith, nat_tests);
        most_delay = grind (arith, nat_tests);
        mail = grind (arith, nat_tests);
        start = grind (arith, nat_tests);
      },
      grind (arith, nat_tests),
    )
