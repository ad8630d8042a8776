use Rattle.std.proofs.Common.{◌≡◌, ◌+◌, ◌++◌, length, ap, subst, arith}
use Rattle.protocol.specs.Items.{inquiry, to_each}
use Rattle.room.specs.Counting.{Counted}
use Rattle.room.proofs.Following.{inquiries_counted, put_followed}
use Rattle.room.proofs.forecast.Forecast.add_inquiries.Goals as goal

pub returns : goal.returns
returns g c heads places is a time others n foreseen =
    let f = c.args.self.now in
    let new = to_each (λ b. inquiry a b time) others in
    let all : length others ≡ c.saturating_sub-others.result = omega (arith, n, c.saturating_sub-others.ensures, ap length foreseen.lent) in
    put_followed heads places is new _
    (record {
      lent = foreseen.lent;
      size = foreseen.size;
      counted = subst (λ k. Counted heads (is ++ new) (f.items + k) f.replies) all (inquiries_counted heads places is a time f.items f.replies others foreseen.counted);
    })
