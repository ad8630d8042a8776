use Rattle.std.proofs.Common.{sym, refl, ap, ◌∙◌, arith}
use Rattle.room.specs.Counting.{place_named}
use Rattle.room.proofs.CountedItems.{reply_counted, reply_passed}
use Rattle.room.proofs.forecast.Forecast.add_reply.Goals as goal

pub returns-in-Some : goal.returns-in-Some
returns-in-Some g c heads places is a t cp foreseen =
    let f = c.args.self.now in
    record {
      lent = foreseen.lent;
      size = foreseen.size;
      counted = reply_counted heads is f.items f.replies foreseen.counted a c.args.name t cp c.in-Some.k (ap (place_named c.args.name) (sym foreseen.lent) ∙ sym c.in-Some.ensures.named) (omega (arith, f.few, c.in-Some.ensures.inside c.in-Some.k refl));
    }

pub returns-in_default : goal.returns-in_default
returns-in_default g c heads places is a t cp foreseen =
    let f = c.args.self.now in
    record {
      lent = foreseen.lent;
      size = foreseen.size;
      counted = reply_passed heads is f.items f.replies foreseen.counted a c.args.name t cp (ap (place_named c.args.name) (sym foreseen.lent) ∙ sym c.in_default.ensures.named);
    }
