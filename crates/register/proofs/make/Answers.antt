use Rattle.std.proofs.Common.{length, subst}
use Rattle.law.proofs.Laws.{begun}
use Rattle.acts.specs.Making.{setup_of}
use Rattle.site.specs.Makes.{Makes}
use Rattle.site.specs.States.{state_of}
use Rattle.register.proofs.make.Goals as goal

pub returns : goal.returns
returns g c =
    let log = g.L.Log.meaning c.args.log.now in
    let m = setup_of (length c.args.heads.now) (length c.args.mail.now) c.args.delay c.args.swap_limit c.args.start log in
    record {
      made = c.make.ensures.made log;
      kept = c.make.ensures.kept;
      law = λ site e.
          let d = subst (λ r. Makes g.V.Value.lawful m r c.make.new.heads c.make.new.mail) e (c.make.ensures.made log) in
          begun g.V.Value.lawful m (state_of site c.make.new.heads c.make.new.mail log) d.0 d.1;
    }
