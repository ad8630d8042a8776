use Rattle.std.proofs.Common.{length, refl, arith}
use Rattle.std.proofs.lemmas.Result.{err_from_is_err_and}
use Rattle.acts.specs.Making.{setup_of}
use Rattle.acts.proofs.MakeSteps.{few_heads, made}
use Rattle.site.specs.Checks.{no_log}
use Rattle.site.specs.States.{site_of}
use Rattle.site.proofs.site.Site.make.Goals as goal

pub returns-in_err-check_setup : goal.returns-in_err-check_setup
returns-in_err-check_setup g c =
    let p = err_from_is_err_and c.from_residual.result c.from_residual.ensures.1 in
    rw (p.1, p.2) (record { made = λ m. c.in_err-check_setup.ensures m; kept = λ _. (refl, refl) })

pub new-requires : goal.new-requires
new-requires g c =
    few_heads g.V.Value.lawful (setup_of (length c.args.heads.now) (length c.args.mail.now) c.args.delay c.args.swap_limit c.args.start no_log) (c.in_ok-check_setup.ensures no_log)

pub returns-clause-made : goal.returns-clause-made
returns-clause-made g c =
    let few = few_heads g.V.Value.lawful (setup_of (length c.args.heads.now) (length c.args.mail.now) c.args.delay c.args.swap_limit c.args.start no_log) (c.in_ok-check_setup.ensures no_log) in
    λ m. (
      c.in_ok-check_setup.ensures m,
      made (site_of c.new.result) c.args.heads.now c.fill.new.heads c.args.mail.now c.take_out_all.new.mail c.args.delay c.args.swap_limit c.args.start m
          c.new.ensures (c.fill.ensures.filled (omega (arith, few))) c.take_out_all.auto.mail c.take_out_all.ensures,
    )
