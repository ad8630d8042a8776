use Rattle.std.proofs.Common.{not, is_some, sym, refl, ap, arith}
use Rattle.acts.proofs.Checks.{refused_here, refused_later}
use Rattle.acts.proofs.Named.{nobody, within, named}
use Rattle.protocol.specs.declared.refusal.Refusal.TheVariants.{ForeignTables, NoSuchHead}
use Rattle.site.proofs.Records.{own_tables}
use Rattle.site.proofs.site.Site.find_head.Goals as goal

pub offset_bounds-heads-i : goal.offset_bounds-heads-i
offset_bounds-heads-i g c = omega (arith, within c.args.name c.args.heads.now c.in-Some.i (sym c.in-Some.ensures))

pub bounds-heads-i : goal.bounds-heads-i
bounds-heads-i g c = within c.args.name c.args.heads.now c.in-Some.i (sym c.in-Some.ensures)

pub returns-in-None : goal.returns-in-None
returns-in-None g c =
    refused_later _ ForeignTables _ (own_tables c.args.self c.args.heads.now c.args.mail.now c.in_ok-check_tables.ensures)
    (refused_here _ NoSuchHead _ (ap (λ o. not (is_some o)) (nobody c.args.name c.args.heads.now (sym c.in-None.ensures))))

pub returns-in-Some : goal.returns-in-Some
returns-in-Some g c = (
  refused_later _ ForeignTables _ (own_tables c.args.self c.args.heads.now c.args.mail.now c.in_ok-check_tables.ensures)
      (refused_later _ NoSuchHead _ (ap (λ o. not (is_some o)) (named c.args.name c.args.heads.now c.in-Some.i (sym c.in-Some.ensures) c.index-heads-i.result c.index-heads-i.is)) refl),
  sym c.in-Some.ensures,
  c.index-heads-i.is,
)
