use Rattle.std.proofs.Common.{sym, ◌∙◌}
use Rattle.protocol.specs.Heads.{is_named}
use Rattle.tables.specs.HeadPlaces.{head_of}
use Rattle.tables.proofs.Searches.{place_here, place_past, place_none}
use Rattle.heads.proofs.searches.find.Goals as goal

pub returns-then-has_name : goal.returns-then-has_name
returns-then-has_name g c =
    sym (sym c.loop-i.invariant
    ∙ place_here (λ h. is_named c.args.name (head_of h)) c.args.heads.now c.loop-i.i c.index-heads-i.result c.loop-i-test.true c.index-heads-i.is c.if-has_name.ensures)

pub loop-i-preserved : goal.loop-i-preserved
loop-i-preserved g c =
    place_past (λ h. is_named c.args.name (head_of h)) c.args.heads.now c.loop-i.i c.index-heads-i.result c.loop-i-test.true c.index-heads-i.is c.if-has_name.ensures
    ∙ c.loop-i.invariant

pub returns : goal.returns
returns g c = sym (sym c.loop-i.invariant ∙ place_none (λ h. is_named c.args.name (head_of h)) c.args.heads.now c.loop-i.i c.loop-i-test.false)
