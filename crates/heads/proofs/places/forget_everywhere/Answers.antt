use Rattle.std.proofs.Common.{map, refl, arith}
use Rattle.protocol.specs.Heads.{forgetting}
use Rattle.tables.specs.HeadPlaces.{head_of, heads_of}
use Rattle.tables.proofs.Rewritten.{rewriting_more, rewriting_all}
use Rattle.heads.proofs.places.forget_everywhere.Goals as goal

pub loop-h-preserved : goal.loop-h-preserved
loop-h-preserved g c =
    let f = forgetting {V = g.row.V.Denot} c.args.name in
    rewriting_more head_of (λ _. map f) (λ _. f) (λ _ _ _. refl) c.loop-h.heads (map f (heads_of c.args.heads.now)) c.loop-h.h-index c.h-item.result c.forget.result
    c.loop-h.invariant (omega arith) c.forget.ensures

pub returns : goal.returns
returns g c =
    let f = forgetting {V = g.row.V.Denot} c.args.name in
    rewriting_all head_of (λ _. map f) c.loop-h.heads (map f (heads_of c.args.heads.now)) c.loop-h.h-index refl c.loop-h.invariant (omega arith)
