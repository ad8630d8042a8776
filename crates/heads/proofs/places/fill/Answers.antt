use Rattle.std.proofs.Common.{◌+◌, map, refl, arith}
use Rattle.protocol.specs.Make.{original, originals}
use Rattle.tables.specs.HeadPlaces.{head_of, heads_of, lacking}
use Rattle.tables.proofs.Rewritten.{rewriting_more, rewriting_all}
use Rattle.heads.proofs.places.fill.Goals as goal

pub loop-i-preserved : goal.loop-i-preserved
loop-i-preserved g c =
    let start = c.args.start in
    rewriting_more head_of (λ i hs. originals start (i + 1) (map lacking hs)) (λ i h. original start (i + 1) (lacking h)) (λ _ _ _. refl) c.loop-i.heads (originals start 1 (map lacking (heads_of c.args.heads.now))) c.loop-i.i c.index-heads-i.result c.original.result
    c.loop-i.invariant (omega arith) c.original.ensures

pub returns : goal.returns
returns g c =
    let start = c.args.start in
    record {
      filled = λ _. rewriting_all head_of (λ i hs. originals start (i + 1) (map lacking hs)) c.loop-i.heads (originals start 1 (map lacking (heads_of c.args.heads.now))) c.loop-i.i refl c.loop-i.invariant (omega arith);
      kept = λ many. absurd (omega arith);
    }
