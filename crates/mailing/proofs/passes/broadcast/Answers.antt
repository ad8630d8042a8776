use Rattle.std.proofs.Common.{◌≡◌, ◌+◌, ◌<◌, ◌≤◌, ◌++◌, length, get_or, take, drop, set, map, sym, refl, ap, ◌∙◌, subst, arith}
use Rattle.std.proofs.lemmas.List.{length-take-le, get_or-take}
use Rattle.std.proofs.lemmas.Bool.{le-leb, lt-leb}
use Rattle.std.specs.List.Sorted.{IsPermutation}
use Rattle.tables.specs.MailPlaces.{items_of, addressed}
use Rattle.tables.specs.Passes.{names_but}
use Rattle.mailing.specs.EmptyPlaces.{placed, empties_from}
use Rattle.mailing.proofs.EmptyPlaces.{empty_or_full, placed_more, placed_all, placed_bag}
use Rattle.mailing.proofs.passes.broadcast.Goals as goal

pub returns-then-note_empty_places-names-clause-room : goal.returns-then-note_empty_places-names-clause-room
returns-then-note_empty_places-names-clause-room g c _ =
    let ps = c.args.mail.now in
    let names = c.as_slice-names.result.now in
    let all = c.as_slice-names.ensures ∙ c.names_of_others.ensures.names c.in_ok-receivers.receivers c.in_ok-receivers.ensures.ok_part in
    sym
    (lt-leb (length (items_of ps) + length (names_but c.args.but c.args.heads.now)) (length ps)
    (subst (λ ns. length ps < length (items_of ps) + length ns) all (omega (arith, empty_or_full 0 ps, c.note_empty_places.ensures.count))))

pub loop-k-preserved : goal.loop-k-preserved
loop-k-preserved g c =
    let item = c.args.item in
    let names = c.as_slice-names.result.now in
    let n = length names in
    let m = c.note_empty_places.result in
    let xs = c.note_empty_places.new.places in
    let is = take n xs in
    let ps = c.loop-k.mail in
    let k = c.loop-k.k in
    let es = empties_from 0 c.args.mail.now in
    let found : n ≤ length es = omega (arith, c.note_empty_places.ensures.count) in
    let every : n ≡ m = omega (arith, c.note_empty_places.ensures.count) in
    let long : length is ≡ n = ap (λ j. length (take j xs)) every ∙ ap length c.note_empty_places.ensures.places ∙ length-take-le n es found in
    let h : k < length is = omega (arith, long) in
    ap (placed item (drop (k + 1) is) (drop (k + 1) names)) (c.put.ensures ∙ ap (set ps (get_or xs k 0)) c.to.ensures)
    ∙ placed_more item is names ps k (get_or xs k 0) (get_or names k 0) h c.loop-k-test.true (sym (get_or-take n xs k 0 (omega arith))) refl
    ∙ c.loop-k.invariant

pub returns-clause-room : goal.returns-clause-room
returns-clause-room g c _ =
    let ps = c.args.mail.now in
    let names = c.as_slice-names.result.now in
    let all = c.as_slice-names.ensures ∙ c.names_of_others.ensures.names c.in_ok-receivers.receivers c.in_ok-receivers.ensures.ok_part in
    sym (le-leb (length (items_of ps) + length (names_but c.args.but c.args.heads.now)) (length ps)
    (subst (λ ns. length (items_of ps) + length ns ≤ length ps) all (omega (arith, empty_or_full 0 ps, c.note_empty_places.ensures.count))))

pub returns-clause-sent : goal.returns-clause-sent
returns-clause-sent g c _ =
    let item = c.args.item in
    let ps = c.args.mail.now in
    let qs = c.loop-k.mail in
    let names = c.as_slice-names.result.now in
    let n = length names in
    let m = c.note_empty_places.result in
    let xs = c.note_empty_places.new.places in
    let k = c.loop-k.k in
    let es = empties_from 0 ps in
    let all = c.as_slice-names.ensures ∙ c.names_of_others.ensures.names c.in_ok-receivers.receivers c.in_ok-receivers.ensures.ok_part in
    let found : n ≤ length es = omega (arith, c.note_empty_places.ensures.count) in
    let every : n ≡ m = omega (arith, c.note_empty_places.ensures.count) in
    let same : take n xs ≡ take n es = ap (λ j. take j xs) every ∙ c.note_empty_places.ensures.places in
    let l : length (take n xs) ≤ k = omega (arith, ap length same ∙ length-take-le n es found) in
    subst (λ ns. IsPermutation (items_of qs) (items_of ps ++ items_of (map (addressed item) ns))) all
    (placed_bag item n names ps qs (omega arith) found (placed_all item (take n xs) names qs k l ∙ c.loop-k.invariant ∙ ap (λ is. placed item is names ps) same))
