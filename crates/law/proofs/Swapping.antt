-- A head is swapped.
use Rattle.std.proofs.Common.{◌≡◌, ℕ, suc, ◌+◌, ◌*◌, ◌<◌, ◌≤◌, true, not, eqb, ◌⊎◌, List, [], map, filter, sym, refl, ap, ◌∙◌, inl, arith}
use Rattle.std.proofs.lemmas.List.{length-map}
use Rattle.std.proofs.lemmas.Bool.{ne_eqb, not_from_false, and_from}
use Rattle.law.proofs.Coded.{In, Head, Site, inquiring, Item, put, forget, fresh, outlives}
use Rattle.law.proofs.Base.{in_kept, kept_in, map_in, each_put, moved}
use Rattle.law.proofs.Count.{late_map, late_put, distinct_put, distinct_map}
use Rattle.law.proofs.Inv.{Stage, listens, inquires, acts, HeadOk, Written, has_it, on_way, too_new, Rep, Asked, mailed, kept, answered, Due, replied, Inv, rep_mono, due_rest, not_act_inq, not_lis_inq}

other_kept : (b r : ℕ) → (b ≡ r → ⊥) → not (eqb b r) ≡ true
other_kept b r ne = not_from_false (eqb b r) (ne_eqb b r ne)

module _ (D k n : ℕ) (pos : 0 < D) (s : Site) (I : Inv D k n [] s) (r : ℕ) (room : s.swaps < k) where
  abbrev hs₁ : List Head
  hs₁ = map (forget r) s.heads

  abbrev new : Head
  new = fresh s.next s.time

  abbrev m' : List Item
  m' = filter (outlives r) s.mail

  abbrev s' : Site
  s' = record { heads = map (put r new) hs₁; mail = m'; time = s.time; swaps = suc s.swaps; fin = s.fin; top = s.top; writer = s.writer; begin = s.begin; next = suc s.next }

  each_out : (P : Head → Type 0) → P new → ((x : Head) → In x s.heads → (x.name ≡ r → ⊥) → P (forget r x)) → (g : Head) → In g s'.heads → P g
  each_out P p q = each_put P r new hs₁ p (λ g j ne. let (x, i, e) = map_in (forget r) s.heads j in moved P e (q x i (λ z. ne (sym (ap (λ y. y.name) e) ∙ z))))

  gone : {x : Item} → In x m' → In x s.mail
  gone x = (kept_in (outlives r) s.mail x).0

  out_stage : (x : Head) → Stage D s.time [] x → Stage D s.time [] (forget r x)
  out_stage x (listens p q u w) = listens p q u w
  out_stage x (inquires p q u w) = inquires p q u w
  out_stage x (acts p q) = acts p q

  out_head : (x : Head) → In x s.heads → HeadOk D s' [] (forget r x)
  out_head x i = let o = I.heads_ok x i in record { named = omega (arith, o.named); low = o.low; high = o.high; best_low = o.best_low; best_high = o.best_high; early = o.early; stage = out_stage x o.stage }

  out_written : (x : Head) → (x.name ≡ r → ⊥) → Written s x → Written s' (forget r x)
  out_written x ne (has_it p) = has_it p
  out_written x ne (on_way y) = on_way (in_kept (outlives r) s.mail y (other_kept x.name r ne))
  out_written x ne (too_new p q u) = too_new p q u

  out_reps : (b : Head) → (b.name ≡ r → ⊥) → Rep D s.mail b → Rep D m' (forget r b)
  out_reps b ne = rep_mono D s.mail m' b (forget r b) refl refl (omega arith) (λ v a t x. inl (in_kept (outlives r) s.mail x (other_kept b.name r ne)))

  out_asked : (b a : Head) → (b.name ≡ r → ⊥) → (a.name ≡ r → ⊥) → Asked D s.mail a b → Asked D m' (forget r a) (forget r b)
  out_asked b a nb na (mailed t x) = mailed t (in_kept (outlives r) s.mail x (and_from (not (eqb b.name r)) (not (eqb a.name r)) (other_kept b.name r nb) (other_kept a.name r na)))
  out_asked b a nb na (kept p q) = kept p (in_kept (λ x. not (eqb x r)) a.held q (other_kept b.name r nb))
  out_asked b a nb na (answered q) = answered (out_reps b nb q)

  inq_born : (b : Head) → b.phase ≡ inquiring → Stage D s.time [] b → b.born + D ≤ suc s.time
  inq_born b e (listens p q u w) = absurd (not_lis_inq p e)
  inq_born b e (inquires p q u w) = u
  inq_born b e (acts p q) = absurd (not_act_inq p e)

  abbrev AskedT : Head → Head → Type 0
  AskedT b a = b.phase ≡ inquiring → (a.name ≡ b.name → ⊥) → a.born < b.born + D → suc s.time < b.born + 2 * D → Asked D m' a b

  pub swap_inv : Inv D k n [] s'
  swap_inv = record {
    size = length-map hs₁ (put r new) ∙ length-map s.heads (forget r) ∙ I.size;
    apart = distinct_put r new hs₁ (λ g j ne e. let (x, i, q) = map_in (forget r) s.heads j in let q' = ap (λ y. y.name) q in omega (arith, (I.heads_ok x i).named)) (distinct_map (forget r) s.heads (λ g j. refl) I.apart);
    fin_some = I.fin_some;
    fin_top = I.fin_top;
    top_fin = I.top_fin;
    writing = I.writing;
    few = room;
    counted = λ x le. omega (arith, late_put x r new hs₁ (distinct_map (forget r) s.heads (λ g j. refl) I.apart), late_map x (forget r) s.heads (λ g j. refl), I.counted x le);
    heads_ok = each_out (HeadOk D s' []) (record { named = omega arith; low = inl refl; high = omega arith; best_low = inl refl; best_high = omega arith; early = omega arith; stage = listens refl (omega arith) refl (inl (omega arith)) }) (λ x i ne. out_head x i);
    written = each_out (λ g. s.fin < s.top → Written s' g) (λ u. too_new refl (omega (arith, I.writing u)) refl) (λ x i ne u. out_written x ne (I.written x i u));
    writes_ok = λ v a b t x. let o = I.writes_ok v a b t (gone x) in record { from_below = omega arith; to_below = omega arith; past = o.past; soon = o.soon; is_top = o.is_top; is_writer = o.is_writer; is_begin = o.is_begin; under = o.under };
    inquiries_ok = λ a b t x. let o = I.inquiries_ok a b t (gone x) in record { from_below = omega (arith, o.from_below); to_below = omega (arith, o.to_below); past = o.past; soon = o.soon; who = each_out (λ g. g.name ≡ a → (g.phase ≡ inquiring) × (suc t ≡ g.born + D)) (λ e. absurd (omega (arith, o.from_below))) (λ y i ne e. o.who y i e) };
    replies_ok = λ v a b t x. let o = I.replies_ok v a b t (gone x) in record { from_below = omega (arith, o.from_below); to_below = omega (arith, o.to_below); past = o.past; soon = o.soon; some = o.some; most = o.most; who = each_out (λ g. g.name ≡ b → (g.phase ≡ inquiring) × ((s.fin ≤ v) ⊎ (s.fin ≤ g.copy))) (λ e. absurd (omega (arith, o.to_below))) (λ y i ne e. o.who y i e) };
    asked = λ b a ib ia. each_out (λ b. (a : Head) → In a s'.heads → AskedT b a) (λ a ia e. absurd (not_lis_inq refl e)) (λ b j nb. each_out (λ a. AskedT (forget r b) a) (λ e ne u v. absurd (omega (arith, inq_born b e (I.heads_ok b j).stage))) (λ a j' na e ne u v. out_asked b a nb na (I.asked b a j j' e ne u v))) b ib a ia;
    due = each_out (λ b. b.phase ≡ inquiring → b.born + 2 * D ≤ suc s.time → Due D s' [] b) (λ e. absurd (not_lis_inq refl e)) (λ b j ne e u. replied (out_reps b ne (due_rest D s b (I.due b j e u))));
  }
