-- A write begins.
use Rattle.std.proofs.Common.{◌≡◌, ℕ, suc, ◌+◌, ◌*◌, ◌<◌, ◌≤◌, not, eqb, ◌⊎◌, List, [], ◌++◌, map, sym, refl, ap, ◌∙◌, inl, inr, arith}
use Rattle.std.proofs.lemmas.List.{length-map}
use Rattle.std.proofs.lemmas.Bool.{ne_eqb, not_from_false}
use Rattle.law.proofs.Coded.{In, Head, Site, inquiring, active, Item, write, put, recopied, others}
use Rattle.law.proofs.Base.{in_left, in_right, in_either, in_kept, kept_in, map_in, in_map, each_put, Put, at_r, not_r, put_is}
use Rattle.law.proofs.Count.{late_map, distinct_put, unique}
use Rattle.law.proofs.Inv.{Stage, listens, inquires, acts, HeadOk, Written, has_it, on_way, WriteOk, Rep, Asked, mailed, kept, answered, Due, replied, Inv, rep_mono, asked_to, due_rest, not_act_inq, not_lis_act, write_not_inquiry, write_not_reply}

module _ (D k n : ℕ) (pos : 0 < D) (s : Site) (I : Inv D k n [] s) (h : Head) (i : In h s.heads) (act : h.phase ≡ active) (idle : s.fin ≡ s.top) where
  abbrev h' : Head
  h' = recopied (suc h.copy) h

  abbrev letters : List Item
  letters = map (λ g. write (suc h.copy) h.name g.name s.time) (others h.name s.heads)

  abbrev s' : Site
  s' = record { heads = map (put h.name h') s.heads; mail = s.mail ++ letters; time = s.time; swaps = s.swaps; fin = s.fin; top = suc h.copy; writer = h.name; begin = s.time; next = s.next }

  act_copy : Stage D s.time [] h → 0 < h.copy
  act_copy (listens q u r w) = absurd (not_lis_act q act)
  act_copy (inquires q u r w) = absurd (not_act_inq act q)
  act_copy (acts q u) = u

  is_fin : h.copy ≡ s.fin
  is_fin = let o = I.heads_ok h i in let c = act_copy o.stage in omega arith

  same_born : (g : Head) → In g s.heads → (put h.name h' g).born ≡ g.born
  same_born g j = go (put_is h.name h' g)
    where
      go : {y : Head} → Put h.name h' g y → y.born ≡ g.born
      go (at_r p) = ap (λ z. z.born) (sym (unique s.heads I.apart j i p))
      go (not_r p) = refl

  mail_in : {x : Item} → In x s'.mail → In x s.mail ⊎ ((g : Head) × In g s.heads × (write (suc h.copy) h.name g.name s.time ≡ x))
  mail_in x = go (in_either s.mail letters x)
    where
      go : {x : Item} → In x s.mail ⊎ In x letters → In x s.mail ⊎ ((g : Head) × In g s.heads × (write (suc h.copy) h.name g.name s.time ≡ x))
      go (inl y) = inl y
      go (inr y) = let (g, j, e) = map_in (λ g. write (suc h.copy) h.name g.name s.time) (others h.name s.heads) y in inr (g, (kept_in (λ g. not (eqb g.name h.name)) s.heads j).0, e)

  b_head : (g : Head) → In g s.heads → HeadOk D s' [] g
  b_head g j = let o = I.heads_ok g j in record { named = o.named; low = o.low; high = omega (arith, is_fin, o.high); best_low = o.best_low; best_high = omega (arith, is_fin, o.best_high); early = o.early; stage = o.stage }

  new_write : (g : Head) → In g s.heads → (v a b t : ℕ) → write (suc h.copy) h.name g.name s.time ≡ write v a b t → WriteOk D s' v a b t
  new_write g j v a b t q =
      let e₁ : suc h.copy ≡ v = cc in
      let e₂ : h.name ≡ a = cc in
      let e₃ : g.name ≡ b = cc in
      let e₄ : s.time ≡ t = cc in
      let o = (I.heads_ok h i).named in
      let o' = (I.heads_ok g j).named in
      let f = is_fin in
      record { from_below = omega arith; to_below = omega arith; past = omega arith; soon = omega arith; is_top = sym e₁; is_writer = sym e₂; is_begin = sym e₄; under = omega arith }

  b_reps : (b b' : Head) → b'.name ≡ b.name → b'.born ≡ b.born → b.best ≤ b'.best → Rep D s.mail b → Rep D s'.mail b'
  b_reps b b' p q u = rep_mono D s.mail s'.mail b b' p q u (λ v a t x. inl (in_left _ x))

  abbrev AskedT : Head → Head → Type 0
  AskedT b a = b.phase ≡ inquiring → (a.name ≡ b.name → ⊥) → a.born < b.born + D → suc s.time < b.born + 2 * D → Asked D s'.mail a b

  pub begin_inv : Inv D k n [] s'
  begin_inv = record {
    size = length-map s.heads (put h.name h') ∙ I.size;
    apart = distinct_put h.name h' s.heads (λ g j ne e. ne e) I.apart;
    fin_some = I.fin_some;
    fin_top = omega (arith, is_fin);
    top_fin = omega (arith, is_fin);
    writing = λ u. (omega arith, omega arith);
    few = I.few;
    counted = λ x le. rw (late_map x (put h.name h') s.heads same_born) (I.counted x le);
    heads_ok = each_put (HeadOk D s' []) h.name h' s.heads (let o = I.heads_ok h i in record { named = o.named; low = inr (omega (arith, is_fin)); high = omega arith; best_low = inr (inr (omega (arith, is_fin))); best_high = omega (arith, is_fin, o.best_high); early = o.early; stage = acts act (omega arith) }) (λ g j ne. b_head g j);
    written = each_put (λ g. s.fin < suc h.copy → Written s' g) h.name h' s.heads (λ u. has_it refl) (λ g j ne u. on_way (in_right s.mail (in_map (λ g. write (suc h.copy) h.name g.name s.time) (in_kept (λ g. not (eqb g.name h.name)) s.heads j (not_from_false (eqb g.name h.name) (ne_eqb g.name h.name ne))))));
    writes_ok = λ v a b t x. elim (mail_in x) [ inl y ↦ absurd (omega (arith, (I.writes_ok v a b t y).under)) | inr y ↦ new_write y.0 y.1 v a b t y.2 ];
    inquiries_ok = λ a b t x. elim (mail_in x) [ inl y ↦ (let o = I.inquiries_ok a b t y in record { from_below = o.from_below; to_below = o.to_below; past = o.past; soon = o.soon; who = each_put (λ g. g.name ≡ a → (g.phase ≡ inquiring) × (suc t ≡ g.born + D)) h.name h' s.heads (λ e. o.who h i e) (λ g j ne e. o.who g j e) }) | inr y ↦ absurd (write_not_inquiry y.2) ];
    replies_ok = λ v a b t x. elim (mail_in x) [ inl y ↦ (let o = I.replies_ok v a b t y in record { from_below = o.from_below; to_below = o.to_below; past = o.past; soon = o.soon; some = o.some; most = omega (arith, o.most, is_fin); who = each_put (λ g. g.name ≡ b → (g.phase ≡ inquiring) × ((s.fin ≤ v) ⊎ (s.fin ≤ g.copy))) h.name h' s.heads (λ e. absurd (not_act_inq act (o.who h i e).0)) (λ g j ne e. o.who g j e) }) | inr y ↦ absurd (write_not_reply y.2) ];
    asked = λ b a ib ia. each_put (λ b. (a : Head) → In a s'.heads → AskedT b a) h.name h' s.heads (λ a ia e. absurd (not_act_inq act e)) (λ b j nb. each_put (λ a. AskedT b a) h.name h' s.heads (λ e ne u v. asked_to D s.mail h b (λ t x. mailed t (in_left _ x)) kept (λ r. answered (b_reps b b refl refl (omega arith) r)) (I.asked b h j i e ne u v)) (λ a j' na e ne u v. asked_to D s.mail a b (λ t x. mailed t (in_left _ x)) kept (λ r. answered (b_reps b b refl refl (omega arith) r)) (I.asked b a j j' e ne u v))) b ib a ia;
    due = each_put (λ b. b.phase ≡ inquiring → b.born + 2 * D ≤ suc s.time → Due D s' [] b) h.name h' s.heads (λ e. absurd (not_act_inq act e)) (λ b j ne e u. replied (b_reps b b refl refl (omega arith) (due_rest D s b (I.due b j e u))));
  }
