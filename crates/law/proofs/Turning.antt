-- The heads turn, one after the other.
use Rattle.std.proofs.Common.{◌≡◌, ℕ, suc, ◌+◌, ◌*◌, ◌<◌, ◌≤◌, max, true, not, eqb, ◌⊎◌, List, ◌∷◌, ◌++◌, map, filter, sym, refl, ap, ◌∙◌, inl, inr, arith}
use Rattle.std.proofs.lemmas.Bool.{eqb-false, ne_eqb, not-true, not_from_false}
use Rattle.law.proofs.Coded.{In, here, there, Head, Site, listening, inquiring, Item, write, inquiry, reply, put, acting, asking, wanted, others, isInquiring, answers, Turn, waits, wakes, asks, ends, strands}
use Rattle.law.proofs.Base.{in_left, in_right, in_either, in_kept, kept_in, map_in, in_map, in_put, put_in, each_put, moved, inq_has, has_inq}
use Rattle.law.proofs.Count.{unique}
use Rattle.law.proofs.Inv.{Stage, listens, inquires, acts, Written, has_it, on_way, too_new, InquiryOk, ReplyOk, Rep, has_best, coming, mailed, kept, answered, Due, replied, awaits, Inv, rep_mono, asked_to, not_act_inq, not_lis_inq, not_lis_act, write_not_inquiry, write_not_reply, inquiry_not_reply}
use Rattle.law.proofs.Change.{Change, changed, change_inv}

wanted_other : (b r : ℕ) → (b ≡ r → ⊥) → not (eqb b r) ≡ true
wanted_other b r ne = not_from_false (eqb b r) (ne_eqb b r ne)

other_wanted : (b r : ℕ) → not (eqb b r) ≡ true → b ≡ r → ⊥
other_wanted b r e = eqb-false b r (not-true (eqb b r) e)

-- no head is stranded
pub never_stranded : (D k n : ℕ) → 0 < D → (todo : List ℕ) (s : Site) → Inv D k n todo s → (h : Head) → In h s.heads → h.phase ≡ inquiring → h.born + 3 * D ≡ suc s.time → max h.copy h.best ≡ 0 → ⊥
never_stranded D k n pos todo s I h i p d z = go (I.due h i p (omega arith))
  where
    go : Due D s todo h → ⊥
    go (replied (has_best b)) = omega arith
    go (replied (coming v a t x l)) = omega (arith, (I.replies_ok v a h.name t x).soon)
    go (awaits a j q r u v w) = omega arith

module _ (D k n : ℕ) (pos : 0 < D) (s : Site) (h : Head) (i : In h s.heads) (rs : List ℕ) (I : Inv D k n (h.name ∷ rs) s) where
  left_in : (g : Head) → In g s.heads → (g.name ≡ h.name → ⊥) → In g.name (h.name ∷ rs) → In g.name rs
  left_in g j ne (here p) = absurd (ne (sym p))
  left_in g j ne (there p) = p

  -- h begins to ask
  module _ (p : h.phase ≡ listening) (d : h.born + D ≡ suc s.time) (z : h.copy ≡ 0) where
    abbrev new_mail : List Item
    new_mail = map (λ g. inquiry h.name g.name s.time) (others h.name s.heads)

    abbrev ma : List Item
    ma = s.mail ++ new_mail

    ask_in : {x : Item} → In x ma → In x s.mail ⊎ ((g : Head) × In g s.heads × (inquiry h.name g.name s.time ≡ x))
    ask_in x = go (in_either s.mail new_mail x)
      where
        go : {x : Item} → In x s.mail ⊎ In x new_mail → In x s.mail ⊎ ((g : Head) × In g s.heads × (inquiry h.name g.name s.time ≡ x))
        go (inl y) = inl y
        go (inr y) = let (g, j, e) = map_in (λ g. inquiry h.name g.name s.time) (others h.name s.heads) y in inr (g, (kept_in (λ g. not (eqb g.name h.name)) s.heads j).0, e)

    ask_stage : Stage D s.time (h.name ∷ rs) h → Stage D s.time rs (asking h)
    ask_stage (listens a b c u) = inquires refl b (omega arith) (inl (omega arith))
    ask_stage (inquires a b c u) = absurd (not_lis_inq p a)
    ask_stage (acts a b) = absurd (not_lis_act p a)

    ask_written : s.fin < s.top → Written s h → Written (changed s h (asking h) ma) (asking h)
    ask_written u (has_it w) = absurd (omega (arith, I.fin_some, I.fin_top))
    ask_written u (on_way x) = on_way (in_left _ x)
    ask_written u (too_new w₁ w₂ w₃) = absurd (omega (arith, I.writing u))

    new_inquiry : (g : Head) → In g s.heads → (a b t : ℕ) → inquiry h.name g.name s.time ≡ inquiry a b t → InquiryOk D (changed s h (asking h) ma) a b t
    new_inquiry g j a b t q =
        let e₁ : h.name ≡ a = cc in
        let e₂ : g.name ≡ b = cc in
        let e₃ : s.time ≡ t = cc in
        let o = I.heads_ok h i in
        let o' = I.heads_ok g j in
        record {
          from_below = omega arith;
          to_below = omega arith;
          past = omega arith;
          soon = omega arith;
          who = each_put (λ x. x.name ≡ a → (x.phase ≡ inquiring) × (suc t ≡ x.born + D)) h.name (asking h) s.heads (λ r. (refl, omega arith)) (λ x j ne r. absurd (ne (r ∙ sym e₁)));
        }

    ask_change : Change D s (h.name ∷ rs) rs h (asking h) ma
    ask_change = record {
      name_same = refl;
      born_same = refl;
      more = omega arith;
      ok = let o = I.heads_ok h i in record { named = o.named; low = o.low; high = o.high; best_low = o.best_low; best_high = o.best_high; early = o.early; stage = ask_stage o.stage };
      left = left_in;
      writes = λ v' a' b t' x. elim (ask_in x) [ inl y ↦ y | inr y ↦ absurd (write_not_inquiry (sym y.2)) ];
      inquiries = λ a' b t' x. elim (ask_in x) [ inl y ↦ inl (y, λ q. refl) | inr y ↦ inr (new_inquiry y.0 y.1 a' b t' y.2) ];
      replies = λ v' a' b t' x. elim (ask_in x) [ inl y ↦ inl (y, λ q. refl) | inr y ↦ absurd (inquiry_not_reply y.2) ];
      write_kept = λ v' a' b t' ne x. in_left _ x;
      inquiry_kept = λ a' b t' ne x. in_left _ x;
      reps = λ b j ne r. ask_reps b r;
      now_written = λ u. ask_written u (I.written h i u);
      asked_h = λ b j ne q _ c. asked_to D s.mail h b (λ t' x. mailed t' (in_left _ x)) (λ a x. kept (λ y. not_act_inq y refl) x) (λ r. answered (ask_reps b r)) c;
      h_asked = λ a j ne q u u'. mailed s.time (in_right s.mail (in_map (λ g. inquiry h.name g.name s.time) (in_kept (λ g. not (eqb g.name h.name)) s.heads j (wanted_other a.name h.name ne))));
      awaited = λ b j ne q a q'. absurd (not_lis_inq p q');
      due_h = λ q u. absurd (omega arith);
    }
      where
        ask_reps : (b : Head) → Rep D s.mail b → Rep D ma b
        ask_reps b = rep_mono D s.mail ma b b refl refl (omega arith) (λ v' a' t' x. inl (in_left _ x))

    ask_inv : Inv D k n rs (changed s h (asking h) ma)
    ask_inv = change_inv D k n s (h.name ∷ rs) rs I h (asking h) ma i ask_change

  -- h turns active with the copy c
  module _ (c : ℕ) (some : 0 < c) (low : s.fin ≤ c) (high : c ≤ s.top) (more : h.copy ≤ c) (silent : (b t : ℕ) → In (inquiry h.name b t) s.mail → ⊥) (wr : s.fin < s.top → (c ≡ s.top) ⊎ In (write s.top s.writer h.name s.begin) s.mail) where
    abbrev hc : Head
    hc = acting c h

    abbrev hs' : List Head
    hs' = map (put h.name hc) s.heads

    abbrev mc : List Item
    mc = filter (wanted h.name) s.mail ++ answers hs' h c s.time

    act_in : {x : Item} → In x mc → (In x s.mail × (wanted h.name x ≡ true)) ⊎ ((y : ℕ) × (isInquiring hs' y ≡ true) × (reply c h.name y s.time ≡ x))
    act_in x = go (in_either (filter (wanted h.name) s.mail) (answers hs' h c s.time) x)
      where
        go : {x : Item} → In x (filter (wanted h.name) s.mail) ⊎ In x (answers hs' h c s.time) → (In x s.mail × (wanted h.name x ≡ true)) ⊎ ((y : ℕ) × (isInquiring hs' y ≡ true) × (reply c h.name y s.time ≡ x))
        go (inl y) = inl (kept_in (wanted h.name) s.mail y)
        go (inr y) = let (g, j, e) = map_in (λ x. reply c h.name x s.time) (filter (isInquiring hs') h.held) y in inr (g, (kept_in (isInquiring hs') h.held j).1, e)

    act_old : {x : Item} → In x s.mail → wanted h.name x ≡ true → In x mc
    act_old x w = in_left _ (in_kept (wanted h.name) s.mail x w)

    -- who is inquiring after h has turned
    still : (y : ℕ) → isInquiring hs' y ≡ true → (g : Head) × In g s.heads × (g.name ≡ h.name → ⊥) × (g.name ≡ y) × (g.phase ≡ inquiring)
    still y e = let (g, j, q, w) = inq_has hs' y e in go g q w (put_in h.name hc s.heads j)
      where
        go : (g : Head) → g.name ≡ y → g.phase ≡ inquiring → (g ≡ hc) ⊎ (In g s.heads × (g.name ≡ h.name → ⊥)) → (g : Head) × In g s.heads × (g.name ≡ h.name → ⊥) × (g.name ≡ y) × (g.phase ≡ inquiring)
        go g q w (inl a) = absurd (not_act_inq refl (sym (ap (λ z. z.phase) a) ∙ w))
        go g q w (inr a) = (g, a.0, a.1, q, w)

    act_reply : (y : ℕ) → isInquiring hs' y ≡ true → (v a b t : ℕ) → reply c h.name y s.time ≡ reply v a b t → ReplyOk D (changed s h hc mc) v a b t
    act_reply y w v a b t q =
        let e₁ : c ≡ v = cc in
        let e₂ : h.name ≡ a = cc in
        let e₃ : y ≡ b = cc in
        let e₄ : s.time ≡ t = cc in
        go e₁ e₂ e₃ e₄ (still y w)
      where
        go : c ≡ v → h.name ≡ a → y ≡ b → s.time ≡ t → (g : Head) × In g s.heads × (g.name ≡ h.name → ⊥) × (g.name ≡ y) × (g.phase ≡ inquiring) → ReplyOk D (changed s h hc mc) v a b t
        go e₁ e₂ e₃ e₄ (g, j, ne, q, w) =
            let o = I.heads_ok h i in
            let o' = I.heads_ok g j in
            record {
              from_below = omega arith;
              to_below = omega arith;
              past = omega arith;
              soon = omega arith;
              some = omega arith;
              most = omega arith;
              who = each_put (λ x. x.name ≡ b → (x.phase ≡ inquiring) × ((s.fin ≤ v) ⊎ (s.fin ≤ x.copy))) h.name hc s.heads (λ r. absurd (ne (q ∙ e₃ ∙ sym r))) (λ x j' ne' r. (ap (λ z. z.phase) (unique s.heads I.apart j' j (r ∙ sym e₃ ∙ sym q)) ∙ w, inl (omega arith)));
            }

    answer : (b : Head) → In b s.heads → (b.name ≡ h.name → ⊥) → b.phase ≡ inquiring → In b.name h.held → suc s.time ≤ b.born + 2 * D → Rep D mc b
    answer b j ne q x u = coming c h.name s.time (in_right (filter (wanted h.name) s.mail) (in_map (λ x. reply c h.name x s.time) (in_kept (isInquiring hs') h.held x (has_inq hs' (in_put h.name hc s.heads j ne) q)))) u

    act_reps : (b : Head) → (b.name ≡ h.name → ⊥) → Rep D s.mail b → Rep D mc b
    act_reps b ne = rep_mono D s.mail mc b b refl refl (omega arith) (λ v' a' t' x. inl (act_old x (wanted_other b.name h.name ne)))

    act_change : Change D s (h.name ∷ rs) rs h hc mc
    act_change = record {
      name_same = refl;
      born_same = refl;
      more = more;
      ok = let o = I.heads_ok h i in record { named = o.named; low = inr low; high = high; best_low = inr (inr low); best_high = o.best_high; early = o.early; stage = acts refl some };
      left = left_in;
      writes = λ v' a' b t' x. elim (act_in x) [ inl y ↦ y.0 | inr y ↦ absurd (write_not_reply (sym y.2)) ];
      inquiries = λ a' b t' x. elim (act_in x) [ inl y ↦ inl (y.0, λ q. absurd (silent b t' (moved (λ z. In (inquiry z b t') s.mail) (sym q) y.0))) | inr y ↦ absurd (inquiry_not_reply (sym y.2)) ];
      replies = λ v' a' b t' x. elim (act_in x) [ inl y ↦ inl (y.0, λ q. absurd (other_wanted b h.name y.1 (sym q))) | inr y ↦ inr (act_reply y.0 y.1 v' a' b t' y.2) ];
      write_kept = λ v' a' b t' ne x. act_old x refl;
      inquiry_kept = λ a' b t' ne x. act_old x refl;
      reps = λ b j ne r. act_reps b ne r;
      now_written = λ u. elim (wr u) [ inl y ↦ has_it y | inr y ↦ on_way (act_old y refl) ];
      asked_h = λ b j ne q u a. asked_to D s.mail h b (λ t' x. mailed t' (act_old x refl)) (λ y x. answered (answer b j ne q x (omega arith))) (λ r. answered (act_reps b ne r)) a;
      h_asked = λ a j ne q. absurd (not_act_inq refl q);
      awaited = λ b j ne q a q' u x v. replied (answer b j ne q x (omega arith));
      due_h = λ q. absurd (not_act_inq refl q);
    }

    act_inv : Inv D k n rs (changed s h hc mc)
    act_inv = change_inv D k n s (h.name ∷ rs) rs I h hc mc i act_change

  -- h is not due
  module _ (nl : h.phase ≡ listening → h.born + D ≡ suc s.time → ⊥) (ni : h.phase ≡ inquiring → h.born + 3 * D ≡ suc s.time → ⊥) where
    is_h : (g : Head) → In g s.heads → h.name ≡ g.name → h ≡ g
    is_h g j e = unique s.heads I.apart i j e

    wait_stage : (g : Head) → In g s.heads → Stage D s.time (h.name ∷ rs) g → Stage D s.time rs g
    wait_stage g j (listens p q r (inl u)) = listens p q r (inl u)
    wait_stage g j (listens p q r (inr (u, there v))) = listens p q r (inr (u, v))
    wait_stage g j (listens p q r (inr (u, here v))) = absurd (moved (λ x. x.phase ≡ listening → x.born + D ≡ suc s.time → ⊥) (is_h g j v) nl p (sym u))
    wait_stage g j (inquires p q r (inl u)) = inquires p q r (inl u)
    wait_stage g j (inquires p q r (inr (u, there v))) = inquires p q r (inr (u, v))
    wait_stage g j (inquires p q r (inr (u, here v))) = absurd (moved (λ x. x.phase ≡ inquiring → x.born + 3 * D ≡ suc s.time → ⊥) (is_h g j v) ni p (sym u))
    wait_stage g j (acts p q) = acts p q

    wait_due : (b : Head) → Due D s (h.name ∷ rs) b → Due D s rs b
    wait_due b (replied r) = replied r
    wait_due b (awaits a j (there p) q r u v) = awaits a j p q r u v
    wait_due b (awaits a j (here p) q r u v) = absurd (moved (λ x. x.phase ≡ inquiring → x.born + 3 * D ≡ suc s.time → ⊥) (is_h a j p) ni q (sym r))

    wait_inv : Inv D k n rs s
    wait_inv = record {
      size = I.size;
      apart = I.apart;
      fin_some = I.fin_some;
      fin_top = I.fin_top;
      top_fin = I.top_fin;
      writing = I.writing;
      few = I.few;
      counted = I.counted;
      heads_ok = λ g j. let o = I.heads_ok g j in record { named = o.named; low = o.low; high = o.high; best_low = o.best_low; best_high = o.best_high; early = o.early; stage = wait_stage g j o.stage };
      written = I.written;
      writes_ok = I.writes_ok;
      inquiries_ok = I.inquiries_ok;
      replies_ok = I.replies_ok;
      asked = I.asked;
      due = λ b j e u. wait_due b (I.due b j e u);
    }

  wake_low : 0 < h.copy → (h.copy ≡ 0) ⊎ (s.fin ≤ h.copy) → s.fin ≤ h.copy
  wake_low c (inl z) = absurd (omega arith)
  wake_low c (inr z) = z

  wake_written : h.copy ≤ s.top → 0 < h.copy → Written s h → (h.copy ≡ s.top) ⊎ In (write s.top s.writer h.name s.begin) s.mail
  wake_written u c (has_it p) = inl p
  wake_written u c (on_way x) = inr x
  wake_written u c (too_new p q r) = absurd (omega arith)

  end_written : h.phase ≡ inquiring → h.best ≤ s.top → Written s h → (max h.copy h.best ≡ s.top) ⊎ In (write s.top s.writer h.name s.begin) s.mail
  end_written e u (has_it p) = inl (omega arith)
  end_written e u (on_way x) = inr x
  end_written e u (too_new p q r) = absurd (not_lis_inq p e)

  pub turn_inv : {s₁ : Site} → Turn D s h s₁ → Inv D k n rs s₁
  turn_inv (waits nl ni) = wait_inv nl ni
  turn_inv (wakes p d c) =
      let o = I.heads_ok h i in
      act_inv h.copy c (wake_low c o.low) o.high (omega arith) (λ b t x. not_lis_inq p ((I.inquiries_ok h.name b t x).who h i refl).0) (λ u. wake_written o.high c (I.written h i u))
  turn_inv (asks p d z) = ask_inv p d z
  turn_inv (ends p d c) =
      let o = I.heads_ok h i in
      act_inv (max h.copy h.best) c (omega arith) (omega arith) (omega arith) (λ b t x. let w = I.inquiries_ok h.name b t x in let w' = w.who h i refl in omega arith) (λ u. end_written p o.best_high (I.written h i u))
  turn_inv (strands p d z) = absurd (never_stranded D k n pos (h.name ∷ rs) s I h i p d z)
