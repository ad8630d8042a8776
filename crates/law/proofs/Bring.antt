-- An item is brought.
use Rattle.std.proofs.Common.{◌≡◌, ℕ, ◌<◌, ◌≤◌, max, ◌⊎◌, List, [], ◌∷◌, ◌++◌, sym, refl, ap, ◌∙◌, inl, inr, arith}
use Rattle.law.proofs.Coded.{In, here, there, Head, Site, inquiring, active, Item, write, inquiry, reply, with_mail, recopied, noted, with_held}
use Rattle.law.proofs.Base.{in_left, in_right, in_either, in_more, in_less, in_mid, each_put, put_self, moved}
use Rattle.law.proofs.Count.{unique}
use Rattle.law.proofs.Inv.{Stage, listens, inquires, acts, Written, has_it, on_way, too_new, WriteOk, InquiryOk, ReplyOk, Rep, has_best, coming, Asked, mailed, kept, answered, replied, Inv, rep_mono, asked_to, due_rest, not_act_inq, not_lis_inq, not_lis_act, write_not_inquiry, write_not_reply, inquiry_not_reply}
use Rattle.law.proofs.Change.{Change, changed, change_inv}

module _ (D k n : ℕ) (pos : 0 < D) (s : Site) (I : Inv D k n [] s) (h : Head) (i : In h s.heads) (xs ys : List Item) where
  module _ (y : Item) (e : s.mail ≡ xs ++ y ∷ ys) where
    back : {x : Item} → In x (xs ++ ys) → In x s.mail
    back {x} j = moved (λ z. In x z) (sym e) (in_more y xs ys j)

    ahead : {x : Item} → (y ≡ x → ⊥) → In x s.mail → In x (xs ++ ys)
    ahead {x} ne j = elim (in_less y xs ys (moved (λ z. In x z) e j)) [ inl q ↦ absurd (ne q) | inr q ↦ q ]

    taken : In y s.mail
    taken = moved (λ z. In y z) (sym e) (in_mid y xs ys refl)

  module _ (v a t : ℕ) (e : s.mail ≡ xs ++ write v a h.name t ∷ ys) where
    abbrev hw : Head
    hw = recopied (max h.copy v) h

    w_reps : (b b' : Head) → b'.name ≡ b.name → b'.born ≡ b.born → b.best ≤ b'.best → Rep D s.mail b → Rep D (xs ++ ys) b'
    w_reps b b' p q r = rep_mono D s.mail (xs ++ ys) b b' p q r (λ v' a' t' x. inl (ahead (write v a h.name t) e write_not_reply x))

    w_ok : WriteOk D s v a h.name t
    w_ok = I.writes_ok v a h.name t (taken (write v a h.name t) e)

    w_stage : Stage D s.time [] h → Stage D s.time [] hw
    w_stage (listens p q r u) = listens p q r u
    w_stage (inquires p q r u) = inquires p q r u
    w_stage (acts p q) = acts p (omega arith)

    w_change : Change D s [] [] h hw (xs ++ ys)
    w_change = record {
      name_same = refl;
      born_same = refl;
      more = omega arith;
      ok = let o = I.heads_ok h i in let w = w_ok in record { named = o.named; low = inr (omega arith); high = omega arith; best_low = inr (inr (omega arith)); best_high = o.best_high; early = o.early; stage = w_stage o.stage };
      left = λ g j ne x. x;
      writes = λ v' a' b t' x. back (write v a h.name t) e x;
      inquiries = λ a' b t' x. let x' = back (write v a h.name t) e x in inl (x', λ q. ((I.inquiries_ok a' b t' x').who h i q).0);
      replies = λ v' a' b t' x. let x' = back (write v a h.name t) e x in inl (x', λ q. ((I.replies_ok v' a' b t' x').who h i q).0);
      write_kept = λ v' a' b t' ne x. ahead (write v a h.name t) e (λ q. ne (cc)) x;
      inquiry_kept = λ a' b t' ne x. ahead (write v a h.name t) e write_not_inquiry x;
      reps = λ b j ne r. w_reps b b refl refl (omega arith) r;
      now_written = λ u. has_it (omega (arith, w_ok, (I.heads_ok h i).high));
      asked_h = λ b j ne q _ c. asked_to D s.mail h b (λ t' x. mailed t' (ahead (write v a h.name t) e write_not_inquiry x)) kept (λ r. answered (w_reps b b refl refl (omega arith) r)) c;
      h_asked = λ a' j ne q u u'. asked_to D s.mail a' h (λ t' x. mailed t' (ahead (write v a h.name t) e write_not_inquiry x)) kept (λ r. answered (w_reps h hw refl refl (omega arith) r)) (I.asked h a' i j q ne u u');
      awaited = λ b j ne q p. elim p [ ];
      due_h = λ q u. replied (w_reps h hw refl refl (omega arith) (due_rest D s h (I.due h i q u)));
    }

    pub write_inv : Inv D k n [] (changed s h hw (xs ++ ys))
    write_inv = change_inv D k n s [] [] I h hw (xs ++ ys) i w_change

  module _ (v a t : ℕ) (e : s.mail ≡ xs ++ reply v a h.name t ∷ ys) where
    abbrev hr : Head
    hr = noted v h

    r_ok : ReplyOk D s v a h.name t
    r_ok = I.replies_ok v a h.name t (taken (reply v a h.name t) e)

    r_stage : Stage D s.time [] h → Stage D s.time [] hr
    r_stage (listens p q r u) = absurd (not_lis_inq p (r_ok.who h i refl).0)
    r_stage (inquires p q r u) = inquires p q r u
    r_stage (acts p q) = acts p q

    r_best : (h.best ≡ 0) ⊎ ((s.fin ≤ h.best) ⊎ (s.fin ≤ h.copy)) → (s.fin ≤ v) ⊎ (s.fin ≤ h.copy) → (max h.best v ≡ 0) ⊎ ((s.fin ≤ max h.best v) ⊎ (s.fin ≤ h.copy))
    r_best p (inl q) = inr (inl (omega arith))
    r_best p (inr q) = inr (inr q)

    r_reps : (b : Head) → (b.name ≡ h.name → ⊥) → Rep D s.mail b → Rep D (xs ++ ys) b
    r_reps b ne = rep_mono D s.mail (xs ++ ys) b b refl refl (omega arith) (λ v' a' t' x. inl (ahead (reply v a h.name t) e (λ q. ne (cc)) x))

    r_rep_h : Rep D (xs ++ ys) hr
    r_rep_h = has_best (omega (arith, r_ok.some))

    r_change : Change D s [] [] h hr (xs ++ ys)
    r_change = record {
      name_same = refl;
      born_same = refl;
      more = omega arith;
      ok = let o = I.heads_ok h i in record { named = o.named; low = o.low; high = o.high; best_low = r_best o.best_low (r_ok.who h i refl).1; best_high = omega (arith, o.best_high, r_ok.most); early = o.early; stage = r_stage o.stage };
      left = λ g j ne x. x;
      writes = λ v' a' b t' x. back (reply v a h.name t) e x;
      inquiries = λ a' b t' x. let x' = back (reply v a h.name t) e x in inl (x', λ q. ((I.inquiries_ok a' b t' x').who h i q).0);
      replies = λ v' a' b t' x. let x' = back (reply v a h.name t) e x in inl (x', λ q. ((I.replies_ok v' a' b t' x').who h i q).0);
      write_kept = λ v' a' b t' ne x. ahead (reply v a h.name t) e (λ q. write_not_reply (sym q)) x;
      inquiry_kept = λ a' b t' ne x. ahead (reply v a h.name t) e (λ q. inquiry_not_reply (sym q)) x;
      reps = λ b j ne r. r_reps b ne r;
      now_written = λ u. go (I.written h i u);
      asked_h = λ b j ne q _ c. asked_to D s.mail h b (λ t' x. mailed t' (ahead (reply v a h.name t) e (λ q. inquiry_not_reply (sym q)) x)) kept (λ r. answered (r_reps b ne r)) c;
      h_asked = λ a' j ne q u u'. answered r_rep_h;
      awaited = λ b j ne q p. elim p [ ];
      due_h = λ q u. replied r_rep_h;
    }
      where
        go : Written s h → Written (changed s h hr (xs ++ ys)) hr
        go (has_it p) = has_it p
        go (on_way x) = on_way (ahead (reply v a h.name t) e (λ q. write_not_reply (sym q)) x)
        go (too_new p q r) = too_new p q r

    pub reply_inv : Inv D k n [] (changed s h hr (xs ++ ys))
    reply_inv = change_inv D k n s [] [] I h hr (xs ++ ys) i r_change

  module _ (a t : ℕ) (e : s.mail ≡ xs ++ inquiry a h.name t ∷ ys) where
    q_ok : InquiryOk D s a h.name t
    q_ok = I.inquiries_ok a h.name t (taken (inquiry a h.name t) e)

    q_reps : (b b' : Head) → b'.name ≡ b.name → b'.born ≡ b.born → b.best ≤ b'.best → Rep D s.mail b → Rep D (xs ++ ys) b'
    q_reps b b' p q r = rep_mono D s.mail (xs ++ ys) b b' p q r (λ v' a' t' x. inl (ahead (inquiry a h.name t) e inquiry_not_reply x))

    -- an inquiry is the one that is brought, or it stays
    q_same : {a' b' t' : ℕ} → In (inquiry a' b' t') s.mail → ((a ≡ a') × (h.name ≡ b') × (t ≡ t')) ⊎ In (inquiry a' b' t') (xs ++ ys)
    q_same {a'} {b'} {t'} x = elim (in_less (inquiry a h.name t) xs ys (moved (λ z. In (inquiry a' b' t') z) e x)) [ inl q ↦ inl (cc, cc, cc) | inr q ↦ inr q ]

    q_written : (m : List Item) (h' : Head) → h'.name ≡ h.name → h'.phase ≡ h.phase → h'.born ≡ h.born → h'.copy ≡ h.copy → ((x : Item) → In x (xs ++ ys) → In x m) → Written s h → Written (changed s h h' m) h'
    q_written m h' p q r u f (has_it w) = has_it (u ∙ w)
    q_written m h' p q r u f (on_way x) = on_way (f _ (ahead (inquiry a h.name t) e (λ q. write_not_inquiry (sym q)) (moved (λ z. In (write s.top s.writer z s.begin) s.mail) (sym p) x)))
    q_written m h' p q r u f (too_new x y z) = too_new (q ∙ x) (omega arith) (u ∙ z)

    -- held: the names it held, and a
    module _ (ks : List ℕ) (keeps : (x : ℕ) → In x h.held → In x ks) (has-a : In a ks) where
      abbrev hq : Head
      hq = with_held ks h

      q_stage : Stage D s.time [] h → Stage D s.time [] hq
      q_stage (listens p q r u) = listens p q r u
      q_stage (inquires p q r u) = inquires p q r u
      q_stage (acts p q) = acts p q

      q_change : (h.phase ≡ active → ⊥) → Change D s [] [] h hq (xs ++ ys)
      q_change na = record {
        name_same = refl;
        born_same = refl;
        more = omega arith;
        ok = let o = I.heads_ok h i in record { named = o.named; low = o.low; high = o.high; best_low = o.best_low; best_high = o.best_high; early = o.early; stage = q_stage o.stage };
        left = λ g j ne x. x;
        writes = λ v' a' b t' x. back (inquiry a h.name t) e x;
        inquiries = λ a' b t' x. let x' = back (inquiry a h.name t) e x in inl (x', λ q. ((I.inquiries_ok a' b t' x').who h i q).0);
        replies = λ v' a' b t' x. let x' = back (inquiry a h.name t) e x in inl (x', λ q. ((I.replies_ok v' a' b t' x').who h i q).0);
        write_kept = λ v' a' b t' ne x. ahead (inquiry a h.name t) e (λ q. write_not_inquiry (sym q)) x;
        inquiry_kept = λ a' b t' ne x. ahead (inquiry a h.name t) e (λ q. ne (cc)) x;
        reps = λ b j ne r. q_reps b b refl refl (omega arith) r;
        now_written = λ u. q_written (xs ++ ys) hq refl refl refl refl (λ _ x. x) (I.written h i u);
        asked_h = λ b j ne q _ c. asked_to D s.mail h b (λ t' x. elim (q_same x) [ inl w ↦ kept na (moved (λ z. In z ks) w.0 has-a) | inr w ↦ mailed t' w ]) (λ p x. kept p (keeps b.name x)) (λ r. answered (q_reps b b refl refl (omega arith) r)) c;
        h_asked = λ a' j ne q u u'. asked_to D s.mail a' h (λ t' x. elim (q_same x) [ inl w ↦ absurd (ne (sym w.1)) | inr w ↦ mailed t' w ]) kept (λ r. answered (q_reps h hq refl refl (omega arith) r)) (I.asked h a' i j q ne u u');
        awaited = λ b j ne q p. elim p [ ];
        due_h = λ q u. replied (q_reps h hq refl refl (omega arith) (due_rest D s h (I.due h i q u)));
      }

      pub held_inv : (h.phase ≡ active → ⊥) → Inv D k n [] (changed s h hq (xs ++ ys))
      held_inv na = change_inv D k n s [] [] I h hq (xs ++ ys) i (q_change na)

    -- answered at once
    abbrev mq : List Item
    mq = (xs ++ ys) ++ reply h.copy h.name a s.time ∷ []

    act_copy : h.phase ≡ active → Stage D s.time [] h → 0 < h.copy
    act_copy p (listens q u r w) = absurd (not_lis_act q p)
    act_copy p (inquires q u r w) = absurd (not_act_inq p q)
    act_copy p (acts q u) = u

    q_in : {x : Item} → In x mq → In x s.mail ⊎ (reply h.copy h.name a s.time ≡ x)
    q_in x = go (in_either (xs ++ ys) (reply h.copy h.name a s.time ∷ []) x)
      where
        go : {x : Item} → In x (xs ++ ys) ⊎ In x (reply h.copy h.name a s.time ∷ []) → In x s.mail ⊎ (reply h.copy h.name a s.time ≡ x)
        go (inl y) = inl (back (inquiry a h.name t) e y)
        go (inr (here q)) = inr q
        go (inr (there q)) = elim q [ ]

    -- the new reply
    new_reply : h.phase ≡ active → (v a' b t' : ℕ) → reply h.copy h.name a s.time ≡ reply v a' b t' → ReplyOk D (changed s h h mq) v a' b t'
    new_reply p v a' b t' q =
        let e₁ : h.copy ≡ v = cc in
        let e₂ : h.name ≡ a' = cc in
        let e₃ : a ≡ b = cc in
        let e₄ : s.time ≡ t' = cc in
        let o = I.heads_ok h i in
        let c = act_copy p o.stage in
        let w = q_ok in
        record {
          from_below = omega arith;
          to_below = omega arith;
          past = omega arith;
          soon = omega arith;
          some = omega arith;
          most = omega arith;
          who = each_put (λ g. g.name ≡ b → (g.phase ≡ inquiring) × ((s.fin ≤ v) ⊎ (s.fin ≤ g.copy))) h.name h s.heads (λ r. absurd (not_act_inq p (w.who h i (r ∙ sym e₃)).0)) (λ g j ne r. ((w.who g j (r ∙ sym e₃)).0, inl (omega arith)));
        }

    a_change : h.phase ≡ active → Change D s [] [] h h mq
    a_change p = record {
      name_same = refl;
      born_same = refl;
      more = omega arith;
      ok = let o = I.heads_ok h i in record { named = o.named; low = o.low; high = o.high; best_low = o.best_low; best_high = o.best_high; early = o.early; stage = o.stage };
      left = λ g j ne x. x;
      writes = λ v' a' b t' x. elim (q_in x) [ inl y ↦ y | inr y ↦ absurd (write_not_reply (sym y)) ];
      inquiries = λ a' b t' x. elim (q_in x) [ inl y ↦ inl (y, λ q. ((I.inquiries_ok a' b t' y).who h i q).0) | inr y ↦ absurd (inquiry_not_reply (sym y)) ];
      replies = λ v' a' b t' x. elim (q_in x) [ inl y ↦ inl (y, λ q. ((I.replies_ok v' a' b t' y).who h i q).0) | inr y ↦ inr (new_reply p v' a' b t' y) ];
      write_kept = λ v' a' b t' ne x. in_left _ (ahead (inquiry a h.name t) e (λ q. write_not_inquiry (sym q)) x);
      inquiry_kept = λ a' b t' ne x. in_left _ (ahead (inquiry a h.name t) e (λ q. ne (cc)) x);
      reps = λ b j ne r. a_reps b r;
      now_written = λ u. q_written mq h refl refl refl refl (λ _ x. in_left _ x) (I.written h i u);
      asked_h = λ b j ne q _ c. asked_to D s.mail h b (λ t' x. elim (q_same x) [ inl w ↦ a_new b j w | inr w ↦ mailed t' (in_left _ w) ]) kept (λ r. answered (a_reps b r)) c;
      h_asked = λ a' j ne q u u'. absurd (not_act_inq p q);
      awaited = λ b j ne q p. elim p [ ];
      due_h = λ q u. absurd (not_act_inq p q);
    }
      where
        a_reps : (b : Head) → Rep D s.mail b → Rep D mq b
        a_reps b = rep_mono D s.mail mq b b refl refl (omega arith) (λ v' a' t' x. inl (in_left _ (ahead (inquiry a h.name t) e inquiry_not_reply x)))

        a_new : (b : Head) → In b s.heads → {t' : ℕ} → (a ≡ b.name) × (h.name ≡ h.name) × (t ≡ t') → Asked D mq h b
        a_new b j w =
            let o = q_ok.who b j (sym w.0) in
            answered (coming h.copy h.name s.time (in_right (xs ++ ys) (here (ap (λ z. reply h.copy h.name z s.time) w.0))) (omega (arith, q_ok.soon)))

    pub answer_inv : h.phase ≡ active → Inv D k n [] (with_mail s s.heads mq)
    answer_inv p = moved (λ z. Inv D k n [] (with_mail s z mq)) (put_self h.name h s.heads (λ g j q. unique s.heads I.apart j i q)) (change_inv D k n s [] [] I h h mq i (a_change p))
