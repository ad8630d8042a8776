-- One head changes, and the mail: what keeps the invariant.
use Rattle.std.proofs.Common.{◌≡◌, ℕ, suc, ◌+◌, ◌*◌, ◌<◌, ◌≤◌, ◌⊎◌, List, map, sym, refl, ap, ◌∙◌, inl, inr, arith}
use Rattle.std.proofs.lemmas.Bool.{cases_eq}
use Rattle.std.proofs.lemmas.List.{length-map}
use Rattle.law.proofs.Coded.{In, Head, Site, inquiring, Item, write, inquiry, reply, put, with_mail}
use Rattle.law.proofs.Base.{in_put, each_put, moved, Put, at_r, not_r, put_is}
use Rattle.law.proofs.Count.{late_map, distinct_put, unique}
use Rattle.law.proofs.Inv.{Stage, listens, inquires, acts, HeadOk, Written, has_it, on_way, too_new, WriteOk, InquiryOk, ReplyOk, Rep, Asked, mailed, kept, answered, Due, replied, awaits, Inv}

abbrev pub changed : Site → Head → Head → List Item → Site
changed s h h' m = with_mail s (map (put h.name h') s.heads) m

pub record Change (D : ℕ) (s : Site) (todo todo' : List ℕ) (h h' : Head) (m : List Item) : Type 0 where
  pub name_same : h'.name ≡ h.name
  pub born_same : h'.born ≡ h.born
  pub more : h.copy ≤ h'.copy
  pub ok : HeadOk D (changed s h h' m) todo' h'
  pub left : (g : Head) → In g s.heads → (g.name ≡ h.name → ⊥) → In g.name todo → In g.name todo'
  pub writes : (v a b t : ℕ) → In (write v a b t) m → In (write v a b t) s.mail
  pub inquiries : (a b t : ℕ) → In (inquiry a b t) m → (In (inquiry a b t) s.mail × (h.name ≡ a → h'.phase ≡ inquiring)) ⊎ InquiryOk D (changed s h h' m) a b t
  pub replies : (v a b t : ℕ) → In (reply v a b t) m → (In (reply v a b t) s.mail × (h.name ≡ b → h'.phase ≡ inquiring)) ⊎ ReplyOk D (changed s h h' m) v a b t
  pub write_kept : (v a b t : ℕ) → (b ≡ h.name → ⊥) → In (write v a b t) s.mail → In (write v a b t) m
  pub inquiry_kept : (a b t : ℕ) → (b ≡ h.name → ⊥) → In (inquiry a b t) s.mail → In (inquiry a b t) m
  pub reps : (b : Head) → In b s.heads → (b.name ≡ h.name → ⊥) → Rep D s.mail b → Rep D m b
  pub now_written : s.fin < s.top → Written (changed s h h' m) h'
  pub asked_h : (b : Head) → In b s.heads → (b.name ≡ h.name → ⊥) → b.phase ≡ inquiring → suc s.time < b.born + 2 * D → Asked D s.mail h b → Asked D m h' b
  pub h_asked : (a : Head) → In a s.heads → (a.name ≡ h.name → ⊥) → h'.phase ≡ inquiring → a.born < h.born + D → suc s.time < h.born + 2 * D → Asked D m a h'
  pub awaited : (b : Head) → In b s.heads → (b.name ≡ h.name → ⊥) → b.phase ≡ inquiring → In h.name todo → h.phase ≡ inquiring → suc s.time ≡ h.born + 3 * D → In b.name h.held → suc s.time ≡ b.born + 2 * D → Due D (changed s h h' m) todo' b
  pub due_h : h'.phase ≡ inquiring → h.born + 2 * D ≤ suc s.time → Due D (changed s h h' m) todo' h'

module _ (D k n : ℕ) (s : Site) (todo todo' : List ℕ) (I : Inv D k n todo s) (h h' : Head) (m : List Item) (i : In h s.heads) (C : Change D s todo todo' h h' m) where
  abbrev s' : Site
  s' = changed s h h' m

  same_born : (g : Head) → In g s.heads → (put h.name h' g).born ≡ g.born
  same_born g j = go (put_is h.name h' g)
    where
      go : {y : Head} → Put h.name h' g y → y.born ≡ g.born
      go (at_r p) = C.born_same ∙ ap (λ z. z.born) (sym (unique s.heads I.apart j i p))
      go (not_r p) = refl

  ch_stage : (g : Head) → In g s.heads → (g.name ≡ h.name → ⊥) → Stage D s.time todo g → Stage D s.time todo' g
  ch_stage g j ne (listens p q r (inl u)) = listens p q r (inl u)
  ch_stage g j ne (listens p q r (inr u)) = listens p q r (inr (u.0, C.left g j ne u.1))
  ch_stage g j ne (inquires p q r (inl u)) = inquires p q r (inl u)
  ch_stage g j ne (inquires p q r (inr u)) = inquires p q r (inr (u.0, C.left g j ne u.1))
  ch_stage g j ne (acts p q) = acts p q

  ch_head : (g : Head) → In g s.heads → (g.name ≡ h.name → ⊥) → HeadOk D s' todo' g
  ch_head g j ne = let o = I.heads_ok g j in record { named = o.named; low = o.low; high = o.high; best_low = o.best_low; best_high = o.best_high; early = o.early; stage = ch_stage g j ne o.stage }

  ch_written : (g : Head) → In g s.heads → (g.name ≡ h.name → ⊥) → s.fin < s.top → Written s' g
  ch_written g j ne u = go (I.written g j u)
    where
      go : Written s g → Written s' g
      go (has_it p) = has_it p
      go (on_way x) = on_way (C.write_kept _ _ _ _ ne x)
      go (too_new p q r) = too_new p q r

  ch_write : (v a b t : ℕ) → In (write v a b t) m → WriteOk D s' v a b t
  ch_write v a b t x = let o = I.writes_ok v a b t (C.writes v a b t x) in record { from_below = o.from_below; to_below = o.to_below; past = o.past; soon = o.soon; is_top = o.is_top; is_writer = o.is_writer; is_begin = o.is_begin; under = o.under }

  ch_inquiry : (a b t : ℕ) → In (inquiry a b t) m → InquiryOk D s' a b t
  ch_inquiry a b t x = go (C.inquiries a b t x)
    where
      go : (In (inquiry a b t) s.mail × (h.name ≡ a → h'.phase ≡ inquiring)) ⊎ InquiryOk D s' a b t → InquiryOk D s' a b t
      go (inr o) = o
      go (inl q) =
          let o = I.inquiries_ok a b t q.0 in
          record {
            from_below = o.from_below;
            to_below = o.to_below;
            past = o.past;
            soon = o.soon;
            who = each_put (λ g. g.name ≡ a → (g.phase ≡ inquiring) × (suc t ≡ g.born + D)) h.name h' s.heads (λ e. let e' = sym C.name_same ∙ e in (q.1 e', (o.who h i e').1 ∙ ap (λ z. z + D) (sym C.born_same))) (λ g j ne e. o.who g j e);
          }

  ch_reply : (v a b t : ℕ) → In (reply v a b t) m → ReplyOk D s' v a b t
  ch_reply v a b t x = go (C.replies v a b t x)
    where
      most_of : (s.fin ≤ v) ⊎ (s.fin ≤ h.copy) → (s.fin ≤ v) ⊎ (s.fin ≤ h'.copy)
      most_of (inl u) = inl u
      most_of (inr u) = inr (omega (arith, C.more))

      go : (In (reply v a b t) s.mail × (h.name ≡ b → h'.phase ≡ inquiring)) ⊎ ReplyOk D s' v a b t → ReplyOk D s' v a b t
      go (inr o) = o
      go (inl q) =
          let o = I.replies_ok v a b t q.0 in
          record {
            from_below = o.from_below;
            to_below = o.to_below;
            past = o.past;
            soon = o.soon;
            some = o.some;
            most = o.most;
            who = each_put (λ g. g.name ≡ b → (g.phase ≡ inquiring) × ((s.fin ≤ v) ⊎ (s.fin ≤ g.copy))) h.name h' s.heads (λ e. let e' = sym C.name_same ∙ e in (q.1 e', most_of (o.who h i e').1)) (λ g j ne e. o.who g j e);
          }

  abbrev AskedT : Head → Head → Type 0
  AskedT b a = b.phase ≡ inquiring → (a.name ≡ b.name → ⊥) → a.born < b.born + D → suc s.time < b.born + 2 * D → Asked D m a b

  ch_asked : (b a : Head) → In b s'.heads → In a s'.heads → AskedT b a
  ch_asked b a ib ia =
      each_put (λ b. (a : Head) → In a s'.heads → AskedT b a) h.name h' s.heads
      (each_put (λ a. AskedT h' a) h.name h' s.heads (λ e ne. absurd (ne refl)) (λ a j na e ne u v. C.h_asked a j na e (omega (arith, C.born_same)) (omega (arith, C.born_same))))
      (λ b j nb. each_put (λ a. AskedT b a) h.name h' s.heads
      (λ e ne u v. C.asked_h b j nb e v (I.asked b h j i e (λ q. nb (sym q)) (omega (arith, C.born_same)) v))
      (λ a j' na e ne u v. go a b j nb na (I.asked b a j j' e ne u v)))
      b ib a ia
    where
      go : (a b : Head) → In b s.heads → (b.name ≡ h.name → ⊥) → (a.name ≡ h.name → ⊥) → Asked D s.mail a b → Asked D m a b
      go a b j nb na (mailed t x) = mailed t (C.inquiry_kept b.name a.name t na x)
      go a b j nb na (kept p q) = kept p q
      go a b j nb na (answered r) = answered (C.reps b j nb r)

  ch_due : (b : Head) → In b s'.heads → b.phase ≡ inquiring → b.born + 2 * D ≤ suc s.time → Due D s' todo' b
  ch_due = each_put (λ b. b.phase ≡ inquiring → b.born + 2 * D ≤ suc s.time → Due D s' todo' b) h.name h' s.heads (λ e u. C.due_h e (omega (arith, C.born_same))) (λ b j ne e u. go b j ne e (I.due b j e u))
    where
      go : (b : Head) → In b s.heads → (b.name ≡ h.name → ⊥) → b.phase ≡ inquiring → Due D s todo b → Due D s' todo' b
      go b j ne e (replied r) = replied (C.reps b j ne r)
      go b j ne e (awaits a ia p q r u v) = elim (cases_eq a.name h.name) [ inl w ↦ moved (λ z. In z.name todo → z.phase ≡ inquiring → suc s.time ≡ z.born + 3 * D → In b.name z.held → suc s.time ≡ b.born + 2 * D → Due D s' todo' b) (sym (unique s.heads I.apart ia i w)) (C.awaited b j ne e) p q r u v | inr w ↦ awaits a (in_put h.name h' s.heads ia w) (C.left a ia w p) q r u v ]

  pub change_inv : Inv D k n todo' s'
  change_inv = record {
    size = length-map s.heads (put h.name h') ∙ I.size;
    apart = distinct_put h.name h' s.heads (λ g j ne e. ne (e ∙ C.name_same)) I.apart;
    fin_some = I.fin_some;
    fin_top = I.fin_top;
    top_fin = I.top_fin;
    writing = I.writing;
    few = I.few;
    counted = λ x le. rw (late_map x (put h.name h') s.heads same_born) (I.counted x le);
    heads_ok = each_put (HeadOk D s' todo') h.name h' s.heads C.ok ch_head;
    written = each_put (λ g. s.fin < s.top → Written s' g) h.name h' s.heads C.now_written ch_written;
    writes_ok = ch_write;
    inquiries_ok = ch_inquiry;
    replies_ok = ch_reply;
    asked = ch_asked;
    due = ch_due;
  }
