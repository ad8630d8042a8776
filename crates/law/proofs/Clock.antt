-- The clock moves on: every head is then yet to turn.
use Rattle.std.proofs.Common.{◌≡◌, ℕ, suc, ◌+◌, ◌-◌, ◌*◌, ◌<◌, ◌≤◌, Bool, true, false, cond, eqb, ◌⊎◌, List, [], length, sym, refl, ap, inl, inr, mul-le-mul_right, arith}
use Rattle.std.proofs.lemmas.Bool.{cases_lt, eqb-true, eqb-false}
use Rattle.law.proofs.Coded.{In, Head, Site, listening, inquiring, Item, write, inquiry, reply, sentAt, clock, names}
use Rattle.law.proofs.Base.{in_map}
use Rattle.law.proofs.Count.{late, late_zero, unique, early_one}
use Rattle.law.proofs.Inv.{Stage, listens, inquires, acts, HeadOk, Written, has_it, on_way, too_new, WriteOk, InquiryOk, ReplyOk, Asked, mailed, kept, answered, Due, replied, awaits, Inv, not_act_inq, not_lis_inq, not_lis_act}

-- the pigeonhole at the tick that ends b's first D ticks: a head that is not in the window of (3 D − 1) ticks
pub old_one : (D k n t x swaps : ℕ) (hs : List Head) → length hs ≡ n → (3 * D - 1) * k < n → late x hs ≤ (t - x) * k + swaps → swaps ≤ k → suc (t - x) ≤ 3 * D - 1 → (h : Head) × In h hs × (h.born ≤ x)
old_one D k n t x swaps hs size lt count few window =
    early_one x hs (omega (arith, mul-le-mul_right k window))

module _ (D k n : ℕ) (pos : 0 < D) (lt : (3 * D - 1) * k < n) (s : Site) (I : Inv D k n [] s) (free : (x : Item) → In x s.mail → sentAt x + D ≡ suc s.time → ⊥) where
  abbrev at_fin : ℕ → Site
  at_fin f = record { heads = s.heads; mail = s.mail; time = suc s.time; swaps = 0; fin = f; top = s.top; writer = s.writer; begin = s.begin; next = s.next }

  abbrev Closing : ℕ → Type 0
  Closing f = ((f ≡ s.top) × (s.begin + D ≡ suc s.time)) ⊎ ((f ≡ s.fin) × (s.begin + D ≡ suc s.time → ⊥))

  pending : {h : Head} → In h s.heads → In h.name (names s.heads)
  pending i = in_map (λ h. h.name) i

  -- the key step: an old head a answers b by now, or turns in this tick
  tick_ask : (f : ℕ) (a b : Head) → In b s.heads → In a s.heads → a.born ≤ b.born - D → b.phase ≡ inquiring → b.born + 2 * D ≡ suc (suc s.time) → Stage D s.time [] a → Asked D s.mail a b → Due D (at_fin f) (names s.heads) b
  tick_ask f a b i j le e now st (mailed t m) =
      let w = (I.inquiries_ok b.name a.name t m).who b i refl in
      absurd (free (inquiry b.name a.name t) m (omega arith))
  tick_ask f a b i j le e now (listens p q r (inl u)) (kept ne h) = absurd (omega arith)
  tick_ask f a b i j le e now (listens p q r (inr u)) (kept ne h) = elim u.1 [ ]
  tick_ask f a b i j le e now (inquires p q r (inl u)) (kept ne h) = awaits a j (pending j) p (omega arith) h (sym now)
  tick_ask f a b i j le e now (inquires p q r (inr u)) (kept ne h) = elim u.1 [ ]
  tick_ask f a b i j le e now (acts p q) (kept ne h) = absurd (ne p)
  tick_ask f a b i j le e now st (answered r) = replied r

  -- an inquiring head was born
  inq_born : (b : Head) → b.phase ≡ inquiring → Stage D s.time [] b → 0 < b.born
  inq_born b e (listens p q r u) = q
  inq_born b e (inquires p q r u) = q
  inq_born b e (acts p q) = absurd (not_act_inq p e)

  tick_now : (f : ℕ) (b : Head) → In b s.heads → b.phase ≡ inquiring → b.born + 2 * D ≡ suc (suc s.time) → Due D (at_fin f) (names s.heads) b
  tick_now f b i e now = go (old_one D k n s.time (b.born - D) s.swaps s.heads I.size lt (I.counted (b.born - D) (omega (arith, early))) I.few (omega (arith, some)))
    where
      some : 0 < b.born
      some = inq_born b e (I.heads_ok b i).stage

      early : b.born ≤ suc s.time
      early = (I.heads_ok b i).early

      go : (a : Head) × In a s.heads × (a.born ≤ b.born - D) → Due D (at_fin f) (names s.heads) b
      go (a, j, le) = tick_ask f a b i j le e now (I.heads_ok a j).stage (I.asked b a i j e (λ q. let g = ap (λ z. z.born) (unique s.heads I.apart j i q) in omega (arith, some)) (omega arith) (omega arith))

  tick_due : (f : ℕ) (b : Head) → In b s.heads → b.phase ≡ inquiring → b.born + 2 * D ≤ suc (suc s.time) → Due D (at_fin f) (names s.heads) b
  tick_due f b i e le = elim (cases_lt (suc s.time) (b.born + 2 * D)) [ inl u ↦ tick_now f b i e (omega arith) | inr u ↦ go (I.due b i e u) ]
    where
      go : Due D s [] b → Due D (at_fin f) (names s.heads) b
      go (replied r) = replied r
      go (awaits a j p q r u v) = elim p [ ]

  -- a head that is not too new has the top stamp when the write is due
  done : (h : Head) → In h s.heads → s.begin + D ≡ suc s.time → s.fin < s.top → (h.copy ≡ s.top) ⊎ ((h.phase ≡ listening) × (h.copy ≡ 0))
  done h i e u = go (I.written h i u)
    where
      go : Written s h → (h.copy ≡ s.top) ⊎ ((h.phase ≡ listening) × (h.copy ≡ 0))
      go (has_it p) = inl p
      go (on_way m) = absurd (free (write s.top s.writer h.name s.begin) m e)
      go (too_new p q r) = inr (p, r)

  tick_stage : (h : Head) → In h s.heads → Stage D s.time [] h → Stage D (suc s.time) (names s.heads) h
  tick_stage h i (listens p q r (inl u)) = listens p q r (elim (cases_lt (suc (suc s.time)) (h.born + D)) [ inl v ↦ inl v | inr v ↦ inr (omega arith, pending i) ])
  tick_stage h i (listens p q r (inr u)) = elim u.1 [ ]
  tick_stage h i (inquires p q r (inl u)) = inquires p q (omega arith) (elim (cases_lt (suc (suc s.time)) (h.born + 3 * D)) [ inl v ↦ inl v | inr v ↦ inr (omega arith, pending i) ])
  tick_stage h i (inquires p q r (inr u)) = elim u.1 [ ]
  tick_stage h i (acts p q) = acts p q

  lis_best : (h : Head) → h.phase ≡ listening → Stage D s.time [] h → h.best ≡ 0
  lis_best h e (listens p q r u) = r
  lis_best h e (inquires p q r u) = absurd (not_lis_inq e p)
  lis_best h e (acts p q) = absurd (not_lis_act e p)

  tick_count : (x : ℕ) → x ≤ suc s.time → late x s.heads ≤ (suc s.time - x) * k + 0
  tick_count x le = elim (cases_lt s.time x) [ inl u ↦ omega (arith, late_zero x s.heads (λ g i. (omega (arith, (I.heads_ok g i).early)))) | inr u ↦ go (s.time - x) refl (suc s.time - x) (omega arith) (I.counted x u) ]
    where
      go : (d : ℕ) → s.time - x ≡ d → (d' : ℕ) → d' ≡ suc d → late x s.heads ≤ d * k + s.swaps → late x s.heads ≤ d' * k + 0
      go d e d' e' c = rw e' (omega (arith, I.few))

  module _ (f : ℕ) (cl : Closing f) where
    f_bounds : (0 < f) × (f ≤ s.top) × (s.top ≤ suc f) × (s.fin ≤ f)
    f_bounds = elim cl [ inl c ↦ omega (arith, c, I.fin_some, I.fin_top, I.top_fin) | inr c ↦ omega (arith, c.0, I.fin_some, I.fin_top, I.top_fin) ]

    tick_writing : f < s.top → (s.begin ≤ suc s.time) × (suc s.time < s.begin + D)
    tick_writing u = elim cl [ inl c ↦ absurd (omega arith) | inr c ↦ let w = I.writing (omega arith) in (omega arith, omega arith) ]

    tick_low : (h : Head) → In h s.heads → (h.copy ≡ 0) ⊎ (f ≤ h.copy)
    tick_low h i = go cl (cases_lt s.fin s.top) (I.heads_ok h i).low
      where
        go : Closing f → (s.fin < s.top) ⊎ (s.top ≤ s.fin) → (h.copy ≡ 0) ⊎ (s.fin ≤ h.copy) → (h.copy ≡ 0) ⊎ (f ≤ h.copy)
        go c u (inl z) = inl z
        go (inl c) (inl u) (inr g) = elim (done h i c.1 u) [ inl d ↦ inr (omega arith) | inr d ↦ inl d.1 ]
        go (inl c) (inr u) (inr g) = inr (omega arith)
        go (inr c) u (inr g) = inr (omega arith)

    tick_best : (h : Head) → In h s.heads → (h.best ≡ 0) ⊎ ((f ≤ h.best) ⊎ (f ≤ h.copy))
    tick_best h i = go cl (cases_lt s.fin s.top) (I.heads_ok h i).best_low
      where
        go : Closing f → (s.fin < s.top) ⊎ (s.top ≤ s.fin) → (h.best ≡ 0) ⊎ ((s.fin ≤ h.best) ⊎ (s.fin ≤ h.copy)) → (h.best ≡ 0) ⊎ ((f ≤ h.best) ⊎ (f ≤ h.copy))
        go c u (inl z) = inl z
        go (inl c) (inl u) (inr g) = elim (done h i c.1 u) [ inl d ↦ inr (inr (omega arith)) | inr d ↦ inl (lis_best h d.0 (I.heads_ok h i).stage) ]
        go (inl c) (inr u) (inr (inl g)) = inr (inl (omega arith))
        go (inl c) (inr u) (inr (inr g)) = inr (inr (omega arith))
        go (inr c) u (inr (inl g)) = inr (inl (omega arith))
        go (inr c) u (inr (inr g)) = inr (inr (omega arith))

    tick_head : (h : Head) → In h s.heads → HeadOk D (at_fin f) (names s.heads) h
    tick_head h i = let o = I.heads_ok h i in record { named = o.named; low = tick_low h i; high = o.high; best_low = tick_best h i; best_high = o.best_high; early = omega (arith, o.early); stage = tick_stage h i o.stage }

    tick_written : (h : Head) → In h s.heads → f < s.top → Written (at_fin f) h
    tick_written h i u = go (I.written h i (omega (arith, f_bounds)))
      where
        go : Written s h → Written (at_fin f) h
        go (has_it p) = has_it p
        go (on_way m) = on_way m
        go (too_new p q r) = too_new p q r

    tick_write : (v a b t : ℕ) → In (write v a b t) s.mail → WriteOk D (at_fin f) v a b t
    tick_write v a b t m =
        let o = I.writes_ok v a b t m in
        let fr = free (write v a b t) m in
        record { from_below = o.from_below; to_below = o.to_below; past = omega arith; soon = omega arith; is_top = o.is_top; is_writer = o.is_writer; is_begin = o.is_begin; under = elim cl [ inl c ↦ absurd (fr (omega arith)) | inr c ↦ omega arith ] }

    tick_inquiry : (a b t : ℕ) → In (inquiry a b t) s.mail → InquiryOk D (at_fin f) a b t
    tick_inquiry a b t m =
        let o = I.inquiries_ok a b t m in
        let fr = free (inquiry a b t) m in
        record { from_below = o.from_below; to_below = o.to_below; past = omega (arith, o.past); soon = omega (arith, o.soon); who = o.who }

    tick_reply : (v a b t : ℕ) → In (reply v a b t) s.mail → ReplyOk D (at_fin f) v a b t
    tick_reply v a b t m =
        let o = I.replies_ok v a b t m in
        let fr = free (reply v a b t) m in
        record { from_below = o.from_below; to_below = o.to_below; past = omega (arith, o.past); soon = omega (arith, o.soon); some = o.some; most = o.most; who = λ h i e. ((o.who h i e).0, go h i (o.who h i e).0 cl (cases_lt s.fin s.top) (o.who h i e).1) }
      where
        go : (h : Head) → In h s.heads → h.phase ≡ inquiring → Closing f → (s.fin < s.top) ⊎ (s.top ≤ s.fin) → (s.fin ≤ v) ⊎ (s.fin ≤ h.copy) → (f ≤ v) ⊎ (f ≤ h.copy)
        go h i e (inl c) (inl u) g = elim (done h i c.1 u) [ inl d ↦ inr (omega arith) | inr d ↦ absurd (not_lis_inq d.0 e) ]
        go h i e (inl c) (inr u) (inl g) = inl (omega arith)
        go h i e (inl c) (inr u) (inr g) = inr (omega arith)
        go h i e (inr c) u (inl g) = inl (omega arith)
        go h i e (inr c) u (inr g) = inr (omega arith)

    tick_inv : Inv D k n (names s.heads) (at_fin f)
    tick_inv = record {
      size = I.size;
      apart = I.apart;
      fin_some = f_bounds.0;
      fin_top = f_bounds.1;
      top_fin = f_bounds.2;
      writing = tick_writing;
      few = omega arith;
      counted = tick_count;
      heads_ok = tick_head;
      written = tick_written;
      writes_ok = tick_write;
      inquiries_ok = tick_inquiry;
      replies_ok = tick_reply;
      asked = λ b a i j e ne u v. I.asked b a i j e ne u (omega arith);
      due = tick_due f;
    }

  pub clock_inv : Inv D k n (names s.heads) (clock D s)
  clock_inv = tick_inv (cond (eqb (s.begin + D) (suc s.time)) s.top s.fin) (go (eqb (s.begin + D) (suc s.time)) refl)
    where
      go : (b : Bool) → eqb (s.begin + D) (suc s.time) ≡ b → Closing (cond b s.top s.fin)
      go true e = inl (refl, eqb-true (s.begin + D) (suc s.time) e)
      go false e = inr (refl, eqb-false (s.begin + D) (suc s.time) e)
