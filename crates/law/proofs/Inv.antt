-- The invariant. todo: the names of the heads that have yet to turn in this tick.
use Rattle.std.proofs.Common.{◌≡◌, ℕ, suc, ◌+◌, ◌-◌, ◌*◌, ◌<◌, ◌≤◌, ◌⊎◌, List, [], length, sym, subst, inl, inr, arith}
use Rattle.law.proofs.Coded.{In, Head, Site, Phase, listening, inquiring, active, Item, write, inquiry, reply}
use Rattle.law.proofs.Count.{late, Distinct}

abbrev pub Before : List ℕ → Head → ℕ → ℕ → Type 0
Before todo h x y = (x < y) ⊎ ((x ≡ y) × In h.name todo)

pub data Stage (D t : ℕ) (todo : List ℕ) (h : Head) : Type 0 where
  listens : h.phase ≡ listening → 0 < h.born → h.best ≡ 0 → Before todo h (suc t) (h.born + D) → Stage D t todo h
  inquires : h.phase ≡ inquiring → 0 < h.born → h.born + D ≤ suc t → Before todo h (suc t) (h.born + 3 * D) → Stage D t todo h
  acts : h.phase ≡ active → 0 < h.copy → Stage D t todo h

pub record HeadOk (D : ℕ) (s : Site) (todo : List ℕ) (h : Head) : Type 0 where
  pub named : h.name < s.next
  pub low : (h.copy ≡ 0) ⊎ (s.fin ≤ h.copy)
  pub high : h.copy ≤ s.top
  pub best_low : (h.best ≡ 0) ⊎ ((s.fin ≤ h.best) ⊎ (s.fin ≤ h.copy))
  pub best_high : h.best ≤ s.top
  pub early : h.born ≤ suc s.time
  pub stage : Stage D s.time todo h

pub data Written (s : Site) (h : Head) : Type 0 where
  has_it : h.copy ≡ s.top → Written s h
  on_way : In (write s.top s.writer h.name s.begin) s.mail → Written s h
  too_new : h.phase ≡ listening → s.begin < h.born → h.copy ≡ 0 → Written s h

pub record WriteOk (D : ℕ) (s : Site) (v a b t : ℕ) : Type 0 where
  pub from_below : a < s.next
  pub to_below : b < s.next
  pub past : t ≤ s.time
  pub soon : s.time < t + D
  pub is_top : v ≡ s.top
  pub is_writer : a ≡ s.writer
  pub is_begin : t ≡ s.begin
  pub under : s.fin < s.top

pub record InquiryOk (D : ℕ) (s : Site) (a b t : ℕ) : Type 0 where
  pub from_below : a < s.next
  pub to_below : b < s.next
  pub past : t ≤ s.time
  pub soon : s.time < t + D
  pub who : (h : Head) → In h s.heads → h.name ≡ a → (h.phase ≡ inquiring) × (suc t ≡ h.born + D)

pub record ReplyOk (D : ℕ) (s : Site) (v a b t : ℕ) : Type 0 where
  pub from_below : a < s.next
  pub to_below : b < s.next
  pub past : t ≤ s.time
  pub soon : s.time < t + D
  pub some : 0 < v
  pub most : v ≤ s.top
  pub who : (h : Head) → In h s.heads → h.name ≡ b → (h.phase ≡ inquiring) × ((s.fin ≤ v) ⊎ (s.fin ≤ h.copy))

-- b has a reply, or will have it before its time is up
pub data Rep (D : ℕ) (mail : List Item) (b : Head) : Type 0 where
  has_best : 0 < b.best → Rep D mail b
  coming : (v a t : ℕ) → In (reply v a b.name t) mail → suc t ≤ b.born + 2 * D → Rep D mail b

pub data Asked (D : ℕ) (mail : List Item) (a b : Head) : Type 0 where
  mailed : (t : ℕ) → In (inquiry b.name a.name t) mail → Asked D mail a b
  kept : (a.phase ≡ active → ⊥) → In b.name a.held → Asked D mail a b
  answered : Rep D mail b → Asked D mail a b

pub data Due (D : ℕ) (s : Site) (todo : List ℕ) (b : Head) : Type 0 where
  replied : Rep D s.mail b → Due D s todo b
  awaits : (a : Head) → In a s.heads → In a.name todo → a.phase ≡ inquiring → suc s.time ≡ a.born + 3 * D → In b.name a.held → suc s.time ≡ b.born + 2 * D → Due D s todo b

pub record Inv (D k n : ℕ) (todo : List ℕ) (s : Site) : Type 0 where
  pub size : length s.heads ≡ n
  pub apart : Distinct s.heads
  pub fin_some : 0 < s.fin
  pub fin_top : s.fin ≤ s.top
  pub top_fin : s.top ≤ suc s.fin
  pub writing : s.fin < s.top → (s.begin ≤ s.time) × (s.time < s.begin + D)
  pub few : s.swaps ≤ k
  pub counted : (x : ℕ) → x ≤ s.time → late x s.heads ≤ (s.time - x) * k + s.swaps
  pub heads_ok : (h : Head) → In h s.heads → HeadOk D s todo h
  pub written : (h : Head) → In h s.heads → s.fin < s.top → Written s h
  pub writes_ok : (v a b t : ℕ) → In (write v a b t) s.mail → WriteOk D s v a b t
  pub inquiries_ok : (a b t : ℕ) → In (inquiry a b t) s.mail → InquiryOk D s a b t
  pub replies_ok : (v a b t : ℕ) → In (reply v a b t) s.mail → ReplyOk D s v a b t
  pub asked : (b a : Head) → In b s.heads → In a s.heads → b.phase ≡ inquiring → (a.name ≡ b.name → ⊥) → a.born < b.born + D → suc s.time < b.born + 2 * D → Asked D s.mail a b
  pub due : (b : Head) → In b s.heads → b.phase ≡ inquiring → b.born + 2 * D ≤ suc s.time → Due D s todo b

pub not_act_inq : {p : Phase} → p ≡ active → p ≡ inquiring → ⊥
not_act_inq p q = let z : ◌≡◌ {A = ℕ} 0 1 = cc in omega arith

pub not_lis_inq : {p : Phase} → p ≡ listening → p ≡ inquiring → ⊥
not_lis_inq p q = let z : ◌≡◌ {A = ℕ} 0 1 = cc in omega arith

pub not_lis_act : {p : Phase} → p ≡ listening → p ≡ active → ⊥
not_lis_act p q = let z : ◌≡◌ {A = ℕ} 0 1 = cc in omega arith

pub rep_mono : (D : ℕ) (m m' : List Item) (b b' : Head) → b'.name ≡ b.name → b'.born ≡ b.born → b.best ≤ b'.best → ((v a t : ℕ) → In (reply v a b.name t) m → In (reply v a b.name t) m' ⊎ (0 < b'.best)) → Rep D m b → Rep D m' b'
rep_mono D m m' b b' en eb le f (has_best p) = has_best (omega arith)
rep_mono D m m' b b' en eb le f (coming v a t x l) =
    elim (f v a t x) [ inl y ↦ coming v a t (subst (λ z. In (reply v a z t) m') (sym en) y) (omega arith) | inr q ↦ has_best q ]

pub asked_to : (D : ℕ) (m : List Item) (a b : Head) {C : Type 0} → ((t : ℕ) → In (inquiry b.name a.name t) m → C) → ((a.phase ≡ active → ⊥) → In b.name a.held → C) → (Rep D m b → C) → Asked D m a b → C
asked_to D m a b f g r (mailed t x) = f t x
asked_to D m a b f g r (kept p q) = g p q
asked_to D m a b f g r (answered q) = r q

-- at rest nothing is awaited
pub due_rest : (D : ℕ) (s : Site) (b : Head) → Due D s [] b → Rep D s.mail b
due_rest D s b (replied r) = r
due_rest D s b (awaits a j p q r u v) = elim p [ ]

pub write_not_inquiry : {v a b t a' b' t' : ℕ} → write v a b t ≡ inquiry a' b' t' → ⊥
write_not_inquiry e = let z : ◌≡◌ {A = ℕ} 0 1 = cc in omega arith

pub write_not_reply : {v a b t v' a' b' t' : ℕ} → write v a b t ≡ reply v' a' b' t' → ⊥
write_not_reply e = let z : ◌≡◌ {A = ℕ} 0 1 = cc in omega arith

pub inquiry_not_reply : {a b t v' a' b' t' : ℕ} → inquiry a b t ≡ reply v' a' b' t' → ⊥
inquiry_not_reply e = let z : ◌≡◌ {A = ℕ} 0 1 = cc in omega arith
