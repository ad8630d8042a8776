-- The invariant holds of a site whose heads all came with it, and does not look at the order of the mail.
use Rattle.std.proofs.Common.{◌≡◌, ℕ, ◌<◌, List, [], length, refl, inl, inr, arith}
use Rattle.law.proofs.Coded.{In, Head, Site, active, Item, write, inquiry, reply, with_mail}
use Rattle.law.proofs.Count.{late_zero, Distinct}
use Rattle.law.proofs.Inv.{acts, Written, has_it, on_way, too_new, Rep, Asked, mailed, kept, answered, Due, replied, awaits, Inv, rep_mono, asked_to, not_act_inq}

-- a head that came with the site
pub record Original (next : ℕ) (h : Head) : Type 0 where
  pub named : h.name < next
  pub phased : h.phase ≡ active
  pub born0 : h.born ≡ 0
  pub copy1 : h.copy ≡ 1
  pub best0 : h.best ≡ 0

abbrev pub start : List Head → ℕ → Site
start hs next = record { heads = hs; mail = []; time = 0; swaps = 0; fin = 1; top = 1; writer = 0; begin = 0; next = next }

pub start_inv : (D k n next : ℕ) (hs : List Head) → length hs ≡ n → Distinct hs → ((h : Head) → In h hs → Original next h) → Inv D k n [] (start hs next)
start_inv D k n next hs size apart original = record {
  size = size;
  apart = apart;
  fin_some = omega arith;
  fin_top = omega arith;
  top_fin = omega arith;
  writing = λ u. absurd (omega arith);
  few = omega arith;
  counted = λ x le. omega (arith, late_zero x hs (λ g i. omega (arith, (original g i).born0)));
  heads_ok = λ h i. let o = original h i in record { named = o.named; low = inr (omega (arith, o.copy1)); high = omega (arith, o.copy1); best_low = inl o.best0; best_high = omega (arith, o.best0); early = omega (arith, o.born0); stage = acts o.phased (omega (arith, o.copy1)) };
  written = λ h i u. absurd (omega arith);
  writes_ok = λ v a b t x. elim x [ ];
  inquiries_ok = λ a b t x. elim x [ ];
  replies_ok = λ v a b t x. elim x [ ];
  asked = λ b a ib ia e. absurd (not_act_inq (original b ib).phased e);
  due = λ b ib e. absurd (not_act_inq (original b ib).phased e);
}

-- another mail with the same items
module _ (D k n : ℕ) (todo : List ℕ) (s : Site) (m : List Item) (to : (x : Item) → In x s.mail → In x m) (from : (x : Item) → In x m → In x s.mail) where
  rep_to : (b : Head) → Rep D s.mail b → Rep D m b
  rep_to b = rep_mono D s.mail m b b refl refl (omega arith) (λ v a t x. inl (to (reply v a b.name t) x))

  asked_over : (a b : Head) → Asked D s.mail a b → Asked D m a b
  asked_over a b = asked_to D s.mail a b (λ t x. mailed t (to (inquiry b.name a.name t) x)) kept (λ r. answered (rep_to b r))

  due_over : (b : Head) → Due D s todo b → Due D (with_mail s s.heads m) todo b
  due_over b (replied r) = replied (rep_to b r)
  due_over b (awaits a j p q r u v) = awaits a j p q r u v

  written_over : (h : Head) → Written s h → Written (with_mail s s.heads m) h
  written_over h (has_it p) = has_it p
  written_over h (on_way x) = on_way (to (write s.top s.writer h.name s.begin) x)
  written_over h (too_new p q r) = too_new p q r

  pub mail_inv : Inv D k n todo s → Inv D k n todo (with_mail s s.heads m)
  mail_inv I = record {
    size = I.size;
    apart = I.apart;
    fin_some = I.fin_some;
    fin_top = I.fin_top;
    top_fin = I.top_fin;
    writing = I.writing;
    few = I.few;
    counted = I.counted;
    heads_ok = λ h i. let o = I.heads_ok h i in record { named = o.named; low = o.low; high = o.high; best_low = o.best_low; best_high = o.best_high; early = o.early; stage = o.stage };
    written = λ h i u. written_over h (I.written h i u);
    writes_ok = λ v a b t x. let o = I.writes_ok v a b t (from (write v a b t) x) in record { from_below = o.from_below; to_below = o.to_below; past = o.past; soon = o.soon; is_top = o.is_top; is_writer = o.is_writer; is_begin = o.is_begin; under = o.under };
    inquiries_ok = λ a b t x. let o = I.inquiries_ok a b t (from (inquiry a b t) x) in record { from_below = o.from_below; to_below = o.to_below; past = o.past; soon = o.soon; who = o.who };
    replies_ok = λ v a b t x. let o = I.replies_ok v a b t (from (reply v a b t) x) in record { from_below = o.from_below; to_below = o.to_below; past = o.past; soon = o.soon; some = o.some; most = o.most; who = o.who };
    asked = λ b a ib ia e ne u u'. asked_over a b (I.asked b a ib ia e ne u u');
    due = λ b ib e u. due_over b (I.due b ib e u);
  }
