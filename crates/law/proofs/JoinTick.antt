-- A tick keeps a state joined, and so is each moment inside it.
use Rattle.std.proofs.Common.{◌≡◌, ℕ, suc, ◌+◌, ◌-◌, ◌*◌, ◌<◌, ◌≤◌, Bool, true, false, cond, eqb, List, [], ◌∷◌, ◌++◌, map, is_some as option_is_some, Some, None, Option, unwrap_or, sym, refl, ap, ◌∙◌, subst₂, append_assoc, append-nil, add-one, arith}
use Rattle.std.proofs.lemmas.Bool.{eqb-false, not-false}
use Rattle.protocol.specs.Places.{first}
use Rattle.protocol.specs.Heads.{Head}
use Rattle.protocol.specs.Items.{Item, sent_of, is_due}
use Rattle.protocol.specs.Sites.{UnderWay, State}
use Rattle.protocol.specs.Make.{Setup}
use Rattle.protocol.specs.Tick.{turn, turned, turn_mail, then_do, turns_mail, tick_mail, tick_checks, tick_refusal, still_under_way, tick_leaves}
use Rattle.law.proofs.Coded as code
use Rattle.law.proofs.Coded.{In, Site, sentAt}
use Rattle.law.proofs.Base.{map_in, moved}
use Rattle.law.proofs.Inv.{Inv}
use Rattle.law.proofs.Clock.{clock_inv}
use Rattle.law.proofs.Firsts.{not_found, is_some}
use Rattle.law.proofs.Checks.{passed}
use Rattle.law.proofs.Coding.{Ghost, Tied, code_head, code_item, coded, code_sent, map_fuse}
use Rattle.law.proofs.Known.{names_of, finished_after, turning, Moment, at_first, one_turned}
use Rattle.law.proofs.Joining.{Joined, moved_joined}
use Rattle.law.proofs.JoinTurn.{turn_joined}

-- the ghost when the clock moves on
abbrev clocked : ℕ → ℕ → Ghost → Ghost
clocked D T g = record { fin = cond (eqb (g.begin + D) (suc T)) g.top g.fin; top = g.top; writer = g.writer; begin = g.begin }

clocked_fin : (D T F : ℕ) (g : Ghost) (o : Option UnderWay) → g.fin ≡ suc F → g.top ≤ suc g.fin → Tied g o → (clocked D T g).fin ≡ suc (finished_after D (T + 1) F o)
clocked_fin D T F g None e le t = go (eqb (g.begin + D) (suc T))
  where
    go : (b : Bool) → cond b g.top g.fin ≡ suc F
    go true = omega arith
    go false = e
clocked_fin D T F g (Some u) e le t = rw (add-one T, t.2) (go (eqb (u.begin + D) (suc T)))
  where
    go : (b : Bool) → cond b g.top g.fin ≡ suc (cond b (suc F) F)
    go true = omega arith
    go false = e

clocked_tied : (D T : ℕ) (g : Ghost) (o : Option UnderWay) → Tied g o → Tied (clocked D T g) (still_under_way D (T + 1) o)
clocked_tied D T g None t = go (eqb (g.begin + D) (suc T))
  where
    go : (b : Bool) → cond b g.top g.fin ≡ g.top
    go true = refl
    go false = t
clocked_tied D T g (Some u) t = rw (add-one T) (go (eqb (u.begin + D) (suc T)) (ap (λ z. eqb (z + D) (suc T)) t.2))
  where
    go : (b : Bool) → eqb (g.begin + D) (suc T) ≡ b → Tied (clocked D T g) (cond b None (Some u))
    go true e = rw e
    go false e = rw e t

module _ {V : Type 0} (m : Setup V) (F : ℕ) (s : State V) (pos : 0 < m.delay) (lt : (3 * m.delay - 1) * m.swap_limit < m.size) (J : Joined m F [] s) (none_due : option_is_some (first (is_due s.site.delay s.site.time) s.items) ≡ false) where
  abbrev n : ℕ
  n = m.size

  abbrev D : ℕ
  D = m.delay

  abbrev T : ℕ
  T = s.site.time

  abbrev W : Site
  W = coded n J.ghost s

  abbrev F' : ℕ
  F' = finished_after D (T + 1) F s.site.under_way

  delay_is : s.site.delay ≡ D
  delay_is = J.sited.delay

  nothing_due : (x : code.Item) → In x W.mail → sentAt x + D ≡ suc T → ⊥
  nothing_due x j d =
      let (i, k, q) = map_in code_item s.items j in
      let r = not_found (is_due s.site.delay T) s.items none_due i k in
      let c : sentAt x ≡ sent_of i = ap sentAt (sym q) ∙ code_sent i in
      eqb-false (sent_of i + s.site.delay) (T + 1) r (omega (arith, delay_is))

  clock_now : Inv D m.swap_limit n (names_of s.heads) (coded n (clocked D T J.ghost) (turning s [] s.heads s.items))
  clock_now =
      subst₂ (λ ns t. Inv D m.swap_limit n ns (record { heads = W.heads; mail = W.mail; time = t; swaps = 0; fin = (clocked D T J.ghost).fin; top = J.ghost.top; writer = J.ghost.writer; begin = J.ghost.begin; next = s.site.next_name }))
      (map_fuse (code_head n) (λ h. h.name) (λ h. h.name) (λ h. refl) s.heads) (sym (add-one T))
      (clock_inv D m.swap_limit n pos lt W J.inv nothing_due)

  first_joined : Joined m F' (names_of s.heads) (turning s [] s.heads s.items)
  first_joined = record {
    ghost = clocked D T J.ghost;
    fin_is = clocked_fin D T F J.ghost s.site.under_way J.fin_is J.inv.top_fin J.tied;
    tied = moved (λ d. Tied (clocked D T J.ghost) (still_under_way d (T + 1) s.site.under_way)) (sym delay_is) (clocked_tied D T J.ghost s.site.under_way J.tied);
    inv = clock_now;
    sited = let o = J.sited in record { delay = o.delay; swap_limit = o.swap_limit; next_above = o.next_above };
    own = J.own;
  }

  pub moment_joined : {before after : List (Head V)} {mail : List (Item V)} → Moment s before after mail → Joined m F' (names_of after) (turning s before after mail)
  moment_joined at_first = first_joined
  moment_joined (one_turned {before} {after} {mail} {mail'} h M e) =
      moved (λ d. turn_mail s.places (T + 1) before h after mail (turn d (T + 1) h) ≡ Some mail' → Joined m F' (names_of after) (turning s (before ++ turned d (T + 1) h ∷ []) after mail')) (sym delay_is)
      (turn_joined m F' s pos before h after mail (moment_joined M) mail') e

-- the moment when all have turned
pub all_turned : {V : Type 0} (s : State V) (before after : List (Head V)) (mail mail' : List (Item V)) → Moment s before after mail → turns_mail s.places s.site.delay (s.site.time + 1) before after mail ≡ Some mail' → Moment s (before ++ map (turned s.site.delay (s.site.time + 1)) after) [] mail'
all_turned s before [] mail mail' M e = let q : mail ≡ mail' = cc in subst₂ (λ hs ms. Moment s hs [] ms) (sym (append-nil before)) q M
all_turned {V} s before (h ∷ after) mail mail' M e = go (turn_mail s.places (s.site.time + 1) before h after mail (turn s.site.delay (s.site.time + 1) h)) refl e (λ mail₁. all_turned s (before ++ turned s.site.delay (s.site.time + 1) h ∷ []) after mail₁ mail')
  where
    now : ℕ
    now = s.site.time + 1

    D : ℕ
    D = s.site.delay

    go : (o : Option (List (Item V))) → turn_mail s.places now before h after mail (turn D now h) ≡ o → then_do o (λ mail. turns_mail s.places D now (before ++ turned D now h ∷ []) after mail) ≡ Some mail' → ((mail₁ : List (Item V)) → Moment s (before ++ turned D now h ∷ []) after mail₁ → turns_mail s.places D now (before ++ turned D now h ∷ []) after mail₁ ≡ Some mail' → Moment s ((before ++ turned D now h ∷ []) ++ map (turned D now) after) [] mail') → Moment s (before ++ turned D now h ∷ map (turned D now) after) [] mail'
    go None q r rec = let z : ◌≡◌ {A = ℕ} 0 1 = cc in absurd (omega arith)
    go (Some mail₁) q r rec = moved (λ hs. Moment s hs [] mail') (append_assoc before (turned D now h ∷ []) (map (turned D now) after)) (rec mail₁ (one_turned h M q) r)

module _ {V : Type 0} (m : Setup V) (F : ℕ) (s : State V) (pos : 0 < m.delay) (lt : (3 * m.delay - 1) * m.swap_limit < m.size) (J : Joined m F [] s) where
  pub tick_joined : tick_refusal s ≡ None → Joined m (finished_after m.delay (s.site.time + 1) F s.site.under_way) [] (tick_leaves s)
  tick_joined e =
      let (_, (_, (due?, (room?, _)))) = (passed (tick_checks s) None e).checks in
      let (mail, q) = is_some (tick_mail s) (not-false _ room?) in
      let items-eq : mail ≡ (tick_leaves s).items = ap (λ o. unwrap_or o s.items) (sym q) in
      moved_joined m (finished_after m.delay (s.site.time + 1) F s.site.under_way) [] (turning s (map (turned s.site.delay (s.site.time + 1)) s.heads) [] mail) (tick_leaves s) (λ i j. moved (λ z. In i z) items-eq j) (λ i j. moved (λ z. In i z) (sym items-eq) j)
      (moment_joined m F s pos lt J due? (all_turned s [] s.heads s.items mail at_first q))
      refl (sym (append-nil (map (turned s.site.delay (s.site.time + 1)) s.heads))) refl
