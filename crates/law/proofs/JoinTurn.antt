-- A head's turn in a tick keeps the moment joined.
use Rattle.std.proofs.Common.{◌≡◌, ℕ, suc, ◌+◌, ◌*◌, ◌<◌, max, Bool, true, false, cond, eqb, leb, List, [], ◌∷◌, ◌++◌, map, Some, None, filter, Option, sym, refl, ap, ◌∙◌, ap₂, subst₂, append_assoc, arith}
use Rattle.std.proofs.lemmas.List.{map-append}
use Rattle.std.proofs.lemmas.Bool.{eqb-true, eqb-false}
use Rattle.protocol.specs.declared.state.HeadState.{HeadState}
use Rattle.protocol.specs.declared.state.HeadState.TheVariants.{Listening, Inquiring, Active, Stranded}
use Rattle.protocol.specs.Heads.{Copy, Head, newer, inquiring_named}
use Rattle.protocol.specs.Items.{Item, inquiry, reply, is_reply_to, dropping, to_each}
use Rattle.protocol.specs.Sites.{State}
use Rattle.protocol.specs.Make.{Setup}
use Rattle.protocol.specs.Tick.{Turn, rests, inquires, activates, strands, activates_or, turn_in, turn, turned_by, turned, turn_mail}
use Rattle.law.proofs.Coded as code
use Rattle.law.proofs.Coded.{In, Site, with_mail, wanted, others, isInquiring, answers, waits, wakes, asks, ends}
use Rattle.law.proofs.Base.{in_map, moved, in_mid}
use Rattle.law.proofs.Count.{Distinct, distinct_put}
use Rattle.law.proofs.Inv as inv
use Rattle.law.proofs.Inv.{Inv, Stage, not_act_inq, not_lis_inq, not_lis_act}
use Rattle.law.proofs.Turning.{turn_inv}
use Rattle.law.proofs.Coding.{code_copy, code_state, code_born, code_head, code_item, coded, code_newer, code_turn_mail, code_put, code_others, code_inquiring, kept_same, map_fuse, put_some}
use Rattle.law.proofs.Known.{names_of, turning}
use Rattle.law.proofs.Joining.{Own, Joined, moved_joined, each_changed, code_letters}

-- a head that was born came by a swap
pub born_is : (n x t : ℕ) → 0 < code_born n x t → code_born n x t ≡ suc t
born_is n x t lt = go (leb x n) lt
  where
    go : (b : Bool) → 0 < cond b 0 (suc t) → cond b 0 (suc t) ≡ suc t
    go true u = absurd (omega arith)
    go false u = refl

module _ {V : Type 0} (m : Setup V) (F : ℕ) (s : State V) (pos : 0 < m.delay) (before : List (Head V)) (h : Head V) (after : List (Head V)) (mail : List (Item V)) (J : Joined m F (h.name ∷ names_of after) (turning s before (h ∷ after) mail)) where
  abbrev n : ℕ
  n = m.size

  abbrev D : ℕ
  D = m.delay

  abbrev now : ℕ
  now = s.site.time + 1

  abbrev S : Site
  S = coded n J.ghost (turning s before (h ∷ after) mail)

  abbrev ch : code.Head
  ch = code_head n h

  abbrev Kept : List code.Head → List code.Item → Type 0
  Kept hs ms = Inv D m.swap_limit n (names_of after) (with_mail S hs ms)

  at_h : In h (before ++ h ∷ after)
  at_h = in_mid h before after refl

  -- the moment after h has turned, and what it takes to be joined
  abbrev Next : Turn V → List (Item V) → Type 0
  Next t mail' = Joined m F (names_of after) (turning s before (turned_by now t h ∷ after) mail')

  next : (t : Turn V) (mail' : List (Item V)) → Kept (map (code_head n) (before ++ turned_by now t h ∷ after)) (map code_item mail') → Own D (turned_by now t h) → Next t mail'
  next t mail' I o = record {
    ghost = J.ghost;
    fin_is = J.fin_is;
    tied = J.tied;
    inv = I;
    sited = J.sited;
    own = each_changed before h (turned_by now t h) after (Own D) o J.own;
  }

  heads_eq : (h' : Head V) → map (code.put h.name (code_head n h')) S.heads ≡ map (code_head n) (before ++ h' ∷ after)
  heads_eq h' = code_put n before h h' after J.inv.apart

  by_turn : {S₁ : Site} → code.Turn D S ch S₁ → Inv D m.swap_limit n (names_of after) S₁
  by_turn t = turn_inv D m.swap_limit n pos S ch (in_map (code_head n) at_h) (names_of after) J.inv t

  own : Own D h
  own = J.own h at_h

  rests_next : code.Turn D S ch S → {mail' : List (Item V)} → Some mail ≡ Some mail' → Next rests mail'
  rests_next t {mail'} e =
      let q : mail ≡ mail' = cc in
      moved (Next rests) q (next rests mail (by_turn t) own)

  inquires_next : code.Turn D S ch (with_mail S (map (code.put h.name (code.asking ch)) S.heads) (S.mail ++ map (λ g. code.inquiry h.name g.name now) (others h.name S.heads))) → now ≡ h.swap_tick + D → {mail' : List (Item V)} → turn_mail s.places now before h after mail inquires ≡ Some mail' → Next inquires mail'
  inquires_next t due {mail'} e =
      moved (Next inquires) (put_some s.places mail letters e)
      (next inquires (mail ++ letters) (subst₂ Kept (heads_eq (turned_by now inquires h)) mail_eq (by_turn t)) (λ _. due))
    where
      letters : List (Item V)
      letters = to_each (λ b. inquiry h.name b now) (before ++ after)

      mail_eq : S.mail ++ map (λ g. code.inquiry h.name g.name now) (others h.name S.heads) ≡ map code_item (mail ++ letters)
      mail_eq =
          ap (λ z. S.mail ++ map (λ g. code.inquiry h.name g.name now) z) (code_others n before h after J.inv.apart)
          ∙ (ap (λ z. S.mail ++ z) (code_letters n (λ b. inquiry h.name b now) (λ g. code.inquiry h.name g.name now) (λ g. refl) (before ++ after))
          ∙ sym (map-append code_item mail letters))

  abbrev acted : ℕ → Site
  acted x = with_mail S (map (code.put h.name (code.acting x ch)) S.heads) (filter (wanted h.name) S.mail ++ answers (map (code.put h.name (code.acting x ch)) S.heads) ch x now)

  activates_next : (c : Copy V) (x : ℕ) → x ≡ suc c.stamp → code.Turn D S ch (acted x) → {mail' : List (Item V)} → turn_mail s.places now before h after mail (activates c) ≡ Some mail' → Next (activates c) mail'
  activates_next c x q t {mail'} e =
      moved (Next (activates c)) (put_some s.places left replies e)
      (next (activates c) (left ++ replies) (subst₂ Kept (heads_eq h') mail_eq (by_turn (moved (λ z. code.Turn D S ch (acted z)) q t))) (λ r. let z : ◌≡◌ {A = ℕ} 0 1 = cc in absurd (omega arith)))
    where
      h' : Head V
      h' = turned_by now (activates c) h

      left : List (Item V)
      left = dropping (is_reply_to h.name) mail

      replies : List (Item V)
      replies = map (λ y. reply h.name y now (Some c)) (filter (λ y. inquiring_named y (before ++ h' ∷ after)) h.held)

      apart : Distinct (map (code_head n) (before ++ h' ∷ after))
      apart = moved Distinct (heads_eq h') (distinct_put h.name (code_head n h') S.heads (λ g j ne e. ne e) J.inv.apart)

      answers_eq : answers (map (code.put h.name (code_head n h')) S.heads) ch (suc c.stamp) now ≡ map code_item replies
      answers_eq =
          ap (λ hs. answers hs ch (suc c.stamp) now) (heads_eq h')
          ∙ (ap (map (λ y. code.reply (suc c.stamp) h.name y now)) (kept_same (isInquiring (map (code_head n) (before ++ h' ∷ after))) (λ y. inquiring_named y (before ++ h' ∷ after)) (λ y. code_inquiring n (before ++ h' ∷ after) y apart) h.held)
          ∙ sym (map_fuse (λ y. reply h.name y now (Some c)) code_item (λ y. code.reply (suc c.stamp) h.name y now) (λ y. refl) (filter (λ y. inquiring_named y (before ++ h' ∷ after)) h.held)))

      mail_eq : filter (wanted h.name) S.mail ++ answers (map (code.put h.name (code_head n h')) S.heads) ch (suc c.stamp) now ≡ map code_item (left ++ replies)
      mail_eq = ap₂ (λ x y. x ++ y) (sym (code_turn_mail h.name mail)) answers_eq ∙ sym (map-append code_item left replies)

  strands_next : code.Turn D S ch (with_mail S (map (code.put h.name (code.lost ch)) S.heads) (filter (wanted h.name) S.mail)) → {mail' : List (Item V)} → Some (dropping (is_reply_to h.name) mail) ≡ Some mail' → Next strands mail'
  strands_next t {mail'} e =
      let q : dropping (is_reply_to h.name) mail ≡ mail' = cc in
      moved (Next strands) q
      (next strands (dropping (is_reply_to h.name) mail) (subst₂ Kept (heads_eq (turned_by now strands h)) (sym (code_turn_mail h.name mail)) (by_turn t)) (λ r. let z : ◌≡◌ {A = ℕ} 0 1 = cc in absurd (omega arith)))

  stage : Stage D now (h.name ∷ names_of after) ch
  stage = (J.inv.heads_ok ch (in_map (code_head n) at_h)).stage

  born_of : (code_state h.state ≡ code.active → ⊥) → Stage D now (h.name ∷ names_of after) ch → ch.born ≡ suc h.swap_tick
  born_of na (inv.listens p q r u) = born_is n h.name h.swap_tick q
  born_of na (inv.inquires p q r u) = born_is n h.name h.swap_tick q
  born_of na (inv.acts p q) = absurd (na p)

  abbrev Goes : Turn V → Type 0
  Goes t = (mail' : List (Item V)) → turn_mail s.places now before h after mail t ≡ Some mail' → Next t mail'

  listening_next : code_state h.state ≡ code.listening → Goes (turn_in D now h Listening)
  listening_next p = go (eqb (h.swap_tick + D) now) refl h.copy refl
    where
      born : ch.born ≡ suc h.swap_tick
      born = born_of (λ q. not_lis_act p q) stage

      go : (b : Bool) → eqb (h.swap_tick + D) now ≡ b → (o : Option (Copy V)) → h.copy ≡ o → Goes (cond b (activates_or inquires o) rests)
      go true e None q mail' = let d = eqb-true (h.swap_tick + D) now e in inquires_next (asks p (omega (arith, born)) (ap code_copy q)) (sym d)
      go true e (Some c) q mail' = let d = eqb-true (h.swap_tick + D) now e in let q' = ap code_copy q in activates_next c (code_copy h.copy) q' (wakes p (omega (arith, born)) (omega arith))
      go false e o q mail' = let d = eqb-false (h.swap_tick + D) now e in rests_next (waits (λ _ u. d (omega (arith, born))) (λ u. absurd (not_lis_inq p u)))

  inquiring_next : h.state ≡ Inquiring → Goes (turn_in D now h Inquiring)
  inquiring_next w = go (eqb (h.inquiry_tick + 2 * D) now) refl (newer h.copy h.best) refl
    where
      p : code_state h.state ≡ code.inquiring
      p = ap code_state w

      born : ch.born ≡ suc h.swap_tick
      born = born_of (λ q. not_act_inq q p) stage

      asked : h.inquiry_tick ≡ h.swap_tick + D
      asked = own w

      go : (b : Bool) → eqb (h.inquiry_tick + 2 * D) now ≡ b → (o : Option (Copy V)) → newer h.copy h.best ≡ o → Goes (cond b (activates_or strands o) rests)
      go true e None q mail' = let d = eqb-true (h.inquiry_tick + 2 * D) now e in let q' = sym (code_newer h.copy h.best) ∙ ap code_copy q in strands_next (code.strands p (omega (arith, born, asked)) q')
      go true e (Some c) q mail' = let d = eqb-true (h.inquiry_tick + 2 * D) now e in let q' = sym (code_newer h.copy h.best) ∙ ap code_copy q in activates_next c (max (code_copy h.copy) (code_copy h.best)) q' (ends p (omega (arith, born, asked)) (omega arith))
      go false e o q mail' = let d = eqb-false (h.inquiry_tick + 2 * D) now e in rests_next (waits (λ u. absurd (not_lis_inq u p)) (λ _ u. d (omega (arith, born, asked))))

  state_next : (q : HeadState) → h.state ≡ q → Goes (turn_in D now h q)
  state_next Listening e mail' = listening_next (ap code_state e) mail'
  state_next Inquiring e mail' = inquiring_next e mail'
  state_next Active e mail' = rests_next (waits (λ p. absurd (not_lis_act p (ap code_state e))) (λ p. absurd (not_act_inq (ap code_state e) p)))
  state_next Stranded e mail' = rests_next (waits (λ p. let r = ap code_state e in let z : ◌≡◌ {A = ℕ} 0 1 = cc in absurd (omega arith)) (λ p. let r = ap code_state e in let z : ◌≡◌ {A = ℕ} 0 1 = cc in absurd (omega arith)))

  pub turn_joined : (mail' : List (Item V)) → turn_mail s.places now before h after mail (turn D now h) ≡ Some mail' → Joined m F (names_of after) (turning s (before ++ turned D now h ∷ []) after mail')
  turn_joined mail' e =
      moved_joined m F (names_of after) (turning s before (turned D now h ∷ after) mail') (turning s (before ++ turned D now h ∷ []) after mail') (λ i j. j) (λ i j. j)
      (state_next h.state refl mail' e)
      refl (append_assoc before (turned D now h ∷ []) after) refl
