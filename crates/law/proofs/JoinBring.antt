-- An item that is brought keeps a state joined.
use Rattle.std.proofs.Common.{◌≡◌, ℕ, ◌<◌, Bool, true, false, cond, not, ◌&&◌, eqb, List, [], ◌∷◌, ◌++◌, map, is_some, None, sym, refl, ap, ◌∙◌, ap₂, subst₂, append-nil, arith}
use Rattle.std.proofs.lemmas.List.{map-append}
use Rattle.std.proofs.lemmas.Bool.{eqb-true, not-false, or_parts, and_parts}
use Rattle.protocol.specs.declared.kind.MailKind.{MailKind}
use Rattle.protocol.specs.declared.state.HeadState.{HeadState}
use Rattle.protocol.specs.declared.state.HeadState.TheVariants.{Listening, Inquiring, Active, Stranded}
use Rattle.protocol.specs.Places.{first}
use Rattle.protocol.specs.Heads.{Head, is_named, is_active, newer, with_copy, with_best, holds, holding, head_named}
use Rattle.protocol.specs.Items.{Item, write, inquiry, reply, kind_of, sender_of, receiver_of, same_kind, is_told}
use Rattle.protocol.specs.Sites.{State}
use Rattle.protocol.specs.Make.{Setup}
use Rattle.protocol.specs.Bring.{bring_checks, bring_refusal, bring_leaves, bring_heads, bring_answers, received, answered}
use Rattle.law.proofs.Coded as code
use Rattle.law.proofs.Coded.{In, here, Site, with_mail}
use Rattle.law.proofs.Base.{in_map, moved, in_mid, in_left, in_right}
use Rattle.law.proofs.Count.{Distinct}
use Rattle.law.proofs.Inv.{Inv}
use Rattle.law.proofs.Bring.{write_inv, reply_inv, held_inv, answer_inv}
use Rattle.law.proofs.Firsts.{split_in, found}
use Rattle.law.proofs.Coding.{code_copy, code_state, code_head, code_item, coded, code_newer, code_put}
use Rattle.law.proofs.Checks.{passed}
use Rattle.law.proofs.Joining.{Own, Joined, moved_joined, each_changed, active_from}

-- a name that the head holds
holds_in : {V : Type 0} (x : ℕ) (h : Head V) → holds x h ≡ true → In x h.held
holds_in x h e =
    let (y, _, sp) = found (eqb x) h.held e in
    moved (λ z. In z h.held) (sym (eqb-true x y sp.passes)) (split_in sp)

-- what a head holds after an INQUIRY from x
abbrev held_with : {V : Type 0} → ℕ → Head V → List ℕ
held_with x h = cond (holds x h) h.held (h.held ++ x ∷ [])

held_keeps : {V : Type 0} (x : ℕ) (h : Head V) (y : ℕ) → In y h.held → In y (held_with x h)
held_keeps x h y i = go (holds x h)
  where
    go : (b : Bool) → In y (cond b h.held (h.held ++ x ∷ []))
    go true = i
    go false = in_left (x ∷ []) i

held_has : {V : Type 0} (x : ℕ) (h : Head V) → In x (held_with x h)
held_has x h = go (holds x h) refl
  where
    go : (b : Bool) → holds x h ≡ b → In x (cond b h.held (h.held ++ x ∷ []))
    go true e = holds_in x h e
    go false e = in_right h.held (here refl)

not_active : (q : HeadState) → is_active q ≡ false → code_state q ≡ code.active → ⊥
not_active Listening e p = let z : ◌≡◌ {A = ℕ} 0 1 = cc in omega arith
not_active Inquiring e p = let z : ◌≡◌ {A = ℕ} 0 1 = cc in omega arith
not_active Active e p = let z : ◌≡◌ {A = ℕ} 0 1 = cc in omega arith
not_active Stranded e p = let z : ◌≡◌ {A = ℕ} 0 1 = cc in omega arith

told_to : {V : Type 0} (k : MailKind) (a b : ℕ) (i : Item V) → is_told k a b i ≡ true → receiver_of i ≡ b
told_to k a b i e = eqb-true (receiver_of i) b (and_parts (eqb (sender_of i) a) (eqb (receiver_of i) b) (and_parts (same_kind k (kind_of i)) (eqb (sender_of i) a && eqb (receiver_of i) b) e).1).1

module _ {V : Type 0} (m : Setup V) (F : ℕ) (s : State V) (pos : 0 < m.delay) (J : Joined m F [] s) where
  abbrev n : ℕ
  n = m.size

  abbrev T : ℕ
  T = s.site.time

  abbrev W : Site
  W = coded n J.ghost s

  abbrev Kept : List code.Head → List code.Item → Type 0
  Kept hs ms = Inv m.delay m.swap_limit n [] (with_mail W hs ms)

  -- h stands between us and vs, the item between xs and ys
  module _ (us : List (Head V)) (h : Head V) (vs : List (Head V)) (whole : s.heads ≡ us ++ h ∷ vs) (xs ys : List (Item V)) where
    at_h : In h s.heads
    at_h = moved (λ z. In h z) (sym whole) (in_mid h us vs refl)

    coded_h : In (code_head n h) W.heads
    coded_h = in_map (code_head n) at_h

    heads_eq : (h' : Head V) → map (code.put h.name (code_head n h')) W.heads ≡ map (code_head n) (us ++ h' ∷ vs)
    heads_eq h' = ap (λ hs. map (code.put h.name (code_head n h')) (map (code_head n) hs)) whole ∙ code_put n us h h' vs (moved (λ hs. Distinct (map (code_head n) hs)) whole J.inv.apart)

    mail_eq : (i : Item V) → s.items ≡ xs ++ i ∷ ys → W.mail ≡ map code_item xs ++ code_item i ∷ map code_item ys
    mail_eq i e = ap (map code_item) e ∙ map-append code_item xs (i ∷ ys)

    rest_eq : map code_item xs ++ map code_item ys ≡ map code_item ((xs ++ ys) ++ [])
    rest_eq = sym (map-append code_item xs ys) ∙ ap (map code_item) (sym (append-nil (xs ++ ys)))

    asked_inv : (a t : ℕ) → s.items ≡ xs ++ inquiry a h.name t ∷ ys → (b : Bool) → is_active h.state ≡ b → Kept (map (code_head n) (us ++ cond b h (holding a h) ∷ vs)) (map code_item ((xs ++ ys) ++ cond b (reply h.name a T h.copy ∷ []) []))
    asked_inv a t e true p =
        subst₂ Kept (ap (map (code_head n)) whole) (ap (λ z. z ++ code.reply (code_copy h.copy) h.name a T ∷ []) (sym (map-append code_item xs ys)) ∙ sym (map-append code_item (xs ++ ys) (reply h.name a T h.copy ∷ [])))
        (answer_inv m.delay m.swap_limit n pos W J.inv (code_head n h) coded_h (map code_item xs) (map code_item ys) a t (mail_eq (inquiry a h.name t) e) (ap code_state (active_from h.state p)))
    asked_inv a t e false p =
        subst₂ Kept (heads_eq (holding a h)) rest_eq
        (held_inv m.delay m.swap_limit n pos W J.inv (code_head n h) coded_h (map code_item xs) (map code_item ys) a t (mail_eq (inquiry a h.name t) e) (held_with a h) (held_keeps a h) (held_has a h) (not_active h.state p))

    received_inv : (i : Item V) → receiver_of i ≡ h.name → s.items ≡ xs ++ i ∷ ys → Kept (map (code_head n) (us ++ received i h ∷ vs)) (map code_item ((xs ++ ys) ++ answered T h i))
    received_inv (write a b t c) q e =
        subst₂ Kept (ap (λ z. map (code.put h.name (code.recopied z (code_head n h))) W.heads) (sym (code_newer h.copy c)) ∙ heads_eq (with_copy (newer h.copy c) h)) rest_eq
        (write_inv m.delay m.swap_limit n pos W J.inv (code_head n h) coded_h (map code_item xs) (map code_item ys) (code_copy c) a t (mail_eq (write a h.name t c) (e ∙ ap (λ z. xs ++ write a z t c ∷ ys) q)))
    received_inv (inquiry a b t) q e = asked_inv a t (e ∙ ap (λ z. xs ++ inquiry a z t ∷ ys) q) (is_active h.state) refl
    received_inv (reply a b t c) q e =
        subst₂ Kept (ap (λ z. map (code.put h.name (best_of z)) W.heads) (sym (code_newer h.best c)) ∙ heads_eq (with_best (newer h.best c) h)) rest_eq
        (reply_inv m.delay m.swap_limit n pos W J.inv (code_head n h) coded_h (map code_item xs) (map code_item ys) (code_copy c) a t (mail_eq (reply a h.name t c) (e ∙ ap (λ z. xs ++ reply a z t c ∷ ys) q)))
      where
        best_of : ℕ → code.Head
        best_of z = record { name = h.name; phase = code_state h.state; born = (code_head n h).born; copy = code_copy h.copy; best = z; held = h.held }

    received_own : (i : Item V) → Own m.delay h → Own m.delay (received i h)
    received_own (write a b t c) o = o
    received_own (inquiry a b t) o = go (is_active h.state)
      where
        go : (p : Bool) → Own m.delay (cond p h (holding a h))
        go true = o
        go false = o
    received_own (reply a b t c) o = o

    abbrev brought : Item V → State V
    brought i = record { site = s.site; heads = us ++ received i h ∷ vs; places = s.places; items = (xs ++ ys) ++ answered T h i; log = s.log }

    brought_joined : (i : Item V) → receiver_of i ≡ h.name → s.items ≡ xs ++ i ∷ ys → Joined m F [] (brought i)
    brought_joined i q e = record {
      ghost = J.ghost;
      fin_is = J.fin_is;
      tied = J.tied;
      inv = received_inv i q e;
      sited = J.sited;
      own = each_changed us h (received i h) vs (Own m.delay) (received_own i (J.own h at_h)) (λ y k. J.own y (moved (λ hs. In y hs) (sym whole) k));
    }

  pub bring_joined : (kind : MailKind) (a b : ℕ) → bring_refusal s kind a b ≡ None → Joined m F [] (bring_leaves s kind a b)
  bring_joined kind a b e =
      let (_, (there?, _)) = (passed (bring_checks s kind a b) None e).checks in
      let (item?, head?) = or_parts (not (is_some (first (is_told kind a b) s.items))) (not (is_some (head_named b s.heads))) there? in
      let (i, told, si) = found (is_told kind a b) s.items (not-false _ item?) in
      let (h, named, sp) = found (is_named b) s.heads (not-false _ head?) in
      let items-eq : (si.us ++ si.vs) ++ answered T h i ≡ (bring_leaves s kind a b).items = ap₂ (λ x y. x ++ y) (sym si.rest) (ap₂ (bring_answers T) (sym named) (sym told)) in
      let heads_eq : (bring_leaves s kind a b).heads ≡ sp.us ++ received i h ∷ sp.vs = ap (λ o. bring_heads b o s.heads) told ∙ sp.changed (received i) in
      moved_joined m F [] (brought sp.us h sp.vs sp.whole si.us si.vs i) (bring_leaves s kind a b) (λ x j. moved (λ z. In x z) items-eq j) (λ x j. moved (λ z. In x z) (sym items-eq) j)
      (brought_joined sp.us h sp.vs sp.whole si.us si.vs i (told_to kind a b i si.passes ∙ sym (eqb-true h.name b sp.passes)) si.whole)
      refl heads_eq refl
