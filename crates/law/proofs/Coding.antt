-- A state by its stamps alone, coded in numbers.
use Rattle.std.proofs.Common.{◌≡◌, ℕ, suc, ◌+◌, ◌<◌, ◌≤◌, max, Bool, true, false, cond, not, ◌&&◌, ◌||◌, eqb, ltb, leb, List, [], ◌∷◌, ◌++◌, map, length, Some, None, filter, Option, sym, refl, ap, ◌∙◌, ap₂, inl, inr, arith}
use Rattle.std.proofs.lemmas.Bool.Decides.{nat_tests}
use Rattle.std.proofs.lemmas.Bool.{eqb-true, eq-eqb, ne_eqb, cond-true, cond-false, cases_Bool, lt-leb}
use Rattle.std.proofs.lemmas.List.{map-append}
use Rattle.protocol.specs.declared.state.HeadState.{HeadState}
use Rattle.protocol.specs.declared.state.HeadState.TheVariants.{Listening, Inquiring, Active, Stranded}
use Rattle.protocol.specs.Heads as model
use Rattle.protocol.specs.Places.{change_first}
use Rattle.protocol.specs.Heads.{Copy, newer, is_named, is_inquiring, inquiring_named}
use Rattle.protocol.specs.Items as mail
use Rattle.protocol.specs.Items.{sent_of, is_reply_to, goes_with, dropping, put}
use Rattle.protocol.specs.Swap.{newcomer}
use Rattle.protocol.specs.Sites.{UnderWay, State}
use Rattle.law.proofs.Coded as code
use Rattle.law.proofs.Coded.{In, here, there, Phase, listening, inquiring, active, stranded, Head, Item, write, inquiry, reply, Site, sentAt, outlives, wanted, isAsking, isInquiring, others}
use Rattle.law.proofs.Base.{in_mid, put_self, inq_has}
use Rattle.law.proofs.Count.{Distinct}

-- none is 0, a stamp one more
abbrev pub code_copy : {V : Type 0} → Option (Copy V) → ℕ
code_copy None = 0
code_copy (Some c) = suc c.stamp

abbrev pub code_state : HeadState → Phase
code_state Listening = listening
code_state Inquiring = inquiring
code_state Active = active
code_state Stranded = stranded

-- the first n names came with the site; a newcomer has one more than its swap tick
abbrev pub code_born : ℕ → ℕ → ℕ → ℕ
code_born n name tick = cond (leb name n) 0 (suc tick)

abbrev pub code_head : {V : Type 0} → ℕ → model.Head V → Head
code_head n h = record { name = h.name; phase = code_state h.state; born = code_born n h.name h.swap_tick; copy = code_copy h.copy; best = code_copy h.best; held = h.held }

abbrev pub code_item : {V : Type 0} → mail.Item V → Item
code_item (mail.write a b t c) = write (code_copy c) a b t
code_item (mail.inquiry a b t) = inquiry a b t
code_item (mail.reply a b t c) = reply (code_copy c) a b t

-- what the coding adds: one more than the stamp of the last finished write, that of the newest write, its writer and its begin
pub record Ghost : Type 0 where
  pub fin : ℕ
  pub top : ℕ
  pub writer : ℕ
  pub begin : ℕ

-- n: how many heads came with the site
abbrev pub coded : {V : Type 0} → ℕ → Ghost → State V → Site
coded n g s = record { heads = map (code_head n) s.heads; mail = map code_item s.items; time = s.site.time; swaps = s.site.swaps; fin = g.fin; top = g.top; writer = g.writer; begin = g.begin; next = s.site.next_name }

-- the site's own record of the write under way agrees
abbrev pub Tied : Ghost → Option UnderWay → Type 0
Tied g None = g.fin ≡ g.top
Tied g (Some u) = (g.fin < g.top) × (g.writer ≡ u.writer) × (g.begin ≡ u.begin)

-- of two copies the newer one is the higher number
pub code_newer : {V : Type 0} (a b : Option (Copy V)) → code_copy (newer a b) ≡ max (code_copy a) (code_copy b)
code_newer None None = omega arith
code_newer (Some a) None = omega arith
code_newer None (Some b) = omega arith
code_newer (Some a) (Some b) = go (ltb a.stamp b.stamp) refl
  where
    go : (x : Bool) → ltb a.stamp b.stamp ≡ x → code_copy (cond x (Some b) (Some a)) ≡ max (suc a.stamp) (suc b.stamp)
    go true e = let h : a.stamp < b.stamp = grind (arith, nat_tests) in omega arith
    go false e = let h : b.stamp ≤ a.stamp = grind (arith, nat_tests) in omega arith

pub code_sent : {V : Type 0} (i : mail.Item V) → sentAt (code_item i) ≡ sent_of i
code_sent (mail.write a b t c) = refl
code_sent (mail.inquiry a b t) = refl
code_sent (mail.reply a b t c) = refl

pub code_wanted : {V : Type 0} (x : ℕ) (i : mail.Item V) → wanted x (code_item i) ≡ not (is_reply_to x i)
code_wanted x (mail.write a b t c) = refl
code_wanted x (mail.inquiry a b t) = refl
code_wanted x (mail.reply a b t c) = refl

pub code_outlives : {V : Type 0} (x : ℕ) (i : mail.Item V) → outlives x (code_item i) ≡ not (goes_with x i)
code_outlives x (mail.write a b t c) = go (eqb b x)
  where
    go : (q : Bool) → not q ≡ not (q || false)
    go true = refl
    go false = refl
code_outlives x (mail.inquiry a b t) = go (eqb a x) (eqb b x)
  where
    go : (p q : Bool) → (not p && not q) ≡ not (q || p)
    go true true = refl
    go true false = refl
    go false true = refl
    go false false = refl
code_outlives x (mail.reply a b t c) = go (eqb b x)
  where
    go : (q : Bool) → not q ≡ not (q || false)
    go true = refl
    go false = refl

pub kept_map : {X Y : Type 0} (f : X → Y) (p : X → Bool) (q : Y → Bool) → ((x : X) → q (f x) ≡ p x) → (xs : List X) → map f (filter p xs) ≡ filter q (map f xs)
kept_map f p q e [] = refl
kept_map f p q e (x ∷ xs) = rw (e x) (go (p x) (kept_map f p q e xs))
  where
    go : (b : Bool) → map f (filter p xs) ≡ filter q (map f xs) → map f (cond b (x ∷ filter p xs) (filter p xs)) ≡ cond b (f x ∷ filter q (map f xs)) (filter q (map f xs))
    go true r = ap (λ ys. f x ∷ ys) r
    go false r = r

-- the mail that a swap leaves, and the mail that a turn leaves
pub code_swap_mail : {V : Type 0} (x : ℕ) (items : List (mail.Item V)) → map code_item (dropping (goes_with x) items) ≡ filter (outlives x) (map code_item items)
code_swap_mail x items = kept_map code_item (λ i. not (goes_with x i)) (outlives x) (code_outlives x) items

pub code_turn_mail : {V : Type 0} (x : ℕ) (items : List (mail.Item V)) → map code_item (dropping (is_reply_to x) items) ≡ filter (wanted x) (map code_item items)
code_turn_mail x items = kept_map code_item (λ i. not (is_reply_to x i)) (wanted x) (code_wanted x) items

-- lists
pub map_fuse : {X Y Z : Type 0} (f : X → Y) (g : Y → Z) (h : X → Z) → ((x : X) → g (f x) ≡ h x) → (xs : List X) → map g (map f xs) ≡ map h xs
map_fuse f g h e [] = refl
map_fuse f g h e (x ∷ xs) = ap₂ (λ y ys. y ∷ ys) (e x) (map_fuse f g h e xs)

pub kept_same : {X : Type 0} (p q : X → Bool) → ((x : X) → p x ≡ q x) → (xs : List X) → filter p xs ≡ filter q xs
kept_same p q e [] = refl
kept_same p q e (x ∷ xs) = ap₂ (λ b ys. cond b (x ∷ ys) ys) (e x) (kept_same p q e xs)

pub kept_all : {X : Type 0} (p : X → Bool) (xs : List X) → ((x : X) → In x xs → p x ≡ true) → filter p xs ≡ xs
kept_all p [] f = refl
kept_all p (x ∷ xs) f = cond-true (p x) (x ∷ filter p xs) (filter p xs) (f x (here refl)) ∙ ap (λ ys. x ∷ ys) (kept_all p xs (λ y i. f y (there i)))

-- with distinct names, a change of the head h is one at its place, and the others are all but it
pub put_at : (us : List Head) (h h' : Head) (vs : List Head) → Distinct (us ++ h ∷ vs) → map (code.put h.name h') (us ++ h ∷ vs) ≡ us ++ h' ∷ vs
put_at [] h h' vs d = ap₂ (λ x xs. x ∷ xs) (cond-true (eqb h.name h.name) h' h (eq-eqb h.name h.name refl)) (put_self h.name h' vs (λ g i e. absurd (d.0 g i e)))
put_at (u ∷ us) h h' vs d = ap₂ (λ x xs. x ∷ xs) (cond-false (eqb u.name h.name) h' u (ne_eqb u.name h.name (λ e. d.0 h (in_mid h us vs refl) (sym e)))) (put_at us h h' vs d.1)

others_at : (us : List Head) (h : Head) (vs : List Head) → Distinct (us ++ h ∷ vs) → others h.name (us ++ h ∷ vs) ≡ us ++ vs
others_at [] h vs d = rw (eq-eqb h.name h.name refl) (kept_all (λ g. not (eqb g.name h.name)) vs (λ g i. rw (ne_eqb g.name h.name (d.0 g i))))
others_at (u ∷ us) h vs d = rw (ne_eqb u.name h.name (λ e. d.0 h (in_mid h us vs refl) (sym e))) (ap (λ xs. u ∷ xs) (others_at us h vs d.1))

code_asking : (q : HeadState) → isAsking (code_state q) ≡ is_inquiring q
code_asking Listening = refl
code_asking Inquiring = refl
code_asking Active = refl
code_asking Stranded = refl

module _ {V : Type 0} (n : ℕ) where
  abbrev codes : List (model.Head V) → List Head
  codes hs = map (code_head n) hs

  code_mid : (us : List (model.Head V)) (h : model.Head V) (vs : List (model.Head V)) → codes (us ++ h ∷ vs) ≡ codes us ++ code_head n h ∷ codes vs
  code_mid us h vs = map-append (code_head n) us (h ∷ vs)

  pub code_put : (us : List (model.Head V)) (h h' : model.Head V) (vs : List (model.Head V)) → Distinct (codes (us ++ h ∷ vs)) → map (code.put h.name (code_head n h')) (codes (us ++ h ∷ vs)) ≡ codes (us ++ h' ∷ vs)
  code_put us h h' vs d = rw (code_mid us h vs, code_mid us h' vs) (put_at (codes us) (code_head n h) (code_head n h') (codes vs) (rw (code_mid us h vs) at d))

  pub code_others : (us : List (model.Head V)) (h : model.Head V) (vs : List (model.Head V)) → Distinct (codes (us ++ h ∷ vs)) → others h.name (codes (us ++ h ∷ vs)) ≡ codes (us ++ vs)
  code_others us h vs d = rw (code_mid us h vs, map-append (code_head n) us vs) (others_at (codes us) (code_head n h) (codes vs) (rw (code_mid us h vs) at d))

  -- a head put in the place of x, whether x is there or not
  pub code_replaced : (x : ℕ) (h' : model.Head V) (hs : List (model.Head V)) → Distinct (codes hs) → codes (change_first (is_named x) (λ _. h') hs) ≡ map (code.put x (code_head n h')) (codes hs)
  code_replaced x h' [] d = refl
  code_replaced x h' (h ∷ hs) d = go (eqb h.name x) refl (code_replaced x h' hs d.1)
    where
      go : (b : Bool) → eqb h.name x ≡ b → codes (change_first (is_named x) (λ _. h') hs) ≡ map (code.put x (code_head n h')) (codes hs) → codes (cond b (h' ∷ hs) (h ∷ change_first (is_named x) (λ _. h') hs)) ≡ cond b (code_head n h') (code_head n h) ∷ map (code.put x (code_head n h')) (codes hs)
      go true e r = ap (λ xs. code_head n h' ∷ xs) (sym (put_self x (code_head n h') (codes hs) (λ g i q. absurd (d.0 g i (q ∙ sym (eqb-true h.name x e))))))
      go false e r = ap (λ xs. code_head n h ∷ xs) r

  pub code_inquiring : (hs : List (model.Head V)) (x : ℕ) → Distinct (codes hs) → isInquiring (codes hs) x ≡ inquiring_named x hs
  code_inquiring [] x d = refl
  code_inquiring (h ∷ hs) x d = go (eqb h.name x) refl (code_inquiring hs x d.1)
    where
      alone : h.name ≡ x → isInquiring (codes hs) x ≡ false
      alone e = elim (cases_Bool (isInquiring (codes hs) x)) [ inl q ↦ let (g, i, r, p) = inq_has (codes hs) x q in absurd (d.0 g i (r ∙ sym e)) | inr q ↦ q ]

      go : (b : Bool) → eqb h.name x ≡ b → isInquiring (codes hs) x ≡ inquiring_named x hs → ((b && isAsking (code_state h.state)) || isInquiring (codes hs) x) ≡ model.holds_of is_inquiring (model.state_by (cond b (Some h) (model.head_named x hs)))
      go true e r = rw (alone (eqb-true h.name x e), code_asking h.state) (last (is_inquiring h.state))
        where
          last : (b : Bool) → (b || false) ≡ b
          last true = refl
          last false = refl
      go false e r = r

-- items put in the mail
pub put_some : {V : Type 0} (places : ℕ) (items new : List (mail.Item V)) {mail' : List (mail.Item V)} → put places items new ≡ Some mail' → items ++ new ≡ mail'
put_some places items new {mail'} e = go (leb (length items + length new) places) e
  where
    go : (b : Bool) → cond b (Some (items ++ new)) None ≡ Some mail' → items ++ new ≡ mail'
    go true q = cc
    go false q = let z : ◌≡◌ {A = ℕ} 0 1 = cc in absurd (omega arith)

-- the newcomer that a swap leaves
pub code_newcomer : (V : Type 0) (n x tick free : ℕ) → n < x → code_head {V = V} n (newcomer x tick free) ≡ code.fresh x tick
code_newcomer V n x tick free lt = rw (lt-leb x n lt)
