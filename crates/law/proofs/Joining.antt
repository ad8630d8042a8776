-- A state whose stamps keep the invariant, with what the coding leaves out.
use Rattle.std.proofs.Common.{◌≡◌, ℕ, suc, ◌+◌, ◌<◌, true, List, ◌∷◌, ◌++◌, map, Some, None, Option, sym, refl, ap, ◌∙◌, subst, inl, inr, arith}
use Rattle.protocol.specs.declared.state.HeadState.{HeadState}
use Rattle.protocol.specs.declared.state.HeadState.TheVariants.{Listening, Inquiring, Active, Stranded}
use Rattle.protocol.specs.Heads.{Copy, Head, is_active}
use Rattle.protocol.specs.Items.{Item, to_each}
use Rattle.protocol.specs.Sites as sites
use Rattle.protocol.specs.Sites.{State}
use Rattle.protocol.specs.Make.{Setup}
use Rattle.law.proofs.Coded.{In, Site}
use Rattle.law.proofs.Coded as code
use Rattle.law.proofs.Base.{in_map, map_in, moved, in_less, in_more}
use Rattle.law.proofs.Inv.{Inv, Stage, listens, inquires, acts, not_act_inq, not_lis_act}
use Rattle.law.proofs.Starting.{mail_inv}
use Rattle.law.proofs.Coding.{Ghost, Tied, code_copy, code_state, code_head, code_item, coded, map_fuse}

-- an inquiring head asked D ticks after its swap
abbrev pub Own : {V : Type 0} → ℕ → Head V → Type 0
Own delay h = h.state ≡ Inquiring → h.inquiry_tick ≡ h.swap_tick + delay

-- the site's own numbers
pub record Sited {V : Type 0} (m : Setup V) (site : sites.Site) : Type 0 where
  pub delay : site.delay ≡ m.delay
  pub swap_limit : site.swap_limit ≡ m.swap_limit
  pub next_above : m.size < site.next_name

-- F: the stamp of the last finished write; todo: the names that have yet to turn
pub record Joined {V : Type 0} (m : Setup V) (F : ℕ) (todo : List ℕ) (s : State V) : Type 0 where
  pub ghost : Ghost
  pub fin_is : ghost.fin ≡ suc F
  pub tied : Tied ghost s.site.under_way
  pub inv : Inv m.delay m.swap_limit m.size todo (coded m.size ghost s)
  pub sited : Sited m s.site
  pub own : (h : Head V) → In h s.heads → Own m.delay h

-- the same items in another order
module _ {V : Type 0} (m : Setup V) (F : ℕ) (todo : List ℕ) (s t : State V) (to : (i : Item V) → In i s.items → In i t.items) (from : (i : Item V) → In i t.items → In i s.items) (J : Joined m F todo s) where
  coded_to : (xs ys : List (Item V)) → ((i : Item V) → In i xs → In i ys) → (x : code.Item) → In x (map code_item xs) → In x (map code_item ys)
  coded_to xs ys f x j = let (i, k, e) = map_in code_item xs j in moved (λ z. In z (map code_item ys)) e (in_map code_item (f i k))

  abbrev mailed : State V
  mailed = record { site = s.site; heads = s.heads; places = s.places; items = t.items; log = t.log }

  mailed_joined : Joined m F todo mailed
  mailed_joined = record {
    ghost = J.ghost;
    fin_is = J.fin_is;
    tied = J.tied;
    inv = mail_inv m.delay m.swap_limit m.size todo (coded m.size J.ghost s) (map code_item t.items) (coded_to s.items t.items to) (coded_to t.items s.items from) J.inv;
    sited = J.sited;
    own = J.own;
  }

  pub moved_joined : t.site ≡ s.site → t.heads ≡ s.heads → t.places ≡ s.places → Joined m F todo t
  moved_joined e₁ e₂ e₃ =
      subst (λ z. Joined m F todo (record { site = z; heads = t.heads; places = t.places; items = t.items; log = t.log })) (sym e₁)
      (subst (λ z. Joined m F todo (record { site = s.site; heads = z; places = t.places; items = t.items; log = t.log })) (sym e₂)
      (subst (λ z. Joined m F todo (record { site = s.site; heads = s.heads; places = z; items = t.items; log = t.log })) (sym e₃) mailed_joined))

-- one head changes, in its place
module _ {V : Type 0} (us : List (Head V)) (h h' : Head V) (vs : List (Head V)) where
  pub each_changed : (P : Head V → Type 0) → P h' → ((g : Head V) → In g (us ++ h ∷ vs) → P g) → (g : Head V) → In g (us ++ h' ∷ vs) → P g
  each_changed P p f g i = elim (in_less h' us vs i) [ inl e ↦ moved P e p | inr j ↦ f g (in_more h us vs j) ]

-- one item to each of these heads
pub code_letters : {V : Type 0} (n : ℕ) (item : ℕ → Item V) (f : code.Head → code.Item) → ((h : Head V) → f (code_head n h) ≡ code_item (item h.name)) → (hs : List (Head V)) → map f (map (code_head n) hs) ≡ map code_item (to_each item hs)
code_letters n item f e hs =
    map_fuse (code_head n) f (λ h. code_item (item h.name)) e hs
    ∙ sym (map_fuse (λ h. item h.name) code_item (λ h. code_item (item h.name)) (λ h. refl) hs)

-- a copy that is there
pub some_copy : {V : Type 0} (o : Option (Copy V)) → 0 < code_copy o → (c : Copy V) × (o ≡ Some c)
some_copy None lt = absurd (omega arith)
some_copy (Some c) lt = (c, refl)

pub phase_active : (q : HeadState) → q ≡ Active → code_state q ≡ code.active
phase_active q e = ap code_state e

pub active_from : (q : HeadState) → is_active q ≡ true → q ≡ Active
active_from Listening e = let z : ◌≡◌ {A = ℕ} 0 1 = cc in absurd (omega arith)
active_from Inquiring e = let z : ◌≡◌ {A = ℕ} 0 1 = cc in absurd (omega arith)
active_from Active e = refl
active_from Stranded e = let z : ◌≡◌ {A = ℕ} 0 1 = cc in absurd (omega arith)

-- an active head has a copy
pub active_copy : {V : Type 0} (n : ℕ) {D t : ℕ} {todo : List ℕ} (h : Head V) → h.state ≡ Active → Stage D t todo (code_head n h) → (c : Copy V) × (h.copy ≡ Some c)
active_copy n h e (listens p q r u) = absurd (not_lis_act p (phase_active h.state e))
active_copy n h e (inquires p q r u) = absurd (not_act_inq (phase_active h.state e) p)
active_copy n h e (acts p q) = some_copy h.copy q
