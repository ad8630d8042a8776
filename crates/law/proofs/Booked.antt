-- Equal stamps carry equal values: there is one book of values by their stamps, and every copy anywhere goes by it.
use Rattle.std.proofs.Common.{◌≡◌, ℕ, ◌+◌, Bool, true, false, cond, not, ltb, leb, ◌⊎◌, List, [], ◌∷◌, ◌++◌, map, length, Some, None, filter, Option, unwrap_or, sym, refl, subst, inl, inr, arith}
use Rattle.protocol.specs.declared.state.HeadState.{HeadState}
use Rattle.protocol.specs.declared.state.HeadState.TheVariants.{Listening, Inquiring, Active, Stranded}
use Rattle.protocol.specs.declared.kind.MailKind.{MailKind}
use Rattle.protocol.specs.Places.{first, all_but_first, change_first}
use Rattle.protocol.specs.Heads.{Copy, Head, newer, is_named, is_active, head_named, holding, forgetting, inquiring_named}
use Rattle.protocol.specs.Items.{Item, write, inquiry, reply, is_told, is_reply_to, dropping, put, to_each}
use Rattle.protocol.specs.Swap.{newcomer}
use Rattle.protocol.specs.Bring.{received, answered, bring_heads, bring_answers}
use Rattle.protocol.specs.Tick.{Turn, rests, inquires, activates, strands, activates_or, turn_in, turn, turned_by, turned, turn_mail, then_do, turns_mail}
use Rattle.law.proofs.Coded.{In, here, there}
use Rattle.law.proofs.Base.{in_either, kept_in, map_in}
use Rattle.law.proofs.Coding.{put_some}
use Rattle.law.proofs.Firsts.{Found, absent, present, first_is, split_in, in_change, in_rest}

-- the copy that an item carries
abbrev pub carried : {V : Type 0} → Item V → Option (Copy V)
carried (write a b t c) = c
carried (inquiry a b t) = None
carried (reply a b t c) = c

abbrev pub By : {V : Type 0} → (ℕ → V) → Option (Copy V) → Type 0
By book None = Unit {0}
By book (Some c) = c.value ≡ book c.stamp

pub record ByHead {V : Type 0} (book : ℕ → V) (h : Head V) : Type 0 where
  pub copy : By book h.copy
  pub best : By book h.best

abbrev pub ByHeads : {V : Type 0} → (ℕ → V) → List (Head V) → Type 0
ByHeads {V} book hs = (h : Head V) → In h hs → ByHead book h

abbrev pub ByItems : {V : Type 0} → (ℕ → V) → List (Item V) → Type 0
ByItems {V} book is = (i : Item V) → In i is → By book (carried i)

-- what is put in the mail is there after, and nothing else is new
pub in_mail : {V : Type 0} (places : ℕ) (items new : List (Item V)) {i : Item V} → In i (unwrap_or (put places items new) items) → In i items ⊎ In i new
in_mail places items new {i} j = go (leb (length items + length new) places) j
  where
    go : (b : Bool) → In i (unwrap_or (cond b (Some (items ++ new)) None) items) → In i items ⊎ In i new
    go true k = in_either items new k
    go false k = inl k

module _ {V : Type 0} (book : ℕ → V) where
  by_newer : (a b : Option (Copy V)) → By book a → By book b → By book (newer a b)
  by_newer None None p q = tt
  by_newer None (Some b) p q = q
  by_newer (Some a) None p q = p
  by_newer (Some a) (Some b) p q = go (ltb a.stamp b.stamp)
    where
      go : (x : Bool) → By book (cond x (Some b) (Some a))
      go true = q
      go false = p

  by_change : (p : Head V → Bool) (f : Head V → Head V) → ((h : Head V) → ByHead book h → ByHead book (f h)) → (hs : List (Head V)) → ByHeads book hs → ByHeads book (change_first p f hs)
  by_change p f k hs b h i = elim (in_change p f hs i) [
    | inl j ↦ b h j
    | inr (g, j, e) ↦ subst (ByHead book) e (k g (b g j))
  ]

  -- swap
  by_forgetting : (x : ℕ) (hs : List (Head V)) → ByHeads book hs → ByHeads book (map (forgetting x) hs)
  by_forgetting x hs b h i =
      let (g, j, e) = map_in (forgetting x) hs i in
      let r : ByHead book (forgetting x g) = record { copy = (b g j).copy; best = (b g j).best } in
      subst (ByHead book) e r

  pub by_swap : (x y T free : ℕ) (hs : List (Head V)) → ByHeads book hs → ByHeads book (change_first (is_named x) (λ _. newcomer y T free) (map (forgetting x) hs))
  by_swap x y T free hs b = by_change (is_named x) (λ _. newcomer y T free) (λ h r. record { copy = tt; best = tt }) (map (forgetting x) hs) (by_forgetting x hs b)

  pub by_dropping : (p : Item V → Bool) (is : List (Item V)) → ByItems book is → ByItems book (dropping p is)
  by_dropping p is b i j = b i (kept_in (λ z. not (p z)) is j).0

  -- bring
  by_received : (i : Item V) → By book (carried i) → (h : Head V) → ByHead book h → ByHead book (received i h)
  by_received (write a b t c) q h r = record { copy = by_newer h.copy c r.copy q; best = r.best }
  by_received (inquiry a b t) q h r = go (is_active h.state)
    where
      go : (x : Bool) → ByHead book (cond x h (holding a h))
      go true = r
      go false = record { copy = r.copy; best = r.best }
  by_received (reply a b t c) q h r = record { copy = r.copy; best = by_newer h.best c r.best q }

  by_answered : (time : ℕ) (h : Head V) (i : Item V) → ByHead book h → ByItems book (answered time h i)
  by_answered time h (write a b t c) r j k = elim k [ ]
  by_answered time h (inquiry a b t) r j k = go (is_active h.state) k
    where
      go : (x : Bool) → In j (cond x (reply h.name a time h.copy ∷ []) []) → By book (carried j)
      go true (here e) = subst (λ z. By book (carried z)) e r.copy
      go true (there l) = elim l [ ]
      go false l = elim l [ ]
  by_answered time h (reply a b t c) r j k = elim k [ ]

  module _ (hs : List (Head V)) (is : List (Item V)) (bh : ByHeads book hs) (bi : ByItems book is) where
    pub by_bring_heads : (k : MailKind) (a b : ℕ) → ByHeads book (bring_heads b (first (is_told k a b) is) hs)
    by_bring_heads k a b = go (first (is_told k a b) is) (first_is (is_told k a b) is)
      where
        go : (o : Option (Item V)) → Found (is_told k a b) is o → ByHeads book (bring_heads b o hs)
        go None (absent f) = bh
        go (Some _) (present i s) = by_change (is_named b) (received i) (by_received i (bi i (split_in s))) hs bh

    pub by_bring_items : (k : MailKind) (a b time : ℕ) → ByItems book (all_but_first (is_told k a b) is ++ bring_answers time (head_named b hs) (first (is_told k a b) is))
    by_bring_items k a b time i j = elim (in_either (all_but_first (is_told k a b) is) (bring_answers time (head_named b hs) (first (is_told k a b) is)) j) [
      | inl l ↦ bi i (in_rest (is_told k a b) is l)
      | inr l ↦ go (head_named b hs) (first_is (is_named b) hs) (first (is_told k a b) is) l
    ]
      where
        go : (o : Option (Head V)) → Found (is_named b) hs o → (q : Option (Item V)) → In i (bring_answers time o q) → By book (carried i)
        go None (absent f) q l = elim l [ ]
        go (Some _) (present h s) None l = elim l [ ]
        go (Some _) (present h s) (Some z) l = by_answered time h z (bh h (split_in s)) i l

  -- tick
  abbrev ByTurn : Turn V → Type 0
  ByTurn rests = Unit {0}
  ByTurn inquires = Unit {0}
  ByTurn (activates c) = By book (Some c)
  ByTurn strands = Unit {0}

  by_turn : (D now : ℕ) (h : Head V) → ByHead book h → ByTurn (turn D now h)
  by_turn D now h r = state h.state
    where
      from : (u : Turn V) → ByTurn u → (o : Option (Copy V)) → By book o → ByTurn (activates_or u o)
      from u q None b = q
      from u q (Some c) b = b

      either : (x : Bool) (u : Turn V) → ByTurn u → ByTurn (cond x u rests)
      either true u q = q
      either false u q = tt

      state : (q : HeadState) → ByTurn (turn_in D now h q)
      state Listening = either _ _ (from inquires tt h.copy r.copy)
      state Inquiring = either _ _ (from strands tt (newer h.copy h.best) (by_newer h.copy h.best r.copy r.best))
      state Active = tt
      state Stranded = tt

  by_turned : (now : ℕ) (u : Turn V) → ByTurn u → (h : Head V) → ByHead book h → ByHead book (turned_by now u h)
  by_turned now rests q h r = r
  by_turned now inquires q h r = record { copy = r.copy; best = r.best }
  by_turned now (activates c) q h r = record { copy = q; best = r.best }
  by_turned now strands q h r = record { copy = r.copy; best = r.best }

  pub by_tick_heads : (D now : ℕ) (hs : List (Head V)) → ByHeads book hs → ByHeads book (map (turned D now) hs)
  by_tick_heads D now hs b h i =
      let (g, j, e) = map_in (turned D now) hs i in
      subst (ByHead book) e (by_turned now (turn D now g) (by_turn D now g (b g j)) g (b g j))

  by_put : (places : ℕ) (items new mail : List (Item V)) → ByItems book items → ByItems book new → put places items new ≡ Some mail → ByItems book mail
  by_put places items new mail b n e i j = elim (in_either items new (subst (λ is. In i is) (sym (put_some places items new e)) j)) [ inl k ↦ b i k | inr k ↦ n i k ]

  by_map : {X : Type 0} (f : X → Item V) → ((x : X) → By book (carried (f x))) → (xs : List X) → ByItems book (map f xs)
  by_map f q xs i j = let (x, k, e) = map_in f xs j in subst (λ z. By book (carried z)) e (q x)

  by_some : (items mail : List (Item V)) → ByItems book items → Some items ≡ Some mail → ByItems book mail
  by_some items mail b e = let q : items ≡ mail = cc in subst (ByItems book) q b

  by_turn_mail : (places now : ℕ) (before : List (Head V)) (h : Head V) (after : List (Head V)) (items mail : List (Item V)) (u : Turn V) → ByTurn u → ByItems book items → turn_mail places now before h after items u ≡ Some mail → ByItems book mail
  by_turn_mail places now before h after items mail rests q b e = by_some items mail b e
  by_turn_mail places now before h after items mail inquires q b e = by_put places items (to_each (λ x. inquiry h.name x now) (before ++ after)) mail b (by_map (λ g. inquiry h.name g.name now) (λ g. tt) (before ++ after)) e
  by_turn_mail places now before h after items mail (activates c) q b e =
      by_put places (dropping (is_reply_to h.name) items) (map (λ x. reply h.name x now (Some c)) (filter (λ x. inquiring_named x (before ++ turned_by now (activates c) h ∷ after)) h.held)) mail
      (by_dropping (is_reply_to h.name) items b) (by_map (λ x. reply h.name x now (Some c)) (λ x. q) (filter (λ x. inquiring_named x (before ++ turned_by now (activates c) h ∷ after)) h.held)) e
  by_turn_mail places now before h after items mail strands q b e = by_some (dropping (is_reply_to h.name) items) mail (by_dropping (is_reply_to h.name) items b) e

  by_turns : (places D now : ℕ) (after before : List (Head V)) (items mail : List (Item V)) → ByHeads book after → ByItems book items → turns_mail places D now before after items ≡ Some mail → ByItems book mail
  by_turns places D now [] before items mail bh bi e = by_some items mail bi e
  by_turns places D now (h ∷ after) before items mail bh bi e =
      go (turn_mail places now before h after items (turn D now h)) refl (λ mid b q. by_turns places D now after (before ++ turned D now h ∷ []) mid mail (λ g i. bh g (there i)) b q) e
    where
      go : (o : Option (List (Item V))) → turn_mail places now before h after items (turn D now h) ≡ o → ((mid : List (Item V)) → ByItems book mid → turns_mail places D now (before ++ turned D now h ∷ []) after mid ≡ Some mail → ByItems book mail) →
          then_do o (λ mid. turns_mail places D now (before ++ turned D now h ∷ []) after mid) ≡ Some mail → ByItems book mail
      go None f r q = let z : ◌≡◌ {A = ℕ} 0 1 = cc in absurd (omega arith)
      go (Some mid) f r q = r mid (by_turn_mail places now before h after items mid (turn D now h) (by_turn D now h (bh h (here refl))) bi f) q

  pub by_tick_items : (places D now : ℕ) (hs : List (Head V)) (items : List (Item V)) → ByHeads book hs → ByItems book items → ByItems book (unwrap_or (turns_mail places D now [] hs items) items)
  by_tick_items places D now hs items bh bi = go (turns_mail places D now [] hs items) refl
    where
      go : (o : Option (List (Item V))) → turns_mail places D now [] hs items ≡ o → ByItems book (unwrap_or o items)
      go None e = bi
      go (Some mail) e = by_turns places D now hs [] items mail bh bi e
