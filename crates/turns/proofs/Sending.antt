-- What a turn sends and drops, when there is room for it.
use Rattle.std.proofs.Common.{◌≡◌, ℕ, suc, ◌+◌, ◌-◌, ◌<◌, ◌≤◌, min, Bool, true, false, cond, leb, List, ◌∷◌, ◌++◌, map, length, get_or, take, drop, is_some, Some, None, Ok, Err, is_ok, filter, Option, Result, sym, refl, ap, ◌∙◌, subst, arith, drop-cons}
use Rattle.std.specs.List.{remove}
use Rattle.std.specs.List.Sorted.{IsPermutation}
use Rattle.std.proofs.lemmas.List.{length-map, length-append, length-take, length-drop, map-append, take-map, drop-map, take-append-drop}
use Rattle.std.proofs.lemmas.Bool.{leb-true, le-leb, false≢true}
use Rattle.protocol.specs.declared.refusal.Refusal.{Refusal}
use Rattle.protocol.specs.declared.kind.MailKind.TheVariants.{Inquiry, Reply}
use Rattle.protocol.specs.Heads.{Copy, Head as Told, inquiring_named}
use Rattle.protocol.specs.Items.{Item, inquiry, reply, is_reply_to, dropping, put, to_each}
use Rattle.protocol.specs.Tick.{Turn, rests, activates, activates_or, turned_by, turn_mail}
use Rattle.records.specs.declared.copied.Copied.{Copied}
use Rattle.records.specs.Copies.{copied}
use Rattle.tables.specs.declared.head.Head.{Head}
use Rattle.tables.specs.HeadPlaces.{head_of, heads_of}
use Rattle.tables.specs.MailPlaces.{items_of, addressed}
use Rattle.tables.specs.Passes.{sent, names_but}
use Rattle.tables.proofs.SentItems.{sent_all, each_to_others}
use Rattle.mail.specs.Sending.{place_from}

length_but : {X : Type 0} (xs : List X) (i : ℕ) → length (remove xs i) ≡ min i (length xs) + (length xs - suc i)
length_but xs i = length-append (take i xs) (drop (suc i) xs) ∙ omega (arith, length-take i xs, length-drop (suc i) xs)

all_sent : (r : Result (Unit {0}) Refusal) → is_ok r ≡ true → r ≡ Ok tt
all_sent (Ok u) e = refl
all_sent (Err why) e = absurd (false≢true e)

module _ {V : Type 0} where
  -- what is put behind the items, where there is room
  put_some : (places : ℕ) (is new items : List (Item V)) → put places is new ≡ Some items → (is ++ new ≡ items) × (length is + length new ≤ places)
  put_some places is new items e = go (leb (length is + length new) places) refl e
    where
      go : (b : Bool) → leb (length is + length new) places ≡ b → cond b (Some (is ++ new)) None ≡ Some items → (is ++ new ≡ items) × (length is + length new ≤ places)
      go true l q = (cc, leb-true (length is + length new) places l)
      go false l q = let z : ◌≡◌ {A = ℕ} 0 1 = cc in absurd (omega arith)

  removed_heads : (hs : List (Head V)) (i : ℕ) → heads_of (remove hs i) ≡ remove (heads_of hs) i
  removed_heads hs i =
      map-append head_of (take i hs) (drop (suc i) hs)
      ∙ ap (λ ks. ks ++ map head_of (drop (suc i) hs)) (sym (take-map head_of i hs))
      ∙ ap (λ ks. take i (heads_of hs) ++ ks) (sym (drop-map head_of (suc i) hs))

  -- an INQUIRY goes to every head but the one in place i, where there is room for all of them
  pub asked : (places x time : ℕ) (c : Copied V) (hs : List (Head V)) (i : ℕ) (is es items : List (Item V)) (r : Result (Unit {0}) Refusal) → is_ok r ≡ leb (length is + length (names_but i hs)) places → (r ≡ Ok tt → IsPermutation es (is ++ items_of (map (addressed (place_from Inquiry x c time)) (names_but i hs)))) → put places is (to_each (λ b. inquiry x b time) (remove (heads_of hs) i)) ≡ Some items → IsPermutation es items
  asked places x time c hs i is es items r q s e =
      let f : ℕ → Item V = λ b. inquiry x b time in
      let new = to_each f (remove (heads_of hs) i) in
      let p = put_some places is new items e in
      let n : length new ≡ length (names_but i hs) =
      length-map (remove (heads_of hs) i) (λ h. f h.name)
      ∙ length_but (heads_of hs) i
      ∙ ap (λ m. min i m + (m - suc i)) (length-map hs head_of ∙ sym (length-map hs (λ h. h.name)))
      ∙ sym (length_but (map (λ h. h.name) hs) i) in
      let room : is_ok r ≡ true = q ∙ le-leb (length is + length (names_but i hs)) places (omega (arith, p.1)) in
      subst (IsPermutation es) (ap (λ zs. is ++ zs) (each_to_others (place_from Inquiry x c time) f (λ b. refl) i hs ∙ ap (to_each f) (removed_heads hs i)) ∙ p.0) (s (all_sent r room))

  -- the turn of a head that turns active with this copy
  pub replied : (places x time : ℕ) (copy : Copied V) (c : Copy V) (ds es items : List (Item V)) (names : List ℕ) → copied copy ≡ Some c → IsPermutation es (ds ++ sent (places - length ds) (place_from Reply x copy time) names) → put places ds (map (λ y. reply x y time (Some c)) names) ≡ Some items → IsPermutation es items
  replied places x time copy c ds es items names k s e =
      let f : ℕ → Item V = λ y. reply x y time (Some c) in
      let p = put_some places ds (map f names) items e in
      let l : length names ≤ places - length ds = omega (arith, p.1, length-map names f) in
      let all : sent (places - length ds) (place_from Reply x copy time) names ≡ map f names = sent_all (place_from Reply x copy time) f (λ b. ap (λ o. Some (reply x b time o)) k) (places - length ds) names l in
      subst (IsPermutation es) (ap (λ zs. ds ++ zs) all ∙ p.0) s

  -- the heads, with the one in place i apart
  pub apart : (ks : List (Told V)) (i : ℕ) (h : Told V) → i < length ks → get_or ks i h ≡ h → take i ks ++ h ∷ drop (suc i) ks ≡ ks
  apart ks i h l e = ap (λ k. take i ks ++ k ∷ drop (suc i) ks) (sym e) ∙ ap (λ zs. take i ks ++ zs) (sym (drop-cons ks i h l)) ∙ take-append-drop i ks

  -- a copy that is there
  copy_there : (o : Option (Copy V)) → true ≡ is_some o → (c : Copy V) × (o ≡ Some c)
  copy_there None e = absurd (false≢true (sym e))
  copy_there (Some c) e = (c, refl)

  -- the turn of the head in place i, which has turned
  module _ (places time : ℕ) (ks : List (Told V)) (i : ℕ) (h : Told V) (is es items : List (Item V)) (t : Turn V) (e : turn_mail places time (take i ks) h (drop (suc i) ks) is t ≡ Some items) where
    abbrev Made : Turn V → Type 0
    Made u = turn_mail places time (take i ks) h (drop (suc i) ks) is u ≡ Some items

    pub as_activation : (copy : Copied V) → t ≡ activates_or rests (copied copy) → true ≡ is_some (copied copy) → i < length ks → get_or ks i (turned_by time t h) ≡ turned_by time t h
        → IsPermutation es (dropping (is_reply_to h.name) is ++ sent (places - length (dropping (is_reply_to h.name) is)) (place_from Reply h.name copy time) (filter (λ x. inquiring_named x ks) h.held))
        → IsPermutation es items
    as_activation copy q some l r s =
        let (c, k) = copy_there (copied copy) some in
        let w : t ≡ activates c = q ∙ ap (activates_or rests) k in
        let ds = dropping (is_reply_to h.name) is in
        let f : ℕ → Item V = λ y. reply h.name y time (Some c) in
        let m : take i ks ++ turned_by time (activates c) h ∷ drop (suc i) ks ≡ ks = ap (λ u. take i ks ++ turned_by time u h ∷ drop (suc i) ks) (sym w) ∙ apart ks i (turned_by time t h) l r in
        replied places h.name time copy c ds es items (filter (λ x. inquiring_named x ks) h.held) k s
        (subst (λ hs. put places ds (map f (filter (λ x. inquiring_named x hs) h.held)) ≡ Some items) m (subst Made w e))
