-- No two items have the same kind, sender and receiver.
use Rattle.std.proofs.Common.{◌≡◌, ℕ, ◌≤◌, Bool, not, eqb, List, ◌∷◌, ◌++◌, Some, Option, sym, refl, ap, ◌∙◌, inl, inr, arith}
use Rattle.std.proofs.lemmas.Bool.{false≢true}
use Rattle.std.proofs.lemmas.Bool.Decides.{nat_tests}
use Rattle.protocol.specs.declared.kind.MailKind.{MailKind}
use Rattle.protocol.specs.declared.kind.MailKind.TheVariants.{Write, Inquiry, Reply}
use Rattle.protocol.specs.Places.{first}
use Rattle.protocol.specs.Heads.{Head}
use Rattle.protocol.specs.Items.{Item, write, inquiry, reply, kind_of, sender_of, receiver_of, is_told}
use Rattle.protocol.specs.Sites.{UnderWay}
use Rattle.law.proofs.Coded.{In}
use Rattle.law.proofs.Base.{in_less}
use Rattle.law.proofs.Firsts.{Found, absent, present, first_is}
use Rattle.law.proofs.Totals.{bit, bit_most, total, total_append, total_put, total_has, total_le}
use Rattle.law.proofs.Weights.{item_weight, asked_at, write_to}
use Rattle.law.proofs.Housed.{Housed}
use Rattle.law.proofs.Rooms.{told_itself}

module _ {V : Type 0} (lawful : V → Bool) (n limit next : ℕ) (way : Option UnderWay) (heads : List (Head V)) (items : List (Item V)) (k : Housed lawful n limit next way heads items) where
  told_write : (a b : ℕ) (i : Item V) → bit (is_told Write a b i) ≤ write_to b i
  told_write a b (write c d t o) = grind (arith, nat_tests)
  told_write a b (inquiry c d t) = omega arith
  told_write a b (reply c d t o) = omega arith

  told_inquiry : (a b : ℕ) (i : Item V) → bit (is_told Inquiry a b i) ≤ item_weight (asked_at b a) i
  told_inquiry a b (write c d t o) = omega arith
  told_inquiry a b (inquiry c d t) = grind (arith, nat_tests)
  told_inquiry a b (reply c d t o) = omega arith

  told_reply : (a b : ℕ) (i : Item V) → bit (is_told Reply a b i) ≤ item_weight (asked_at a b) i
  told_reply a b (write c d t o) = omega arith
  told_reply a b (inquiry c d t) = omega arith
  told_reply a b (reply c d t o) = omega arith

  pub told_once : (kind : MailKind) (a b : ℕ) → total (λ i. bit (is_told kind a b i)) items ≤ 1
  told_once Write a b = let c = total_le (λ i. bit (is_told Write a b i)) (write_to b) items (λ i j. told_write a b i) in let d = k.once b in omega arith
  told_once Inquiry a b = let c = total_le (λ i. bit (is_told Inquiry a b i)) (item_weight (asked_at b a)) items (λ i j. told_inquiry a b i) in let d = k.pairs b a in let e = bit_most (not (eqb b a)) in omega arith
  told_once Reply a b = let c = total_le (λ i. bit (is_told Reply a b i)) (item_weight (asked_at a b)) items (λ i j. told_reply a b i) in let d = k.pairs a b in let e = bit_most (not (eqb a b)) in omega arith

  abbrev like : Item V → Item V → ℕ
  like i x = bit (is_told (kind_of i) (sender_of i) (receiver_of i) x)

  first_is_it : (i : Item V) → In i items → {o : Option (Item V)} → Found (is_told (kind_of i) (sender_of i) (receiver_of i)) items o → o ≡ Some i
  first_is_it i j (absent f) = absurd (false≢true (sym (f i j) ∙ told_itself i))
  first_is_it i j (present x s) = elim (in_less x s.us s.vs (rw s.whole at j)) [
    | inl e ↦ ap Some e
    | inr z ↦
        let a = total_has (like i) (s.us ++ s.vs) z in
        let b = total_append (like i) s.us s.vs in
        let c = total_put (like i) s.us x s.vs in
        let d = told_once (kind_of i) (sender_of i) (receiver_of i) in
        let e : total (like i) items ≡ total (like i) (s.us ++ x ∷ s.vs) = ap (total (like i)) s.whole in
        let f : like i i ≡ 1 = rw (told_itself i) refl in
        let g : like i x ≡ 1 = ap bit s.passes in
        absurd (omega arith)
  ]

  -- bring takes the very item that is meant
  pub told_first : (i : Item V) → In i items → first (is_told (kind_of i) (sender_of i) (receiver_of i)) items ≡ Some i
  told_first i j = first_is_it i j (first_is (is_told (kind_of i) (sender_of i) (receiver_of i)) items)
