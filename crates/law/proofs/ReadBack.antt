-- What the invariant on the stamps says, read back in the model's own words.
use Rattle.std.proofs.Common.{◌≡◌, ℕ, suc, ◌<◌, ◌≤◌, Bool, true, false, cond, leb, ◌⊎◌, [], Some, None, Option, refl, ap, subst, inl, inr, arith}
use Rattle.std.proofs.lemmas.Bool.Decides.{nat_tests}
use Rattle.protocol.specs.declared.state.HeadState.{HeadState}
use Rattle.protocol.specs.declared.state.HeadState.TheVariants.{Listening, Inquiring, Active, Stranded}
use Rattle.protocol.specs.Heads.{Copy, Head}
use Rattle.protocol.specs.Sites.{UnderWay, State}
use Rattle.protocol.specs.Make.{Setup}
use Rattle.law.proofs.Coded.{In, listening, inquiring, active}
use Rattle.law.proofs.Base.{in_map}
use Rattle.law.proofs.Inv as inv
use Rattle.law.proofs.Inv.{HeadOk, Stage}
use Rattle.law.proofs.Coding.{Tied, code_copy, code_state, code_born, code_head, code_item, coded}
use Rattle.law.proofs.Joining.{Joined, some_copy}
use Rattle.law.proofs.Known.{top_stamp, Within, Standing, listens, inquires, acts, KnownHead, Known}

-- codes of states, births and copies, read back
is_listening : (q : HeadState) → code_state q ≡ listening → q ≡ Listening
is_listening Listening e = refl
is_listening Inquiring e = let z : ◌≡◌ {A = ℕ} 0 1 = cc in absurd (omega arith)
is_listening Active e = let z : ◌≡◌ {A = ℕ} 0 1 = cc in absurd (omega arith)
is_listening Stranded e = let z : ◌≡◌ {A = ℕ} 0 1 = cc in absurd (omega arith)

is_inquiring : (q : HeadState) → code_state q ≡ inquiring → q ≡ Inquiring
is_inquiring Listening e = let z : ◌≡◌ {A = ℕ} 0 1 = cc in absurd (omega arith)
is_inquiring Inquiring e = refl
is_inquiring Active e = let z : ◌≡◌ {A = ℕ} 0 1 = cc in absurd (omega arith)
is_inquiring Stranded e = let z : ◌≡◌ {A = ℕ} 0 1 = cc in absurd (omega arith)

is_active : (q : HeadState) → code_state q ≡ active → q ≡ Active
is_active Listening e = let z : ◌≡◌ {A = ℕ} 0 1 = cc in absurd (omega arith)
is_active Inquiring e = let z : ◌≡◌ {A = ℕ} 0 1 = cc in absurd (omega arith)
is_active Active e = refl
is_active Stranded e = let z : ◌≡◌ {A = ℕ} 0 1 = cc in absurd (omega arith)

pub born_old : (n x t : ℕ) → x ≤ n → code_born n x t ≡ 0
born_old n x t l = let e : leb x n ≡ true = grind (arith, nat_tests) in ap (λ b. cond b 0 (suc t)) e

born_most : (n x t : ℕ) → code_born n x t ≤ suc t
born_most n x t = go (leb x n)
  where
    go : (b : Bool) → cond b 0 (suc t) ≤ suc t
    go true = omega arith
    go false = omega arith

at_rest : {name x y : ℕ} → (x < y) ⊎ ((x ≡ y) × In name []) → x < y
at_rest (inl l) = l
at_rest (inr (e, i)) = elim i [ ]

module _ {V : Type 0} where
  within : (low high : ℕ) (o : Option (Copy V)) → (code_copy o ≡ 0) ⊎ (suc low ≤ code_copy o) → code_copy o ≤ suc high → Within low high o
  within low high None l h = tt
  within low high (Some c) (inl e) h = absurd (omega arith)
  within low high (Some c) (inr l) h = (omega arith, omega arith)

  at_most : (high : ℕ) (o : Option (Copy V)) → code_copy o ≤ suc high → Within 0 high o
  at_most high None h = tt
  at_most high (Some c) h = (omega arith, omega arith)

module _ {V : Type 0} (m : Setup V) (F : ℕ) (s : State V) (J : Joined m F [] s) where
  top_is : J.ghost.top ≡ suc (top_stamp F s.site.under_way)
  top_is = go s.site.under_way J.tied
    where
      go : (o : Option UnderWay) → Tied J.ghost o → J.ghost.top ≡ suc (top_stamp F o)
      go None t = omega (arith, J.fin_is)
      go (Some u) (lt, _, _) = omega (arith, J.fin_is, J.inv.top_fin)

  module _ (h : Head V) (i : In h s.heads) where
    ok : HeadOk m.delay (coded m.size J.ghost s) [] (code_head m.size h)
    ok = J.inv.heads_ok (code_head m.size h) (in_map (code_head m.size) i)

    stands : Stage m.delay s.site.time [] (code_head m.size h) → Standing m.delay s.site.time h
    stands (inv.listens p b n w) = let l = at_rest w in listens (is_listening h.state p) (omega (arith, born_most m.size h.name h.swap_tick))
    stands (inv.inquires p b n w) = let l = at_rest w in inquires (is_inquiring h.state p) (omega (arith, born_most m.size h.name h.swap_tick))
    stands (inv.acts p c) = let (x, e) = some_copy h.copy c in acts (is_active h.state p) (rw e)

    old_active : code_born m.size h.name h.swap_tick ≡ 0 → Stage m.delay s.site.time [] (code_head m.size h) → h.state ≡ Active
    old_active e (inv.listens p b _ _) = absurd (omega arith)
    old_active e (inv.inquires p b _ _) = absurd (omega arith)
    old_active e (inv.acts p _) = is_active h.state p

    known_head : KnownHead m F s h
    known_head = record {
      came = λ l. old_active (born_old m.size h.name h.swap_tick l) ok.stage;
      standing = stands ok.stage;
      copy = within F (top_stamp F s.site.under_way) h.copy (elim ok.low [ inl e ↦ inl e | inr l ↦ inr (omega (arith, J.fin_is)) ]) (subst (λ x. code_copy h.copy ≤ x) top_is ok.high);
      best = at_most (top_stamp F s.site.under_way) h.best (subst (λ x. code_copy h.best ≤ x) top_is ok.best_high);
    }

  pub known_at : Known m F s
  known_at = record {
    heads = known_head;
    writes = λ a b t o j e. let r = J.inv.writes_ok (code_copy o) a b t (in_map code_item j) in let q : J.ghost.fin ≡ J.ghost.top = subst (Tied J.ghost) e J.tied in omega arith;
    replies = λ a b t o j. at_most (top_stamp F s.site.under_way) o (subst (λ x. code_copy o ≤ x) top_is (J.inv.replies_ok (code_copy o) a b t (in_map code_item j)).most);
  }
