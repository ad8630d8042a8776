-- Every read is regular: an active head has the finished value or the one under way, by the book.
use Rattle.std.proofs.Common.{◌≡◌, ℕ, suc, ◌≤◌, Bool, true, ◌⊎◌, map, pos, Some, None, Option, sym, refl, ap, ◌∙◌, subst, inl, inr, arith}
use Rattle.std.proofs.ByRecursion.{All-push}
use Rattle.std.proofs.lemmas.Bool.Decides.{nat_tests, eqb_tells}
use Rattle.protocol.specs.declared.call.Call.{Call}
use Rattle.protocol.specs.declared.call.Call.TheVariants.{Swap, Read, Write, Bring, Tick, Look}
use Rattle.protocol.specs.declared.answer.Answer.{Answer}
use Rattle.protocol.specs.Answers.{value_read}
use Rattle.protocol.specs.Heads.{Copy, copy_named, active_named}
use Rattle.protocol.specs.Sites.{UnderWay, State}
use Rattle.protocol.specs.Make.{Setup}
use Rattle.protocol.specs.Read.{read_checks, log_refusal}
use Rattle.protocol.specs.Steps.{refusal, answer, read_answer, Step, refused, accepted}
use Rattle.law.specs.Tallies.{History, Writing, Tally, value_under_way, tally_read, fed, tally}
use Rattle.law.specs.Runs.{Reached, made, then}
use Rattle.law.specs.Promises.{Regular, RegularReads}
use Rattle.law.proofs.Checks.{passed}
use Rattle.law.proofs.Faithful.{fed_refused}
use Rattle.law.proofs.Known.{Known, top_stamp, finished_writes}
use Rattle.law.proofs.Tallied.{tag, Agree, Tallied, run_tallied}
use Rattle.law.proofs.Booked.{By}
use Rattle.law.proofs.Valued.{Valued, reader, run_valued}

module _ {V : Type 0} (lawful : V → Bool) (F : ℕ) (t : Tally V) (s : State V) (b : Valued lawful F t s) where
  -- a copy by the book, between the last finished write and the newest, has the finished value or the one under way
  value_is : (c : Copy V) → c.value ≡ b.book c.stamp → F ≤ c.stamp → (w : Option (Writing V)) (u : Option UnderWay) → Agree w u → t.under_way ≡ w → c.stamp ≤ top_stamp F u →
      (c.value ≡ t.finished) ⊎ (value_under_way w ≡ Some c.value)
  value_is c q low None None a e high = inl (let z : c.stamp ≡ F = omega arith in q ∙ (ap b.book z ∙ b.finished))
  value_is c q low None (Some u) a e high = absurd a
  value_is c q low (Some w) None a e high = absurd a
  value_is c q low (Some w) (Some u) a e high = elim (eqb_tells c.stamp F) [
    | inl (_, z) ↦ inl (q ∙ (ap b.book z ∙ b.finished))
    | inr (_, ne) ↦ let z : c.stamp ≡ suc F = grind arith in inr (ap Some (sym (q ∙ (ap b.book z ∙ b.under w e))))
  ]

  module _ (m : Setup V) (k : Known m F s) (l : Tallied m t s.site (map tag s.heads)) (rows : RegularReads t) where
    read_regular : (x : ℕ) → active_named x s.heads ≡ true → RegularReads (tally_read t x (value_read (read_answer (copy_named x s.heads))))
    read_regular x a =
        let r = reader m F s k x a in
        let q : r.copy.value ≡ b.book r.copy.stamp = subst (By b.book) r.has (b.heads r.head r.among).copy in
        let g = value_is r.copy q r.low t.under_way s.site.under_way l.agree refl r.high in
        rw r.found (All-push Regular t.rows (record { tick = t.time; name = x; stamp = pos r.copy.stamp; value = r.copy.value; finished = t.finished; under_way = value_under_way t.under_way }) rows g)

    leaves_regular : (c : Call V) → refusal lawful s c ≡ None → RegularReads (fed m.delay t c (answer s c))
    leaves_regular (Swap x) e = rows
    leaves_regular (Read x) e =
        let (_, (_, (acting, _))) = (passed (read_checks s x) (log_refusal lawful s x (copy_named x s.heads)) e).checks in
        read_regular x (grind (arith, nat_tests))
    leaves_regular (Write x v) e = rows
    leaves_regular (Bring kind x y) e = rows
    leaves_regular Tick e = rows
    leaves_regular (Look x) e = rows

    step_regular : (s' : State V) (c : Call V) (a : Answer V) → Step lawful s c a s' → RegularReads (fed m.delay t c a)
    step_regular s' c a (refused why e p q) = rw (p, fed_refused m.delay t c why) rows
    step_regular s' c a (accepted free e p q) = rw p (leaves_regular c e)

module _ {V : Type 0} (lawful : V → Bool) (m : Setup V) (start : lawful m.start ≡ true) (known : (es : History V) (s : State V) → Reached lawful m es s → Known m (finished_writes m es) s) where
  pub run_regular : {es : History V} {s : State V} → Reached lawful m es s → RegularReads (tally m es)
  run_regular (made d) = tt
  run_regular (then {es} {s} {t} {c} {a} r st) = step_regular lawful (finished_writes m es) (tally m es) s (run_valued lawful m start known r) m (known es s r) (run_tallied lawful m r) (run_regular r) t c a st
