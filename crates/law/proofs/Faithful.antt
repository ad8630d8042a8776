-- The log holds what it held when the site was made, and then the rows of the tally.
use Rattle.std.proofs.Common.{◌≡◌, ℕ, ◌+◌, Bool, List, [], ◌∷◌, ◌++◌, map, pos, Some, None, Option, sym, refl, ap, ◌∙◌, append_assoc, append-nil, arith}
use Rattle.std.proofs.lemmas.List.{map-append}
use Rattle.logs.specs.declared.entry.Entry.{Entry}
use Rattle.protocol.specs.declared.refusal.Refusal.{Refusal}
use Rattle.protocol.specs.declared.call.Call.{Call}
use Rattle.protocol.specs.declared.call.Call.TheVariants.{Swap, Read, Write, Bring, Tick, Look}
use Rattle.protocol.specs.declared.answer.Answer.{Answer}
use Rattle.protocol.specs.declared.answer.Answer.TheVariants.{Refused}
use Rattle.protocol.specs.Answers.{value_read}
use Rattle.protocol.specs.Heads.{Copy, copy_named}
use Rattle.protocol.specs.Sites.{State, Same}
use Rattle.protocol.specs.Make.{Setup}
use Rattle.protocol.specs.Read.{read_checks, entry_read, log_refusal, logged}
use Rattle.protocol.specs.Steps.{refusal, answer, read_answer, leaves, Step, refused, accepted}
use Rattle.law.specs.Tallies.{History, Tally, value_under_way, tally_read, fed, tally}
use Rattle.law.specs.Runs.{Reached, made, then}
use Rattle.law.specs.Promises.{row_entry}
use Rattle.law.proofs.Checks.{passed}

-- tally and site tell the same time, and the log is faithful
pub record Logged {V : Type 0} (at-make : List (Entry V)) (t : Tally V) (s : State V) : Type 0 where
  pub time : t.time ≡ s.site.time
  pub log : s.log.entries ≡ at-make ++ map row_entry t.rows

abbrev read_at : {V : Type 0} → ℕ → Copy V → ℕ → Entry V
read_at x c n = record { tick = n; name = x; stamp = pos c.stamp; value = c.value }

-- a refused call leaves the tally as it is
pub fed_refused : {V : Type 0} (D : ℕ) (t : Tally V) (c : Call V) (why : Refusal) → fed D t c (Refused why) ≡ t
fed_refused D t (Swap x) why = refl
fed_refused D t (Read x) why = refl
fed_refused D t (Write x v) why = refl
fed_refused D t (Bring k x y) why = refl
fed_refused D t Tick why = refl
fed_refused D t (Look x) why = refl

module _ {V : Type 0} (lawful : V → Bool) (D : ℕ) (at-make : List (Entry V)) (t : Tally V) (s s' : State V) (l : Logged at-make t s) where
  read_logged : (x : ℕ) (o : Option (Copy V)) → log_refusal lawful s x o ≡ None → s'.site ≡ s.site → s'.log ≡ logged s x o → Logged at-make (tally_read t x (value_read (read_answer o))) s'
  read_logged x None e q r = let z : ◌≡◌ {A = ℕ} 0 1 = cc in absurd (omega arith)
  read_logged x (Some c) e q r = record {
    time = l.time ∙ sym (ap (λ z. z.time) q);
    log =
        ap (λ z. z.entries) r
        ∙ (ap (λ es. es ++ entry_read s x c ∷ []) l.log
        ∙ (append_assoc at-make (map row_entry t.rows) (entry_read s x c ∷ [])
        ∙ ap (λ es. at-make ++ es)
        (ap (λ n. map row_entry t.rows ++ read_at x c n ∷ []) (sym l.time)
        ∙ sym (map-append row_entry t.rows (record { tick = t.time; name = x; stamp = pos c.stamp; value = c.value; finished = t.finished; under_way = value_under_way t.under_way } ∷ [])))));
  }

  accepted_logged : (free : ℕ) (c : Call V) → refusal lawful s c ≡ None → Same s' (leaves s free c) → Logged at-make (fed D t c (answer s c)) s'
  accepted_logged free (Swap x) e q = record { time = l.time ∙ sym (ap (λ z. z.time) q.site); log = ap (λ z. z.entries) q.log ∙ l.log }
  accepted_logged free (Read x) e q = read_logged x (copy_named x s.heads) (passed (read_checks s x) (log_refusal lawful s x (copy_named x s.heads)) e).rest_none q.site q.log
  accepted_logged free (Write x v) e q = record { time = l.time ∙ sym (ap (λ z. z.time) q.site); log = ap (λ z. z.entries) q.log ∙ l.log }
  accepted_logged free (Bring k x y) e q = record { time = l.time ∙ sym (ap (λ z. z.time) q.site); log = ap (λ z. z.entries) q.log ∙ l.log }
  accepted_logged free Tick e q = record { time = ap (λ n. n + 1) l.time ∙ sym (ap (λ z. z.time) q.site); log = ap (λ z. z.entries) q.log ∙ l.log }
  accepted_logged free (Look x) e q = record { time = l.time ∙ sym (ap (λ z. z.time) q.site); log = ap (λ z. z.entries) q.log ∙ l.log }

  step_logged : (c : Call V) (a : Answer V) → Step lawful s c a s' → Logged at-make (fed D t c a) s'
  step_logged c a (refused why e p q) = rw (p, fed_refused D t c why, q) l
  step_logged c a (accepted free e p q) = rw p (accepted_logged free c e q)

pub run_logged : {V : Type 0} (lawful : V → Bool) (m : Setup V) {es : History V} {s : State V} → Reached lawful m es s → Logged m.log.entries (tally m es) s
run_logged lawful m (made d) = rw d.left (record { time = refl; log = sym (append-nil m.log.entries) })
run_logged lawful m (then {es} {s} {t} {c} {a} r st) = step_logged lawful m.delay m.log.entries (tally m es) s t (run_logged lawful m r) c a st
