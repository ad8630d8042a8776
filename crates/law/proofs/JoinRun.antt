-- The stamps keep their invariant along every run.
use Rattle.std.proofs.Common.{◌≡◌, ℕ, suc, ◌+◌, ◌≤◌, Bool, cond, eqb, List, [], ◌∷◌, map, length, Some, None, Option, sym, refl, ap, ◌∙◌, subst, arith}
use lib.ListN.{length-map}
use Rattle.std.proofs.lemmas.List.Sorted.{IsPermutation-sym}
use Rattle.protocol.specs.declared.call.Call.{Call}
use Rattle.protocol.specs.declared.call.Call.TheVariants.{Swap, Read, Write, Bring, Tick, Look}
use Rattle.protocol.specs.declared.answer.Answer.{Answer}
use Rattle.protocol.specs.Sites.{UnderWay, State, Same}
use Rattle.protocol.specs.Make.{Setup, Lacking, originals, make_leaves}
use Rattle.protocol.specs.Steps.{refusal, answer, leaves, Step, refused, accepted}
use Rattle.law.specs.Tallies.{History, Writing, Tally, tally}
use Rattle.law.specs.Runs.{Reached, made, then}
use Rattle.law.specs.Laws.{Fits, LowChurn}
use Rattle.law.proofs.Coded as code
use Rattle.law.proofs.Coded.{In}
use Rattle.law.proofs.Originals.{originals_each, originals_length}
use Rattle.law.proofs.Base.{map_in}
use Rattle.law.proofs.Count.{Distinct}
use Rattle.law.proofs.Starting.{Original, start_inv}
use Rattle.law.proofs.Members.{in_shuffled}
use Rattle.law.proofs.Coding.{code_head}
use Rattle.law.proofs.Known.{Known, finished_with, finished_fed, finished_writes, finished_after}
use Rattle.law.proofs.Joining.{Own, Joined, moved_joined}
use Rattle.law.proofs.JoinSwap.{swap_joined}
use Rattle.law.proofs.JoinWrite.{write_joined}
use Rattle.law.proofs.JoinBring.{bring_joined}
use Rattle.law.proofs.JoinTick.{tick_joined}
use Rattle.law.proofs.ReadBack.{born_old, known_at}
use Rattle.law.proofs.Tallied.{tag, Agree, Tallied, run_tallied}
use Rattle.law.proofs.Valued.{fed_refused_writes}

originals_apart : {V : Type 0} (start : V) (n x : ℕ) (free : List Lacking) → Distinct (map (code_head n) (originals start x free))
originals_apart start n x [] = tt
originals_apart start n x (f ∷ fs) = (later, originals_apart start n (x + 1) fs)
  where
    later : (g : code.Head) → In g (map (code_head n) (originals start (x + 1) fs)) → g.name ≡ x → ⊥
    later g i e =
        let (h, j, q) = map_in (code_head n) (originals start (x + 1) fs) i in
        let l : x + 1 ≤ h.name = originals_each start (λ z. x + 1 ≤ z.name) (x + 1) fs (λ y _ p _. p) h j in
        let r : h.name ≡ x = ap (λ z. z.name) q ∙ e in
        omega arith

module _ {V : Type 0} (lawful : V → Bool) (m : Setup V) (fits : Fits lawful m) (low : LowChurn m) where
  made_joined : (free : List Lacking) → length free ≡ m.size → Joined m 0 [] (make_leaves m free)
  made_joined free e = record {
    ghost = record { fin = 1; top = 1; writer = 0; begin = 0 };
    fin_is = refl;
    tied = refl;
    inv = start_inv m.delay m.swap_limit m.size (m.size + 1) (map (code_head m.size) (originals m.start 1 free))
        (length-map (originals m.start 1 free) (code_head m.size) ∙ (originals_length m.start 1 free ∙ e)) (originals_apart m.start m.size 1 free) came;
    sited = record { delay = refl; swap_limit = refl; next_above = omega arith };
    own = originals_each m.start (Own m.delay) 1 free (λ y l p q r. let z : ◌≡◌ {A = ℕ} 0 1 = cc in absurd (omega arith));
  }
    where
      came : (g : code.Head) → In g (map (code_head m.size) (originals m.start 1 free)) → Original (m.size + 1) g
      came g i =
          let (h, j, q) = map_in (code_head m.size) (originals m.start 1 free) i in
          subst (Original (m.size + 1)) q
          (originals_each m.start (λ z. Original (m.size + 1) (code_head m.size z)) 1 free (λ y l p r. record { named = omega arith; phased = refl; born0 = born_old m.size y l.swap_tick (omega arith); copy1 = refl; best0 = refl }) h j)

  finished_tick : (D now F : ℕ) (w : Option (Writing V)) (u : Option UnderWay) → Agree w u → finished_with D now F w ≡ finished_after D now F u
  finished_tick D now F None None a = refl
  finished_tick D now F None (Some u) a = absurd a
  finished_tick D now F (Some w) None a = absurd a
  finished_tick D now F (Some w) (Some u) (_, e) = ap (λ b. cond (eqb (b + D) now) (suc F) F) e

  module _ (F : ℕ) (t : Tally V) (s s' : State V) (J : Joined m F [] s) (l : Tallied m t s.site (map tag s.heads)) where
    leaves_joined : (free : ℕ) (c : Call V) → refusal lawful s c ≡ None → Joined m (finished_fed m.delay F t c (answer s c)) [] (leaves s free c)
    leaves_joined free (Swap x) e = swap_joined m F s fits.some_delay J x free e
    leaves_joined free (Read x) e = moved_joined m F [] s (leaves s free (Read x)) (λ i j. j) (λ i j. j) J refl refl refl
    leaves_joined free (Write x v) e = write_joined m F s fits.some_delay J x v lawful e
    leaves_joined free (Bring kind a b) e = bring_joined m F s fits.some_delay J kind a b e
    leaves_joined free Tick e =
        let q : finished_with m.delay (t.time + 1) F t.under_way ≡ finished_after m.delay (s.site.time + 1) F s.site.under_way = rw l.time (finished_tick m.delay (s.site.time + 1) F t.under_way s.site.under_way l.agree) in
        subst (λ z. Joined m z [] (leaves s free Tick)) (sym q) (tick_joined m F s fits.some_delay low J e)
    leaves_joined free (Look x) e = J

    same_joined : (G : ℕ) (r : State V) → Same s' r → Joined m G [] r → Joined m G [] s'
    same_joined G r q K = moved_joined m G [] r s' (λ i j. in_shuffled r.items s'.items (IsPermutation-sym s'.items r.items q.items) j) (λ i j. in_shuffled s'.items r.items q.items j) K q.site q.heads q.places

    step_joined : (c : Call V) (a : Answer V) → Step lawful s c a s' → Joined m (finished_fed m.delay F t c a) [] s'
    step_joined c a (refused why e p q) = rw (p, fed_refused_writes m.delay F t c why, q) J
    step_joined c a (accepted free e p q) = rw p (same_joined (finished_fed m.delay F t c (answer s c)) (leaves s free c) q (leaves_joined free c e))

  pub joined : {es : History V} {s : State V} → Reached lawful m es s → Joined m (finished_writes m es) [] s
  joined (made d) = rw d.left (made_joined d.free d.all)
  joined (then {es} {s} {t} {c} {a} r st) = step_joined (finished_writes m es) (tally m es) s t (joined r) (run_tallied lawful m r) c a st

  pub known : {es : History V} {s : State V} → Reached lawful m es s → Known m (finished_writes m es) s
  known {es} {s} r = known_at m (finished_writes m es) s (joined r)
