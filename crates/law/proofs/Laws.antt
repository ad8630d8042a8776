-- The laws, each put together from its parts.
use Rattle.std.proofs.Common.{◌≡◌, ℕ, Bool, [], ◌∷◌, None, arith}
use Rattle.protocol.specs.declared.state.HeadState.TheVariants.{Stranded}
use Rattle.protocol.specs.Heads.{Head}
use Rattle.law.specs.Tallies.{tally}
use Rattle.protocol.specs.declared.call.Call.{Call}
use Rattle.protocol.specs.declared.answer.Answer.{Answer}
use Rattle.protocol.specs.Sites.{State}
use Rattle.protocol.specs.Make.{Setup, Made, make_refusal}
use Rattle.protocol.specs.Steps.{Step}
use Rattle.law.specs.Runs.{made, then}
use Rattle.law.specs.Laws.{Law, LawOfMake, AlwaysInBounds, Begun, KeepsLaw}
use Rattle.law.proofs.Making.{make_suffices}
use Rattle.law.proofs.Faithful.{run_logged}
use Rattle.law.proofs.Known.{finished_writes, Standing, listens, inquires, acts}
use Rattle.law.proofs.Tallied.{run_tallied}
use Rattle.law.proofs.InTime.{in_time}
use Rattle.law.proofs.Regular.{run_regular}
use Rattle.law.proofs.JoinRun.{known}
use Rattle.law.proofs.Clocking as clocking

pub law : (V : Type 0) → Law V
law V lawful m fits low es s r = record {
  regular = run_regular lawful m fits.start (λ es₁ s₁ r₁. known lawful m fits low r₁) r;
  in_time = in_time m (finished_writes m es) (tally m es) s (known lawful m fits low r) (run_tallied lawful m r);
  faithful = (run_logged lawful m r).log;
}

pub law_of_make : (V : Type 0) → LawOfMake V
law_of_make V lawful m e = let (fits, low) = make_suffices V lawful m e in law V lawful m fits low

steady : {V : Type 0} (D T : ℕ) (h : Head V) → Standing D T h → h.state ≡ Stranded → ⊥
steady D T h (listens e l) q = let z : ◌≡◌ {A = ℕ} 0 1 = cc in omega arith
steady D T h (inquires e l) q = let z : ◌≡◌ {A = ℕ} 0 1 = cc in omega arith
steady D T h (acts e c) q = let z : ◌≡◌ {A = ℕ} 0 1 = cc in omega arith

pub always_in_bounds : (V : Type 0) → AlwaysInBounds V
always_in_bounds V = clocking.always_in_bounds V (λ lawful m fits low es s r h i. steady m.delay s.site.time h ((known lawful m fits low r).heads h i).standing)

module _ {V : Type 0} (lawful : V → Bool) where
  -- make begins a run
  pub begun : (m : Setup V) (s : State V) → make_refusal lawful m ≡ None → Made m s → Begun lawful m s
  begun m s e d = record { reached = made d; promises = law_of_make V lawful m e [] s (made d) }

  -- a step carries a run on
  pub carried_on : (s : State V) (c : Call V) (a : Answer V) (t : State V) → Step lawful s c a t → KeepsLaw lawful s c a t
  carried_on s c a t step m es e r =
      let (fits, low) = make_suffices V lawful m e in
      let on = then r step in
      record {
        reached = on;
        promises = law_of_make V lawful m e (record { call = c; answer = a } ∷ es) t on;
        in_bounds = (always_in_bounds V lawful m fits low (record { call = c; answer = a } ∷ es) t on).answers.0;
      }
