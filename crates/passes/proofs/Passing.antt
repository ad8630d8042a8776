-- What a look tells of a pass, and what a refusal tells without it.
use Rattle.std.proofs.Common.{◌≡◌, ℕ, Bool, true, false, cond, not, ℤ, is_some, Some, None, Ok, Err, Option, Result, is_err, sym, refl, ap, ◌∙◌, arith}
use Rattle.protocol.specs.declared.state.HeadState.{HeadState}
use Rattle.protocol.specs.declared.refusal.Refusal.{Refusal}
use Rattle.protocol.specs.declared.refusal.Refusal.TheVariants.{ForeignTables, NoSuchHead, NotActive}
use Rattle.protocol.specs.declared.call.Call.TheVariants.{Look}
use Rattle.protocol.specs.declared.answer.Answer.TheVariants.{Seen, Refused}
use Rattle.protocol.specs.Answers.{refusal_told}
use Rattle.protocol.specs.Heads.{Head, is_active, head_named, active_named, state_by, holds_of}
use Rattle.protocol.specs.Look.{look_checks, look_refusal}
use Rattle.protocol.specs.Read.{read_checks}
use Rattle.protocol.specs.Sites.{State, foreign, refused_by}
use Rattle.protocol.specs.Steps.{Step, refused, accepted, look_answer}
use Rattle.acts.proofs.Checks.{refused_first, passed_first}
use Rattle.std.specs.Result.{MatchResult, IsErrAnd}
use Rattle.site.specs.States.{seen_answer}
use Rattle.passes.specs.declared.Refused.{Refused as Returned}
use Rattle.passes.specs.Passes.{bare}

-- nobody is refused where the checks of a look pass
unrefused : {V : Type 0} (b : Bool) (o : Option (Head V)) (why : Refusal) → cond b (Some ForeignTables) (cond (not (is_some o)) (Some NoSuchHead) None) ≡ None → Refused why ≡ look_answer o → ⊥
unrefused true o why e p = let z : ◌≡◌ {A = ℕ} 0 1 = cc in omega arith
unrefused false None why e p = let z : ◌≡◌ {A = ℕ} 0 1 = cc in omega arith
unrefused false (Some h) why e p = let z : ◌≡◌ {A = ℕ} 0 1 = cc in omega arith

-- the state that is seen is that of the head
seen_state : {V : Type 0} (o : Option (Head V)) (q : HeadState) (z : ℤ) → Seen q z ≡ look_answer o → holds_of is_active (state_by o) ≡ is_active q
seen_state None q z p = let z : ◌≡◌ {A = ℕ} 0 1 = cc in absurd (omega arith)
seen_state (Some h) q z p = cc

module _ {V : Type 0} {lawful : V → Bool} {s t : State V} {x : ℕ} where
  pub look_refused : {why : Refusal} → Step lawful s (Look x) (seen_answer (Err why)) t → look_refusal s x ≡ Some why
  look_refused (refused w e p q) = e ∙ sym (ap refusal_told p)
  look_refused {why} (accepted free e p q) = absurd (unrefused (foreign s) (head_named x s.heads) why e p)

  pub look_passed : {p : HeadState × ℤ} → Step lawful s (Look x) (seen_answer (Ok p)) t → (look_refusal s x ≡ None) × (active_named x s.heads ≡ is_active p.0)
  look_passed {p = (y, z)} (refused w e p q) = let z : ◌≡◌ {A = ℕ} 0 1 = cc in absurd (omega arith)
  look_passed {p = (y, z)} (accepted free e p q) = (e, seen_state (head_named x s.heads) y z p)

  -- a head that cannot be looked at cannot read
  pub read_refused : {why : Refusal} → Step lawful s (Look x) (seen_answer (Err why)) t → refused_by (read_checks s x) None ≡ Some why
  read_refused {why} step = refused_first (look_checks s x) (cond (not (active_named x s.heads)) (Some NotActive) None) why (look_refused step)

  -- a head that is seen can read where it is active
  pub read_by_state : {p : HeadState × ℤ} (b : Bool) → b ≡ is_active p.0 → Step lawful s (Look x) (seen_answer (Ok p)) t → refused_by (read_checks s x) None ≡ cond (not b) (Some NotActive) None
  read_by_state b r step =
      let (e, a) = look_passed step in
      passed_first (look_checks s x) (cond (not (active_named x s.heads)) (Some NotActive) None) e
      ∙ ap (λ d. cond (not d) (Some NotActive) None) (a ∙ sym r)

-- a refusal with its pass tells what it told without
module _ {X P : Type 0} {Q : Refusal → Returned P → Type 0} (same : (why : Refusal) (d : Returned P) → Q why d → d.why ≡ why) where
  bare_refusal : (why : Refusal) (q : Result X (Returned P)) → IsErrAnd q (Q why) → Err why ≡ bare q
  bare_refusal why (Ok x) h = absurd h
  bare_refusal why (Err d) h = ap Err (sym (same why d h))

  pub bare_told : (r : Result X Refusal) (q : Result X (Returned P)) → MatchResult r (λ x. q ≡ Ok x) (λ why. IsErrAnd q (Q why)) → r ≡ bare q
  bare_told (Ok x) q e = sym (ap bare e)
  bare_told (Err why) q h = bare_refusal why q h

pub bare_is_err : {X P : Type 0} (q : Result X (Returned P)) → is_err (bare q) ≡ is_err q
bare_is_err (Ok x) = refl
bare_is_err (Err d) = refl
