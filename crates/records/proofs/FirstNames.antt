-- A name stands in a list where some name of the list equals it.
use Rattle.std.proofs.Common.{◌≡◌, ℕ, zero, suc, ◌<◌, Bool, true, false, cond, eqb, List, [], ◌∷◌, length, Some, is_some, sym, refl, ap, ◌∙◌, arith}
use Rattle.std.specs.List.{HoldsAt, AllWithin, IsAnyAnswer}
use Rattle.std.proofs.lemmas.Bool.{eq-eqb, eqb-true, cond-true, cond-false, eqb-false, ne_eqb}
use Rattle.protocol.specs.Places.{first}

module _ (x : ℕ) where
  past : (y : ℕ) (ys : List ℕ) (b : Bool) → is_some (first (eqb x) ys) ≡ true → is_some (cond b (Some y) (first (eqb x) ys)) ≡ true
  past y ys true e = refl
  past y ys false e = e

  some_name : (xs : List ℕ) (k : ℕ) → k < length xs → HoldsAt (λ y. eqb y x ≡ true) xs k → is_some (first (eqb x) xs) ≡ true
  some_name [] k h p = absurd (omega arith)
  some_name (y ∷ ys) zero h p = ap is_some (cond-true (eqb x y) (Some y) (first (eqb x) ys) (eq-eqb x y (sym (eqb-true y x (p y)))))
  some_name (y ∷ ys) (suc k) h p = past y ys (eqb x y) (some_name ys k (omega arith) (λ d. p d))

  no_name : (xs : List ℕ) → AllWithin (λ y. eqb y x ≡ false) xs 0 (length xs) → is_some (first (eqb x) xs) ≡ false
  no_name [] p = refl
  no_name (y ∷ ys) p =
      ap is_some (cond-false (eqb x y) (Some y) (first (eqb x) ys) (ne_eqb x y (λ e. eqb-false y x (p 0 y (omega arith) (omega arith)) (sym e))))
      ∙ no_name ys (λ k d l h. p (suc k) d (omega arith) (omega arith))

  pub any_first : (xs : List ℕ) (r : Bool) → IsAnyAnswer (λ y b. eqb y x ≡ b) xs r → r ≡ is_some (first (eqb x) xs)
  any_first xs true (k, h, p) = sym (some_name xs k h p)
  any_first xs false p = sym (no_name xs p)
