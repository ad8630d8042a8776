-- The heads that come with the site.
use Rattle.std.proofs.Common.{◌≡◌, ℕ, suc, ◌+◌, ◌<◌, ◌≤◌, List, [], ◌∷◌, length, refl, ap, subst, arith}
use Rattle.protocol.specs.Heads.{Head}
use Rattle.protocol.specs.Make.{Lacking, original, originals}
use Rattle.law.proofs.Coded.{In, here, there}

module _ {V : Type 0} (start : V) where
  pub originals_each : (P : Head V → Type 0) (x : ℕ) (free : List Lacking) → ((y : ℕ) (l : Lacking) → x ≤ y → y < x + length free → P (original start y l)) → (g : Head V) → In g (originals start x free) → P g
  originals_each P x [] f g i = elim i [ ]
  originals_each P x (l ∷ ls) f g (here e) = subst P e (f x l (omega arith) (omega arith))
  originals_each P x (l ∷ ls) f g (there i) = originals_each P (x + 1) ls (λ y m p q. f y m (omega arith) (omega arith)) g i

  pub originals_length : (x : ℕ) (free : List Lacking) → length (originals start x free) ≡ length free
  originals_length x [] = refl
  originals_length x (l ∷ ls) = ap suc (originals_length (x + 1) ls)
