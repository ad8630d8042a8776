-- Checks in their order.
use Rattle.std.proofs.Common.{◌≡◌, ℕ, ◌*◌, Bool, true, false, cond, not, ◌||◌, eqb, ltb, List, [], ◌∷◌, map, length, Some, None, Option, sym, refl, ap, ◌∙◌, arith}
use Rattle.std.proofs.lemmas.List.{length-map}
use Rattle.std.proofs.lemmas.List.Sorted.{IsPermutation-refl}
use Rattle.std.proofs.lemmas.Bool.{cond-true, cond-false, eqb-true, false≢true}
use Rattle.logs.specs.Meanings.{Meaning}
use Rattle.protocol.specs.declared.refusal.Refusal.{Refusal}
use Rattle.protocol.specs.declared.refusal.Refusal.TheVariants.{ForeignTables}
use Rattle.protocol.specs.Sites.{Site, State, Same, foreign, refused_by}
use Rattle.tables.specs.declared.head.Head.{Head}
use Rattle.tables.specs.declared.mail.MailPlace.{MailPlace}
use Rattle.tables.specs.HeadPlaces.{head_of}
use Rattle.acts.specs.Lent.{lent, foreign_lent}

module _ (b : Bool) (why : Refusal) (rest : Option Refusal) where
  pub refused_here : b ≡ true → cond b (Some why) rest ≡ Some why
  refused_here e = cond-true b (Some why) rest e

  pub refused_later : {o : Option Refusal} → b ≡ false → rest ≡ o → cond b (Some why) rest ≡ o
  refused_later e r = cond-false b (Some why) rest e ∙ r

refused_one : (b : Bool) (why : Refusal) (o r : Option Refusal) (e : Refusal) → cond b (Some why) o ≡ Some e → (o ≡ Some e → r ≡ Some e) → cond b (Some why) r ≡ Some e
refused_one true why o r e p q = p
refused_one false why o r e p q = q p

passed_one : (b : Bool) (why : Refusal) (o r rest : Option Refusal) → cond b (Some why) o ≡ None → (o ≡ None → r ≡ rest) → cond b (Some why) r ≡ rest
passed_one true why o r rest p q = let z : ◌≡◌ {A = ℕ} 0 1 = cc in absurd (omega arith)
passed_one false why o r rest p q = q p

-- what the first checks refuse is refused whatever follows
pub refused_first : (cs : List (Bool × Refusal)) (rest : Option Refusal) (e : Refusal) → refused_by cs None ≡ Some e → refused_by cs rest ≡ Some e
refused_first [] rest e p = let z : ◌≡◌ {A = ℕ} 0 1 = cc in absurd (omega arith)
refused_first (c ∷ cs) rest e p = refused_one c.0 c.1 (refused_by cs None) (refused_by cs rest) e p (refused_first cs rest e)

-- where the first checks refuse nothing, those that follow decide
pub passed_first : (cs : List (Bool × Refusal)) (rest : Option Refusal) → refused_by cs None ≡ None → refused_by cs rest ≡ rest
passed_first [] rest p = refl
passed_first (c ∷ cs) rest p = passed_one c.0 c.1 (refused_by cs None) (refused_by cs rest) rest p (passed_first cs rest)

pub foreign_by : {V : Type 0} (u : Site) (hs : List (Head V)) (ms : List (MailPlace V)) (m : Meaning V) {b : Bool} → foreign_lent u.size (length hs) (length ms) ≡ b → foreign (lent u hs ms m) ≡ b
foreign_by u hs ms m e = ap (λ n. not (eqb n u.size) || ltb (length ms) (u.size * u.size)) (length-map hs head_of) ∙ e

pub not_refused : (b : Bool) (why : Refusal) (rest : Option Refusal) → cond b (Some why) rest ≡ None → b ≡ false
not_refused true why rest e = let z : ◌≡◌ {A = ℕ} 0 1 = cc in absurd (omega arith)
not_refused false why rest e = refl

neither : (b c : Bool) → (not b || c) ≡ false → b ≡ true
neither true c e = refl
neither false c e = absurd (false≢true (sym e))

-- where check 6 refuses nothing, there are as many head places as the site has heads
pub own_size : {V : Type 0} (u : Site) (hs : List (Head V)) (ms : List (MailPlace V)) (m : Meaning V) (rest : Option Refusal) → cond (foreign (lent u hs ms m)) (Some ForeignTables) rest ≡ None → length hs ≡ u.size
own_size u hs ms m rest e =
    sym (length-map hs head_of)
    ∙ eqb-true (length (map head_of hs)) u.size (neither (eqb (length (map head_of hs)) u.size) (ltb (length ms) (u.size * u.size)) (not_refused (foreign (lent u hs ms m)) ForeignTables rest e))

pub same : {V : Type 0} (s : State V) → Same s s
same s = record { site = refl; heads = refl; places = refl; items = IsPermutation-refl s.items; log = refl }
