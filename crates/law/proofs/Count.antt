-- How many heads were born after x; and names that differ.
use Rattle.std.proofs.Common.{◌≡◌, ℕ, suc, ◌+◌, ◌-◌, ◌<◌, ◌≤◌, min, List, [], ◌∷◌, map, length, sym, refl, ap, ◌∙◌, inl, inr, arith}
use Rattle.std.proofs.lemmas.Bool.{cases_lt}
use Rattle.law.proofs.Coded.{In, here, there, Head, put}
use Rattle.law.proofs.Base.{map_in, Put, at_r, not_r, put_is}

abbrev pub late : ℕ → List Head → ℕ
late x [] = 0
late x (h ∷ hs) = min 1 (h.born - x) + late x hs

-- the pigeonhole: some head was born by x
pub early_one : (x : ℕ) (hs : List Head) → late x hs < length hs → (h : Head) × In h hs × (h.born ≤ x)
early_one x [] lt = absurd (omega arith)
early_one x (h ∷ hs) lt =
    elim (cases_lt x h.born) [ inr le ↦ (h, here refl, le) | inl gt ↦ let r = early_one x hs (omega arith) in (r.0, there r.1, r.2) ]

pub late_map : (x : ℕ) (f : Head → Head) (hs : List Head) → ((g : Head) → In g hs → (f g).born ≡ g.born) → late x (map f hs) ≡ late x hs
late_map x f [] same = refl
late_map x f (h ∷ hs) same = let e = same h (here refl) in let r = late_map x f hs (λ g i. same g (there i)) in rw (e, r)

abbrev pub Distinct : List Head → Type 0
Distinct [] = Unit {0}
Distinct (h ∷ hs) = ((g : Head) → In g hs → g.name ≡ h.name → ⊥) × Distinct hs

pub unique : (hs : List Head) {a b : Head} → Distinct hs → In a hs → In b hs → a.name ≡ b.name → a ≡ b
unique [] d i j e = elim i [ ]
unique (h ∷ hs) d (here p) (here q) e = sym p ∙ q
unique (h ∷ hs) d (here p) (there j) e = absurd (d.0 _ j (sym e ∙ ap (λ z. z.name) (sym p)))
unique (h ∷ hs) d (there i) (here q) e = absurd (d.0 _ i (e ∙ ap (λ z. z.name) (sym q)))
unique (h ∷ hs) d (there i) (there j) e = unique hs d.1 i j e

-- a function that keeps the names keeps them apart
pub distinct_map : (f : Head → Head) (hs : List Head) → ((g : Head) → In g hs → (f g).name ≡ g.name) → Distinct hs → Distinct (map f hs)
distinct_map f [] same d = tt
distinct_map f (h ∷ hs) same d =
    (λ g i e. let (x, j, q) = map_in f hs i in d.0 x j (sym (same x (there j)) ∙ ap (λ z. z.name) q ∙ e ∙ same h (here refl)), distinct_map f hs (λ g i. same g (there i)) d.1)

-- and so does a new head in the place of r
pub distinct_put : (r : ℕ) (h' : Head) (hs : List Head) → ((g : Head) → In g hs → (g.name ≡ r → ⊥) → g.name ≡ h'.name → ⊥) → Distinct hs → Distinct (map (put r h') hs)
distinct_put r h' [] new d = tt
distinct_put r h' (h ∷ hs) new d =
    (λ g i e. let (x, j, q) = map_in (put r h') hs i in go x j (put_is r h' x) (put_is r h' h) (ap (λ z. z.name) q ∙ e), distinct_put r h' hs (λ g i. new g (there i)) d.1)
  where
    go : (x : Head) → In x hs → {y z : Head} → Put r h' x y → Put r h' h z → y.name ≡ z.name → ⊥
    go x j (at_r p) (at_r q) e = d.0 x j (p ∙ sym q)
    go x j (at_r p) (not_r q) e = new h (here refl) q (sym e)
    go x j (not_r p) (at_r q) e = new x (there j) p e
    go x j (not_r p) (not_r q) e = d.0 x j e

-- no head but that of r is replaced
pub late_none : (x r : ℕ) (h' : Head) (hs : List Head) → ((g : Head) → In g hs → g.name ≡ r → ⊥) → late x (map (put r h') hs) ≡ late x hs
late_none x r h' hs none = late_map x (put r h') hs (λ g i. go g (none g i) (put_is r h' g))
  where
    go : (g : Head) → (g.name ≡ r → ⊥) → {y : Head} → Put r h' g y → y.born ≡ g.born
    go g ne (at_r p) = absurd (ne p)
    go g ne (not_r p) = refl

pub late_put : (x r : ℕ) (h' : Head) (hs : List Head) → Distinct hs → late x (map (put r h') hs) ≤ suc (late x hs)
late_put x r h' [] d = omega arith
late_put x r h' (h ∷ hs) d = go (late_put x r h' hs d.1) (put_is r h' h)
  where
    go : late x (map (put r h') hs) ≤ suc (late x hs) → {y : Head} → Put r h' h y → min 1 (y.born - x) + late x (map (put r h') hs) ≤ suc (min 1 (h.born - x) + late x hs)
    go rest (at_r p) = omega (arith, late_none x r h' hs (λ g i e. d.0 g i (e ∙ sym p)))
    go rest (not_r p) = omega arith

pub late_zero : (x : ℕ) (hs : List Head) → ((g : Head) → In g hs → g.born ≤ x) → late x hs ≡ 0
late_zero x [] all = refl
late_zero x (h ∷ hs) all = omega (arith, all h (here refl), late_zero x hs (λ g i. all g (there i)))
