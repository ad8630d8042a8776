-- Each way of a tick is a step.
use Rattle.std.proofs.Common.{◌≡◌, ℕ, ◌+◌, ◌*◌, ◌<◌, ◌≤◌, Bool, true, false, not, eqb, ltb, leb, List, [], ◌∷◌, map, length, is_some, Some, None, Option, unwrap_or, sym, refl, ap, ◌∙◌, subst, arith}
use Rattle.std.specs.List.Sorted.{IsPermutation}
use Rattle.std.proofs.lemmas.List.Filters.{length-filter_both}
use Rattle.std.proofs.lemmas.List.{length-map}
use Rattle.std.proofs.lemmas.Bool.{false≢true, eqb-true, not-false, or_parts, cond-false, le-ltb, leb-false}
use Rattle.logs.specs.Meanings.{Meaning}
use Rattle.protocol.specs.declared.refusal.Refusal.{Refusal}
use Rattle.protocol.specs.declared.refusal.Refusal.TheVariants.{ForeignTables, LastTick, MailDue, NoRoom}
use Rattle.protocol.specs.declared.call.Call.TheVariants.{Tick}
use Rattle.protocol.specs.declared.answer.Answer.TheVariants.{Ticked, Refused}
use Rattle.protocol.specs.Numbers.{last_tick}
use Rattle.protocol.specs.Places.{first}
use Rattle.protocol.specs.Items.{Item, is_due}
use Rattle.protocol.specs.Heads.{Head as Told}
use Rattle.protocol.specs.Sites.{Site, State, foreign, refused_by}
use Rattle.protocol.specs.Steps.{Step, refused, accepted}
use Rattle.protocol.specs.Tick.{activations, is_activation, turn, turned, turns_mail, tick_mail, tick_refusal, tick_site}
use Rattle.tables.specs.declared.head.Head.{Head}
use Rattle.tables.specs.declared.mail.MailPlace.{MailPlace}
use Rattle.tables.specs.HeadPlaces.{head_of, heads_of}
use Rattle.tables.specs.MailPlaces.{items_of}
use Rattle.acts.specs.Lent.{lent, foreign_lent}
use Rattle.acts.proofs.Checks.{refused_here, foreign_by}

fourth_passed : (a b c d : Bool) (v w x y : Refusal) → refused_by ((a, v) ∷ ((b, w) ∷ ((c, x) ∷ ((d, y) ∷ [])))) None ≡ None → d ≡ false
fourth_passed true b c d v w x y e = let z : ◌≡◌ {A = ℕ} 0 1 = cc in absurd (omega arith)
fourth_passed false true c d v w x y e = let z : ◌≡◌ {A = ℕ} 0 1 = cc in absurd (omega arith)
fourth_passed false false true d v w x y e = let z : ◌≡◌ {A = ℕ} 0 1 = cc in absurd (omega arith)
fourth_passed false false false true v w x y e = let z : ◌≡◌ {A = ℕ} 0 1 = cc in absurd (omega arith)
fourth_passed false false false false v w x y e = refl

second_passed : (a b c d : Bool) (v w x y : Refusal) → refused_by ((a, v) ∷ ((b, w) ∷ ((c, x) ∷ ((d, y) ∷ [])))) None ≡ None → b ≡ false
second_passed true b c d v w x y e = let z : ◌≡◌ {A = ℕ} 0 1 = cc in absurd (omega arith)
second_passed false true c d v w x y e = let z : ◌≡◌ {A = ℕ} 0 1 = cc in absurd (omega arith)
second_passed false false c d v w x y e = refl

there : {X : Type 0} (o : Option X) → not (is_some o) ≡ false → (x : X) × (o ≡ Some x)
there None e = absurd (false≢true (sym e))
there (Some x) e = (x, refl)

-- no more heads turn active than there are
pub few_activations : {V : Type 0} (delay now : ℕ) (hs : List (Head V)) → activations delay now (heads_of hs) ≤ length hs
few_activations {V} delay now hs =
    let p = λ (h : Told V). is_activation (turn delay now h) in
    omega (arith, length-filter_both p (λ h. not (p h)) (λ _. refl) (heads_of hs), length-map hs head_of)

module _ {V : Type 0} (lawful : V → Bool) (u : Site) (hs : List (Head V)) (ms : List (MailPlace V)) (m : Meaning V) where
  abbrev s : State V
  s = lent u hs ms m

  pub tick_refused : (why : Refusal) → tick_refusal s ≡ Some why → Step lawful s Tick (Refused why) s
  tick_refused why e = refused why e refl refl

  pub tick_made : (t : Site) (time n : ℕ) (ys : List (Head V)) (ns : List (MailPlace V)) → tick_refusal s ≡ None → t ≡ tick_site u → time ≡ t.time → n ≡ activations u.delay time (heads_of hs) → heads_of ys ≡ map (turned u.delay time) (heads_of hs)
      → ((items : List (Item V)) → turns_mail (length ms) u.delay time [] (heads_of hs) (items_of ms) ≡ Some items → IsPermutation (items_of ns) items) → length ns ≡ length ms
      → Step lawful s Tick (Ticked time n) (lent t ys ns m)
  tick_made t time n ys ns none w at counted heads mail len =
      let now : time ≡ u.time + 1 = at ∙ ap (λ x. x.time) w in
      let (js, e) = there (tick_mail s) (fourth_passed (foreign s) (leb last_tick u.time) (is_some (first (is_due u.delay u.time) (items_of ms))) (not (is_some (tick_mail s))) ForeignTables LastTick MailDue NoRoom none) in
      accepted 0 none (ap (Ticked time) counted ∙ ap (λ x. Ticked x (activations u.delay x (heads_of hs))) now)
      (record {
        site = w;
        heads = heads ∙ ap (λ x. map (turned u.delay x) (heads_of hs)) now;
        places = len;
        items = subst (IsPermutation (items_of ns)) (sym (ap (λ o. unwrap_or o (items_of ms)) e)) (mail js (ap (λ x. turns_mail (length ms) u.delay x [] (heads_of hs) (items_of ms)) now ∙ e));
        log = refl;
      })

  pub tick_foreign : foreign_lent u.size (length hs) (length ms) ≡ true → tick_refusal s ≡ Some ForeignTables
  tick_foreign e = refused_here (foreign s) ForeignTables (refused_by ((leb last_tick u.time, LastTick) ∷ ((is_some (first (is_due u.delay u.time) (items_of ms)), MailDue) ∷ ((not (is_some (tick_mail s)), NoRoom) ∷ []))) None) (foreign_by u hs ms m e)

  own_long : foreign_lent u.size (length hs) (length ms) ≡ false → length hs ≡ u.size
  own_long own = eqb-true (length hs) u.size (not-false (eqb (length hs) u.size) (or_parts (not (eqb (length hs) u.size)) (ltb (length ms) (u.size * u.size)) own).0)

  pub few_heads : foreign_lent u.size (length hs) (length ms) ≡ false → u.size ≤ 64 → length hs ≤ 64
  few_heads own few = omega (arith, own_long own)

  pub not_last : tick_refusal s ≡ None → u.time < last_tick
  not_last none = leb-false last_tick u.time (second_passed (foreign s) (leb last_tick u.time) (is_some (first (is_due u.delay u.time) (items_of ms))) (not (is_some (tick_mail s))) ForeignTables LastTick MailDue NoRoom none)

  -- the checks behind the first decide, where the tables are the site's own
  pub tick_decided : (r : Option Refusal) → foreign_lent u.size (length hs) (length ms) ≡ false → u.size ≤ 64
      → refused_by ((ltb 64 (length hs), ForeignTables) ∷ ((leb last_tick u.time, LastTick) ∷ ((is_some (first (is_due u.delay u.time) (items_of ms)), MailDue) ∷ ((not (is_some (tick_mail s)), NoRoom) ∷ [])))) None ≡ r
      → tick_refusal s ≡ r
  tick_decided r own few e =
      let rest = refused_by ((leb last_tick u.time, LastTick) ∷ ((is_some (first (is_due u.delay u.time) (items_of ms)), MailDue) ∷ ((not (is_some (tick_mail s)), NoRoom) ∷ []))) None in
      cond-false (foreign s) (Some ForeignTables) rest (foreign_by u hs ms m own) ∙ sym (cond-false (ltb 64 (length hs)) (Some ForeignTables) rest (le-ltb 64 (length hs) (few_heads own few))) ∙ e
