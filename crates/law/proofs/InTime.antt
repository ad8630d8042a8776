-- Whoever is present by the tally and ready is active.
use Rattle.std.proofs.Common.{◌≡◌, ℕ, ◌+◌, ◌*◌, ◌≤◌, Bool, true, false, cond, eqb, leb, map, Some, None, Option, refl, ap, ◌∙◌, subst, arith}
use Rattle.std.proofs.lemmas.Bool.Decides.{nat_tests}
use Rattle.protocol.specs.declared.state.HeadState.TheVariants.{Active}
use Rattle.protocol.specs.Heads.{Head, is_named, head_named, state_by, state_named}
use Rattle.protocol.specs.Sites.{State}
use Rattle.protocol.specs.Make.{Setup}
use Rattle.law.specs.Tallies.{Presence, Tally}
use Rattle.law.specs.Promises.{Ready, ActiveInTime}
use Rattle.law.proofs.Coded.{In}
use Rattle.law.proofs.Base.{in_map, map_in}
use Rattle.law.proofs.Members.{all_by_in}
use Rattle.law.proofs.Firsts.{Found, absent, present, first_is, split_in}
use Rattle.law.proofs.Known.{Known, KnownHead, Standing, listens, inquires, acts}
use Rattle.law.proofs.Tallied.{tag, tick_of, Tallied}

-- a newcomer is active 3 × D ticks after its swap
active_by_then : {V : Type 0} (D T : ℕ) (h : Head V) → Standing D T h → h.swap_tick + 3 * D ≤ T → h.state ≡ Active
active_by_then D T h (listens e l) late = absurd (omega arith)
active_by_then D T h (inquires e l) late = absurd (omega arith)
active_by_then D T h (acts e c) late = e

module _ {V : Type 0} (m : Setup V) (F : ℕ) (t : Tally V) (s : State V) (k : Known m F s) (l : Tallied m t s.site (map tag s.heads)) where
  ready_active : (p : Presence) → Ready m.delay t.time p.swap_tick → (h : Head V) → KnownHead m F s h → p.swap_tick ≡ tick_of m.size (tag h) → h.state ≡ Active
  ready_active p r h q e = go (leb h.name m.size) refl
    where
      go : (b : Bool) → leb h.name m.size ≡ b → h.state ≡ Active
      go true f = q.came (grind (arith, nat_tests))
      go false f =
          let e₁ : p.swap_tick ≡ Some h.swap_tick = e ∙ ap (λ b. cond b None (Some h.swap_tick)) f in
          let late : h.swap_tick + 3 * m.delay ≤ t.time = subst (Ready m.delay t.time) e₁ r in
          active_by_then m.delay s.site.time h q.standing (subst (λ x. h.swap_tick + 3 * m.delay ≤ x) l.time late)

  pub in_time : ActiveInTime m.delay t s
  in_time = all_by_in (λ p. Ready m.delay t.time p.swap_tick → state_named p.name s.heads ≡ Some Active) t.present each
    where
      each : (p : Presence) → In p t.present → Ready m.delay t.time p.swap_tick → state_named p.name s.heads ≡ Some Active
      each p i r = go (head_named p.name s.heads) (first_is (is_named p.name) s.heads)
        where
          go : (o : Option (Head V)) → Found (is_named p.name) s.heads o → state_by o ≡ Some Active
          go None (absent f) =
              let (g, j, e) = l.listed.has p i in
              let (h, k₁, e₁) = map_in tag s.heads j in
              let e₂ : h.name ≡ g.0 = ap (λ z. z.0) e₁ in
              let e₃ = f h k₁ in
              absurd (grind (arith, nat_tests))
          go (Some _) (present h sp) =
              let j = split_in sp in
              let e : eqb h.name p.name ≡ true = sp.passes in
              let e₁ : h.name ≡ p.name = grind (arith, nat_tests) in
              ap Some (ready_active p r h (k.heads h j) (l.listed.ticks p i (tag h) (in_map tag j) e₁))
