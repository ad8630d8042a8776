-- No run meets refusal 6, 7 or the log's 31, and the clock can always be moved on.
use Rattle.std.proofs.Common.{◌≡◌, ℕ, ◌<◌, Bool, true, false, not, List, [], ◌∷◌, is_some, Some, None, Option, sym, refl, ap, ◌∙◌}
use Rattle.std.specs.List.{AllByRecursion}
use Rattle.std.proofs.lemmas.Bool.{or_from, lt-leb, false≢true, true≢false}
use Rattle.protocol.specs.declared.state.HeadState.TheVariants.{Stranded}
use Rattle.protocol.specs.declared.kind.MailKind.{MailKind}
use Rattle.protocol.specs.declared.refusal.Refusal.{Refusal}
use Rattle.protocol.specs.declared.call.Call.{Call}
use Rattle.protocol.specs.declared.answer.Answer.{Answer}
use Rattle.protocol.specs.Answers.{refusal_told}
use Rattle.protocol.specs.Numbers.{last_tick}
use Rattle.protocol.specs.Places.{first}
use Rattle.protocol.specs.Heads.{Head, is_named, present}
use Rattle.protocol.specs.Items.{Item, kind_of, sender_of, receiver_of, is_told, is_due}
use Rattle.protocol.specs.Sites.{State, refused_by}
use Rattle.protocol.specs.Make.{Setup}
use Rattle.protocol.specs.Bring.{bring_checks, bring_refusal}
use Rattle.protocol.specs.Tick.{tick_checks, tick_refusal}
use Rattle.protocol.specs.Steps.{Step, refused, accepted}
use Rattle.law.specs.Tallies.{History}
use Rattle.law.specs.Runs.{Reached, made, then}
use Rattle.law.specs.Laws.{Fits, LowChurn, AnswerInBounds, AlwaysInBounds, ClockProgress, AlwaysProgress}
use Rattle.law.proofs.Coded.{In}
use Rattle.law.proofs.Members.{all_by_in}
use Rattle.law.proofs.Firsts as firsts
use Rattle.law.proofs.Firsts.{Found, absent, first_is}
use Rattle.law.proofs.Wells.{Well, well, stamp_limit}
use Rattle.law.proofs.Singles.{told_first}
use Rattle.law.proofs.Rooms.{bad, told_itself, present_here, own_tables, holds_enough, tick_room, refusal_fine, answer_fine}

pub none_refused : (cs : List (Bool × Refusal)) → AllByRecursion (λ c. c.0 ≡ false) cs → refused_by cs None ≡ None
none_refused [] a = refl
none_refused (c ∷ cs) a = let e = a.0 in rw e (none_refused cs a.1)

told_found : {V : Type 0} (kind : MailKind) (a b : ℕ) (items : List (Item V)) (i : Item V) → is_told kind a b i ≡ true → In i items → {o : Option (Item V)} → Found (is_told kind a b) items o → is_some o ≡ true
told_found kind a b items i e j (absent f) = absurd (false≢true (sym (f i j) ∙ e))
told_found kind a b items i e j (firsts.present x s) = refl

module _ {V : Type 0} (lawful : V → Bool) (m : Setup V) (f : Fits lawful m) (s : State V) (w : Well lawful m s) where
  -- whatever waits can be brought
  pub can_bring : (i : Item V) → In i s.items → bring_refusal s (kind_of i) (sender_of i) (receiver_of i) ≡ None
  can_bring i j =
      let found = told_found (kind_of i) (sender_of i) (receiver_of i) s.items i (told_itself i) j (first_is (is_told (kind_of i) (sender_of i) (receiver_of i)) s.items) in
      let here-is = present_here (receiver_of i) s.heads (w.housed.to_present i j) in
      none_refused (bring_checks s (kind_of i) (sender_of i) (receiver_of i)) (
        own_tables lawful m f s w,
        (
          or_from (not (is_some (first (is_told (kind_of i) (sender_of i) (receiver_of i)) s.items))) (not (present (receiver_of i) s.heads)) (ap not found) (ap not here-is),
          (
            holds_enough lawful m f s w (kind_of i) (sender_of i) (receiver_of i) (first_is (is_told (kind_of i) (sender_of i) (receiver_of i)) s.items) (first_is (is_named (receiver_of i)) s.heads) found,
            tt,
          ),
        ),
      )

  pub can_tick : s.site.time < last_tick → is_some (first (is_due s.site.delay s.site.time) s.items) ≡ false → tick_refusal s ≡ None
  can_tick lt none = none_refused (tick_checks s) (own_tables lawful m f s w, (lt-leb last_tick s.site.time lt, (none, (ap not (tick_room lawful m f s w), tt))))

  pub progress : ClockProgress s
  progress = record { brought = all_by_in (λ i. is_due s.site.delay s.site.time i ≡ true → bring_refusal s (kind_of i) (sender_of i) (receiver_of i) ≡ None) s.items (λ i j _. can_bring i j); itself = all_by_in (λ i. is_due s.site.delay s.site.time i ≡ true → first (is_told (kind_of i) (sender_of i) (receiver_of i)) s.items ≡ Some i) s.items (λ i j _. told_first lawful m.size (stamp_limit s.site.under_way s.site.time) s.site.next_name s.site.under_way s.heads s.items w.housed i j); ticks = can_tick }

  pub step_fine : {t : State V} {c : Call V} {a : Answer V} → Step lawful s c a t → (why : Refusal) → refusal_told a ≡ Some why → bad why ≡ false
  step_fine {t} {c} (refused r e p q) why h = refusal_fine lawful m f s w c why (e ∙ sym (ap refusal_told p) ∙ h)
  step_fine {t} {c} (accepted free e p q) why h = answer_fine lawful m f s w c e why (sym (ap refusal_told p) ∙ h)

in_bounds_from : {V : Type 0} (a : Answer V) → ((why : Refusal) → refusal_told a ≡ Some why → bad why ≡ false) → AnswerInBounds a
in_bounds_from a f = record { own_tables = λ e. true≢false (f _ e); room = λ e. true≢false (f _ e); sound = λ e. true≢false (f _ e) }

pub answers_in_bounds : {V : Type 0} (lawful : V → Bool) (m : Setup V) → Fits lawful m → {es : History V} {s : State V} → Reached lawful m es s → AllByRecursion (λ e. AnswerInBounds e.answer) es
answers_in_bounds lawful m f (made d) = tt
answers_in_bounds lawful m f (then {es} {s} {t} {c} {a} r st) = (in_bounds_from a (step_fine lawful m f s (well lawful m f r) st), answers_in_bounds lawful m f r)

-- nobody is ever stranded
abbrev pub AlwaysSteady : Type 0 → Type 0
AlwaysSteady V = (lawful : V → Bool) (m : Setup V) → Fits lawful m → LowChurn m → (es : History V) (s : State V) → Reached lawful m es s → (h : Head V) → In h s.heads → h.state ≡ Stranded → ⊥

pub always_in_bounds : (V : Type 0) → AlwaysSteady V → AlwaysInBounds V
always_in_bounds V steady lawful m f l es s r = record { answers = answers_in_bounds lawful m f r; heads = all_by_in (λ h. h.state ≡ Stranded → ⊥) s.heads (steady lawful m f l es s r) }

pub always_progress : (V : Type 0) → AlwaysProgress V
always_progress V lawful m f l es s r = progress lawful m f s (well lawful m f r)
