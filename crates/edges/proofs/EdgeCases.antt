-- The edges hold.
use Rattle.std.proofs.Common.{◌≡◌, ℕ, zero, suc, ◌-◌, ◌*◌, ◌/◌, Bool, cond, eqb, Some, None, refl, ap, ◌∙◌, arith, rules}
use Rattle.std.proofs.lemmas.Bool.{cond-true, eq-eqb}
use Rattle.plans.specs.Plans.{plan_lawful, plan_built}
use Rattle.modes.specs.declared.Mode.TheVariants.{Fixed}
use Rattle.logs.specs.declared.entry.LogRefusal.TheVariants.{Unsound, Full}
use Rattle.logs.specs.Entries.{sound}
use Rattle.logs.specs.Meanings.{Meaning, added}
use Rattle.logs.proofs.Adding.{takes}
use Rattle.wordlog.specs.WordLogs.{word_meaning}
use Rattle.edges.specs.Edges.{TakesExactly, PlansOn, Edges, AllEdges}

-- a log takes as many entries as it has free
takes_free : {V : Type 0} (lawful : V → Bool) (n : ℕ) (m : Meaning V) → m.free ≡ n → TakesExactly lawful n m
takes_free lawful zero m f =
    λ e s.
    cond-true (sound lawful e) (cond (eqb m.free 0) (Some Full) None) (Some Unsound) s ∙ cond-true (eqb m.free 0) (Some Full) None (eq-eqb m.free 0 f)
takes_free lawful (suc n) m f = λ e s. (takes lawful m e s (λ z. omega arith), takes_free lawful n (added m e) (omega arith))

plans_on : (words n : ℕ) → words / 6 ≡ n → PlansOn words n
plans_on words n q ws l = takes_free plan_lawful n (word_meaning 3 plan_built 0 ws) (ap (λ w. (w - 0 * 6) / 6) l ∙ (ap (λ w. w / 6) (let f : words - 0 * 6 ≡ words = omega arith in f) ∙ q))

pub edges : Edges
edges =
    record {
      plan_30_29_25 = record { is_lawful = refl; same = refl };
      plan_30_30_25 = record { before = (record { cycle = 30; offset = 0; green = 5 }, search rules); wrong = search rules; none = search rules };
      plan_30_29_26 = record { before = (record { cycle = 30; offset = 29; green = 5 }, search rules); wrong = search rules; none = search rules };
      mode_1_120 = record { is_lawful = refl; same = refl };
      mode_0_1 = record { before = (Fixed, search rules); wrong = search rules; none = search rules };
      words_12 = plans_on 12 2 refl;
      words_11 = plans_on 11 1 refl;
    }

pub all_edges : AllEdges
all_edges = (
  edges,
  λ start log l. rw l refl,
  λ start log l. refl,
  λ start log l. rw l refl,
  λ start log l. refl,
  λ start log l. refl,
)
