-- The edges of plans, of modes, of the word log and of make, as one statement about the definitions.
use Rattle.std.specs.Prelude.{◌≡◌, ℕ, zero, suc, ◌*◌, Bool, true, List, [], ◌∷◌, length, Some, None, Option}
use Rattle.std.specs.Option.{option_map}
use Rattle.kinds.specs.Parts.{PartsOf, FirstWrong}
use Rattle.plans.specs.declared.Plan.{Plan}
use Rattle.plans.specs.Plans.{plan_lawful, plan_parts, plan_built}
use Rattle.modes.specs.declared.Mode.TheVariants.{Actuated}
use Rattle.modes.specs.Modes.{mode_lawful, mode_parts}
use Rattle.logs.specs.declared.entry.Entry.{Entry}
use Rattle.logs.specs.declared.entry.LogRefusal.TheVariants.{Full}
use Rattle.logs.specs.Entries.{sound}
use Rattle.logs.specs.Meanings.{Meaning, add_refusal, added}
use Rattle.wordlog.specs.WordLogs.{word_meaning}
use Rattle.protocol.specs.Numbers.{refusal_number}
use Rattle.protocol.specs.Make.{make_refusal}

-- a log that takes any n sound entries, one after the other, and then no more
abbrev pub TakesExactly : {V : Type 0} → (V → Bool) → ℕ → Meaning V → Type 0
TakesExactly {V} lawful zero m = (e : Entry V) → sound lawful e ≡ true → add_refusal lawful m e ≡ Some Full
TakesExactly {V} lawful (suc n) m = (e : Entry V) → sound lawful e ≡ true → (add_refusal lawful m e ≡ None) × TakesExactly lawful n (added m e)

-- an empty log of plans over this many words takes exactly n entries
abbrev pub PlansOn : ℕ → ℕ → Type 0
PlansOn words n = (ws : List ℕ) → length ws ≡ words → TakesExactly plan_lawful n (word_meaning 3 plan_built 0 ws)

-- the edges of the kinds and of the word log
pub record Edges : Type 0 where
  pub plan_30_29_25 : PartsOf plan_lawful plan_parts (30 ∷ (29 ∷ (25 ∷ []))) (record { cycle = 30; offset = 29; green = 25 })
  pub plan_30_30_25 : FirstWrong plan_lawful plan_parts (30 ∷ (30 ∷ (25 ∷ []))) 1
  pub plan_30_29_26 : FirstWrong plan_lawful plan_parts (30 ∷ (29 ∷ (26 ∷ []))) 2
  pub mode_1_120 : PartsOf mode_lawful mode_parts (1 ∷ (120 ∷ [])) (Actuated 120)
  pub mode_0_1 : FirstWrong mode_lawful mode_parts (0 ∷ (1 ∷ [])) 1
  pub words_12 : PlansOn 12 2
  pub words_11 : PlansOn 11 1

-- n heads, n × n mail places, delay limit D and k swaps a tick, with any lawful starting plan and any log: make accepts, or refuses by this number
abbrev pub Makes : ℕ → ℕ → ℕ → Option ℕ → Type 0
Makes n D k number =
    (start : Plan) (log : Meaning Plan) → plan_lawful start ≡ true → option_map refusal_number (make_refusal plan_lawful (record { size = n; places = n * n; delay = D; swap_limit = k; start = start; log = log })) ≡ number

-- the edges of plans, of modes, of the word log and of make
abbrev pub AllEdges : Type 0
AllEdges =
    Edges
    × Makes 4 1 1 None
    × Makes 3 1 1 (Some 3)
    × Makes 64 16 1 None
    × Makes 48 16 1 (Some 3)
    × Makes 1 17 0 (Some 2)
