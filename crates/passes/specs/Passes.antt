-- Passes, and what a call by pass answers.
use Rattle.std.specs.Prelude.{◌≡◌, ℕ, Bool, List, [], ◌∷◌, ℤ, is_some, Some, None, Ok, Err, Option, Result}
use Rattle.protocol.specs.declared.refusal.Refusal.{Refusal}
use Rattle.protocol.specs.declared.refusal.Refusal.TheVariants.{WriteUnderWay}
use Rattle.protocol.specs.Sites.{Site}
use Rattle.passes.specs.declared.Newcomer.{Newcomer}
use Rattle.passes.specs.declared.Member.{Member}
use Rattle.passes.specs.declared.Writer.{Writer}
use Rattle.passes.specs.declared.Refused.{Refused}

-- the pass of a newcomer with this name, unless it is refused
abbrev pub newcomer_by : ℕ → Option Refusal → Result Newcomer Refusal
newcomer_by x None = Ok (record { name = x })
newcomer_by x (Some why) = Err why

-- the newcomer is a member, or keeps its pass
abbrev pub promoted_by : ℕ → Option Refusal → Result Member (Refused Newcomer)
promoted_by x None = Ok (record { name = x })
promoted_by x (Some why) = Err (record { pass = record { name = x }; why = why })

-- a writer waits until no write is under way
abbrev pub finish_checks : Site → List (Bool × Refusal)
finish_checks site =
    (is_some site.under_way, WriteUnderWay)
    ∷ []

-- the writer is a member again, or keeps its pass
abbrev pub finished_by : ℕ → Option Refusal → Result Member (Refused Writer)
finished_by x None = Ok (record { name = x })
finished_by x (Some why) = Err (record { pass = record { name = x }; why = why })

-- the answer without the pass that a refusal hands back
abbrev pub bare : {X P : Type 0} → Result X (Refused P) → Result X Refusal
bare (Ok x) = Ok x
bare (Err r) = Err r.why

-- a refusal hands back this pass
abbrev pub HandsBack : {X P : Type 0} → P → Result X (Refused P) → Type 0
HandsBack p (Ok x) = Unit
HandsBack p (Err r) = r.pass ≡ p

-- the stamp that was written, without a pass
abbrev pub stamp_written : Result (Writer × ℤ) (Refused Member) → Result ℤ Refusal
stamp_written (Ok (w, z)) = Ok z
stamp_written (Err r) = Err r.why

-- a write makes a member with this name a writer, and a refusal hands its pass back
abbrev pub WritesAs : ℕ → Result (Writer × ℤ) (Refused Member) → Type 0
WritesAs x (Ok (w, z)) = w.name ≡ x
WritesAs x (Err r) = r.pass.name ≡ x
