-- A step of a site: a call, its answer, and the state that it leaves.
use Rattle.std.specs.Prelude.{◌≡◌, ℕ, ◌+◌, Bool, pos, Some, None, Option}
use Rattle.logs.specs.declared.entry.LogRefusal.TheVariants.{Unsound}
use Rattle.protocol.specs.declared.refusal.Refusal.{Refusal}
use Rattle.protocol.specs.declared.refusal.Refusal.TheVariants.{NoSuchHead, Log}
use Rattle.protocol.specs.declared.call.Call.{Call}
use Rattle.protocol.specs.declared.call.Call.TheVariants.{Swap, Read, Write, Bring, Tick, Look}
use Rattle.protocol.specs.declared.answer.Answer.{Answer}
use Rattle.protocol.specs.declared.answer.Answer.TheVariants.{Swapped, Value, Written, Brought, Ticked, Seen, Refused}
use Rattle.protocol.specs.Heads.{Copy, Head, head_named, copy_named, signed_stamp}
use Rattle.protocol.specs.Sites.{State, Same}
use Rattle.protocol.specs.Swap.{swap_refusal, swap_leaves}
use Rattle.protocol.specs.Read.{read_refusal, read_leaves}
use Rattle.protocol.specs.Write.{write_refusal, new_copy, write_leaves}
use Rattle.protocol.specs.Bring.{bring_refusal, bring_leaves}
use Rattle.protocol.specs.Tick.{tick_refusal, activations, tick_leaves}
use Rattle.protocol.specs.Look.{look_refusal}

-- why the call is refused, if it is
abbrev pub refusal : {V : Type 0} → (V → Bool) → State V → Call V → Option Refusal
refusal lawful s (Swap x) = swap_refusal s x
refusal lawful s (Read x) = read_refusal lawful s x
refusal lawful s (Write x v) = write_refusal lawful s x v
refusal lawful s (Bring kind a b) = bring_refusal s kind a b
refusal lawful s Tick = tick_refusal s
refusal lawful s (Look x) = look_refusal s x

abbrev pub read_answer : {V : Type 0} → Option (Copy V) → Answer V
read_answer None = Refused (Log Unsound)
read_answer (Some c) = Value (pos c.stamp) c.value

abbrev pub look_answer : {V : Type 0} → Option (Head V) → Answer V
look_answer None = Refused NoSuchHead
look_answer (Some h) = Seen h.state (signed_stamp h.copy)

-- what the call answers where it is accepted
abbrev pub answer : {V : Type 0} → State V → Call V → Answer V
answer s (Swap x) = Swapped s.site.next_name
answer s (Read x) = read_answer (copy_named x s.heads)
answer s (Write x v) = Written (pos (new_copy s x v).stamp)
answer s (Bring kind a b) = Brought
answer s Tick = Ticked (s.site.time + 1) (activations s.site.delay (s.site.time + 1) s.heads)
answer s (Look x) = look_answer (head_named x s.heads)

-- what the call leaves where it is accepted; free: what the newcomer's place holds for an inquiry tick
abbrev pub leaves : {V : Type 0} → State V → ℕ → Call V → State V
leaves s free (Swap x) = swap_leaves s x free
leaves s free (Read x) = read_leaves s x
leaves s free (Write x v) = write_leaves s x v
leaves s free (Bring kind a b) = bring_leaves s kind a b
leaves s free Tick = tick_leaves s
leaves s free (Look x) = s

-- the call c in the state s may answer a and leave the state t
pub data Step {V : Type 0} (lawful : V → Bool) (s : State V) (c : Call V) (a : Answer V) (t : State V) : Type 0 where
  refused : (why : Refusal) → refusal lawful s c ≡ Some why → a ≡ Refused why → t ≡ s → Step lawful s c a t
  accepted : (free : ℕ) → refusal lawful s c ≡ None → a ≡ answer s c → Same t (leaves s free c) → Step lawful s c a t
