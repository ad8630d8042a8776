-- A head: its name, its state, its copy of the register, and what it keeps while it joins.
use Rattle.std.specs.Prelude.{ℕ, ◌+◌, Bool, true, false, cond, not, List, [], ◌∷◌, ◌++◌, ℤ, pos, negsuc, is_some, Some, None, filter, Option, ◌==◌, nat_eq, nat_lt}
use Rattle.protocol.specs.declared.state.HeadState.{HeadState}
use Rattle.protocol.specs.declared.state.HeadState.TheVariants.{Listening, Inquiring, Active, Stranded}
use Rattle.protocol.specs.Places.{first}

-- a value with its stamp: of two copies the one with the higher stamp is newer
pub record Copy (V : Type 0) : Type 0 where
  pub stamp : ℕ
  pub value : V

-- best: the newest reply so far; held: the names of the inquiries that wait for an answer, in order of arrival
pub record Head (V : Type 0) : Type 0 where
  pub name : ℕ
  pub state : HeadState
  pub copy : Option (Copy V)
  pub swap_tick : ℕ
  pub inquiry_tick : ℕ
  pub best : Option (Copy V)
  pub held : List ℕ

-- the second of two copies where its stamp is higher, else the first
abbrev pub newer : {V : Type 0} → Option (Copy V) → Option (Copy V) → Option (Copy V)
newer old None = old
newer None (Some c) = Some c
newer (Some b) (Some c) = cond (nat_lt b.stamp c.stamp) (Some c) (Some b)

-- the stamp of a copy, −1 where there is none
abbrev pub signed_stamp : {V : Type 0} → Option (Copy V) → ℤ
signed_stamp None = negsuc 0
signed_stamp (Some c) = pos c.stamp

-- one higher than the stamp of a copy
abbrev pub next_stamp : {V : Type 0} → Option (Copy V) → ℕ
next_stamp None = 0
next_stamp (Some c) = c.stamp + 1

abbrev pub is_active : HeadState → Bool
is_active Listening = false
is_active Inquiring = false
is_active Active = true
is_active Stranded = false

abbrev pub is_inquiring : HeadState → Bool
is_inquiring Listening = false
is_inquiring Inquiring = true
is_inquiring Active = false
is_inquiring Stranded = false

abbrev pub is_named : {V : Type 0} → ℕ → Head V → Bool
is_named x h = h.name == x

-- the head with this name
abbrev pub head_named : {V : Type 0} → ℕ → List (Head V) → Option (Head V)
head_named x heads = first (is_named x) heads

abbrev pub present : {V : Type 0} → ℕ → List (Head V) → Bool
present x heads = is_some (head_named x heads)

abbrev pub state_by : {V : Type 0} → Option (Head V) → Option HeadState
state_by None = None
state_by (Some h) = Some h.state

-- the state of the head with this name
abbrev pub state_named : {V : Type 0} → ℕ → List (Head V) → Option HeadState
state_named x heads = state_by (head_named x heads)

abbrev pub copy_by : {V : Type 0} → Option (Head V) → Option (Copy V)
copy_by None = None
copy_by (Some h) = h.copy

-- the copy of the head with this name
abbrev pub copy_named : {V : Type 0} → ℕ → List (Head V) → Option (Copy V)
copy_named x heads = copy_by (head_named x heads)

abbrev pub holds_of : {X : Type 0} → (X → Bool) → Option X → Bool
holds_of p None = false
holds_of p (Some x) = p x

-- a head with this name is present and active
abbrev pub active_named : {V : Type 0} → ℕ → List (Head V) → Bool
active_named x heads = holds_of is_active (state_named x heads)

-- a head with this name is present and inquiring
abbrev pub inquiring_named : {V : Type 0} → ℕ → List (Head V) → Bool
inquiring_named x heads = holds_of is_inquiring (state_named x heads)

abbrev pub with_copy : {V : Type 0} → Option (Copy V) → Head V → Head V
with_copy c h = record { name = h.name; state = h.state; copy = c; swap_tick = h.swap_tick; inquiry_tick = h.inquiry_tick; best = h.best; held = h.held }

abbrev pub with_best : {V : Type 0} → Option (Copy V) → Head V → Head V
with_best c h = record { name = h.name; state = h.state; copy = h.copy; swap_tick = h.swap_tick; inquiry_tick = h.inquiry_tick; best = c; held = h.held }

abbrev pub with_held : {V : Type 0} → List ℕ → Head V → Head V
with_held xs h = record { name = h.name; state = h.state; copy = h.copy; swap_tick = h.swap_tick; inquiry_tick = h.inquiry_tick; best = h.best; held = xs }

-- whether the head holds this name
abbrev pub holds : {V : Type 0} → ℕ → Head V → Bool
holds x h = is_some (first (nat_eq x) h.held)

-- the head holds this name; one that it holds already is not added again
abbrev pub holding : {V : Type 0} → ℕ → Head V → Head V
holding x h = with_held (cond (holds x h) h.held (h.held ++ x ∷ [])) h

-- the head holds this name no more
abbrev pub forgetting : {V : Type 0} → ℕ → Head V → Head V
forgetting x h = with_held (filter (λ y. not (y == x)) h.held) h
