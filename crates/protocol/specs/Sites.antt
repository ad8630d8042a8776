-- A site: its numbers, the tables lent to it, and its log by what it means.
use Rattle.std.specs.Prelude.{◌≡◌, ℕ, ◌*◌, Bool, cond, not, ◌||◌, List, [], ◌∷◌, length, Some, Option, ◌==◌, nat_lt}
use Rattle.std.specs.List.Sorted.{IsPermutation}
use Rattle.logs.specs.Meanings.{Meaning}
use Rattle.protocol.specs.declared.refusal.Refusal.{Refusal}
use Rattle.protocol.specs.Heads.{Head}
use Rattle.protocol.specs.Items.{Item}

-- a write under way: who writes, and the tick at which it began
pub record UnderWay : Type 0 where
  pub writer : ℕ
  pub begin : ℕ

-- the site's own record: its heads, the delay limit D and the swaps allowed in a tick are fixed when it is made
pub record Site : Type 0 where
  pub size : ℕ
  pub delay : ℕ
  pub swap_limit : ℕ
  pub time : ℕ
  pub swaps : ℕ
  pub next_name : ℕ
  pub under_way : Option UnderWay

-- places: how many mail places are lent; items: the mail in the order of its places, empty ones skipped
pub record State (V : Type 0) : Type 0 where
  pub site : Site
  pub heads : List (Head V)
  pub places : ℕ
  pub items : List (Item V)
  pub log : Meaning V

-- the same state, but for the places that the items lie in
pub record Same {V : Type 0} (s t : State V) : Type 0 where
  pub site : s.site ≡ t.site
  pub heads : s.heads ≡ t.heads
  pub places : s.places ≡ t.places
  pub items : IsPermutation s.items t.items
  pub log : s.log ≡ t.log

-- the tables lent are not those of the site: not its number of heads, or too few mail places
abbrev pub foreign : {V : Type 0} → State V → Bool
foreign s = not (length s.heads == s.site.size) || nat_lt s.places (s.site.size * s.site.size)

-- checks in their order: the first that holds refuses; where none does, the rest decides
abbrev pub refused_by : List (Bool × Refusal) → Option Refusal → Option Refusal
refused_by [] rest = rest
refused_by (c ∷ cs) rest = cond c.0 (Some c.1) (refused_by cs rest)
