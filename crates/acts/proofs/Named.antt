-- The head with a name, by its place.
use Rattle.std.proofs.Common.{◌≡◌, ℕ, ◌<◌, List, length, get_or, set, Some, None, sym, ap, ◌∙◌}
use Rattle.protocol.specs.Places.{change_first}
use Rattle.protocol.specs.Heads.{Head as Told, is_named, head_named}
use Rattle.tables.specs.declared.head.Head.{Head}
use Rattle.tables.specs.FirstPlaces.{place_of}
use Rattle.tables.specs.HeadPlaces.{head_of, heads_of}
use Rattle.tables.proofs.Found.{found, found_within, not_found, first_found, first_not_found, change_found}

module _ {V : Type 0} (x : ℕ) (hs : List (Head V)) where
  pub nobody : place_of (λ k. is_named x (head_of k)) hs ≡ None → head_named x (heads_of hs) ≡ None
  nobody e = first_not_found head_of (is_named x) hs (not_found (λ k. is_named x (head_of k)) hs e)

  module _ (i : ℕ) (e : place_of (λ k. is_named x (head_of k)) hs ≡ Some i) where
    pub within : i < length hs
    within = found_within (λ k. is_named x (head_of k)) (found (λ k. is_named x (head_of k)) hs i e)

    module _ (h : Head V) (r : h ≡ get_or hs i h) where
      pub named : head_named x (heads_of hs) ≡ Some (head_of h)
      named = first_found head_of (is_named x) (found (λ k. is_named x (head_of k)) hs i e) h ∙ ap (λ k. Some (head_of k)) (sym r)

      -- another head is put into its place
      pub changed : (f : Told V → Told V) (w : Head V) → head_of w ≡ f (head_of h) → heads_of (set hs i w) ≡ change_first (is_named x) f (heads_of hs)
      changed f w q = sym (change_found head_of (is_named x) (found (λ k. is_named x (head_of k)) hs i e) f h w (q ∙ ap (λ k. f (head_of k)) r))
