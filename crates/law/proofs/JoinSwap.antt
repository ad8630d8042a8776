-- A swap keeps a state joined.
use Rattle.std.proofs.Common.{◌≡◌, ℕ, suc, ◌<◌, List, [], map, None, sym, refl, ap, ◌∙◌, subst₂, inl, inr, add-one, arith}
use Rattle.std.proofs.lemmas.Bool.Decides.{nat_tests}
use Rattle.protocol.specs.Places.{change_first}
use Rattle.protocol.specs.Heads.{Head, is_named, forgetting}
use Rattle.protocol.specs.Items.{goes_with, dropping}
use Rattle.protocol.specs.Sites.{State}
use Rattle.protocol.specs.Make.{Setup}
use Rattle.protocol.specs.Swap.{swap_checks, swap_refusal, swap_leaves, newcomer}
use Rattle.law.proofs.Coded as code
use Rattle.law.proofs.Coded.{In, Site}
use Rattle.law.proofs.Base.{map_in, moved}
use Rattle.law.proofs.Count.{Distinct, distinct_map}
use Rattle.law.proofs.Inv.{Inv}
use Rattle.law.proofs.Swapping.{swap_inv}
use Rattle.law.proofs.Coding.{code_head, code_item, coded, code_swap_mail, code_replaced, code_newcomer, map_fuse}
use Rattle.law.proofs.Checks.{passed}
use Rattle.law.proofs.Joining.{Own, Joined}
use Rattle.law.proofs.Firsts.{in_change}

module _ {V : Type 0} (m : Setup V) (F : ℕ) (s : State V) (pos : 0 < m.delay) (J : Joined m F [] s) (x free : ℕ) (e : swap_refusal s x ≡ None) where
  abbrev n : ℕ
  n = m.size

  abbrev next : ℕ
  next = s.site.next_name

  abbrev T : ℕ
  T = s.site.time

  abbrev new : Head V
  new = newcomer next T free

  abbrev W : Site
  W = coded n J.ghost s

  room : s.site.swaps < m.swap_limit
  room = let (_, (_, (_, (few, _)))) = (passed (swap_checks s x) None e).checks in let eq = J.sited.swap_limit in grind (arith, nat_tests)

  heads_eq : map (code.put x (code.fresh next T)) (map (code.forget x) W.heads) ≡ map (code_head n) (change_first (is_named x) (λ _. new) (map (forgetting x) s.heads))
  heads_eq =
      let fused : map (code.forget x) W.heads ≡ map (code_head n) (map (forgetting x) s.heads) = map_fuse (code_head n) (code.forget x) (λ h. code_head n (forgetting x h)) (λ h. refl) s.heads ∙ sym (map_fuse (forgetting x) (code_head n) (λ h. code_head n (forgetting x h)) (λ h. refl) s.heads) in
      ap (λ z. map (code.put x z) (map (code.forget x) W.heads)) (sym (code_newcomer V n next T free J.sited.next_above))
      ∙ (ap (map (code.put x (code_head n new))) fused
      ∙ sym (code_replaced n x new (map (forgetting x) s.heads) (moved Distinct fused (distinct_map (code.forget x) W.heads (λ g i. refl) J.inv.apart))))

  abbrev swapped_to : ℕ → ℕ → List code.Head → List code.Item → Site
  swapped_to w y hs ms = record { heads = hs; mail = ms; time = T; swaps = w; fin = J.ghost.fin; top = J.ghost.top; writer = J.ghost.writer; begin = J.ghost.begin; next = y }

  swapped_inv : Inv m.delay m.swap_limit n [] (coded n J.ghost (swap_leaves s x free))
  swapped_inv =
      subst₂ (λ w y. Inv m.delay m.swap_limit n [] (swapped_to w y (map (code_head n) (change_first (is_named x) (λ _. new) (map (forgetting x) s.heads))) (map code_item (dropping (goes_with x) s.items)))) (sym (add-one s.site.swaps)) (sym (add-one next))
      (subst₂ (λ hs ms. Inv m.delay m.swap_limit n [] (swapped_to (suc s.site.swaps) (suc next) hs ms)) heads_eq (sym (code_swap_mail x s.items))
      (swap_inv m.delay m.swap_limit n pos W J.inv x room))

  swapped_own : (h : Head V) → In h (swap_leaves s x free).heads → Own m.delay h
  swapped_own h i = elim (in_change (is_named x) (λ _. new) (map (forgetting x) s.heads) i) [
    | inl j ↦ let (g, k, q) = map_in (forgetting x) s.heads j in moved (Own m.delay) q (J.own g k)
    | inr (_, _, q) ↦ moved (Own m.delay) q (λ r. let z : ◌≡◌ {A = ℕ} 0 1 = cc in absurd (omega arith))
  ]

  pub swap_joined : Joined m F [] (swap_leaves s x free)
  swap_joined = record {
    ghost = J.ghost;
    fin_is = J.fin_is;
    tied = J.tied;
    inv = swapped_inv;
    sited = let o = J.sited in record { delay = o.delay; swap_limit = o.swap_limit; next_above = omega arith };
    own = swapped_own;
  }
