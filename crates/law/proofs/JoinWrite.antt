-- A write keeps a state joined.
use Rattle.std.proofs.Common.{◌≡◌, ℕ, suc, ◌<◌, Bool, List, [], ◌++◌, map, Some, None, unwrap_or, sym, refl, ap, ◌∙◌, ap₂, subst₂, add-one, arith}
use Rattle.std.proofs.lemmas.List.{map-append}
use Rattle.std.proofs.lemmas.Bool.{eqb-true, not-false, or_parts}
use Rattle.protocol.specs.declared.state.HeadState.TheVariants.{Active}
use Rattle.protocol.specs.Places.{all_but_first, change_first}
use Rattle.protocol.specs.Heads.{Copy, Head, is_named, is_active, holds_of, state_by, copy_by, copy_named, next_stamp, with_copy}
use Rattle.protocol.specs.Items.{Item, write, to_each}
use Rattle.protocol.specs.Sites.{State}
use Rattle.protocol.specs.Make.{Setup}
use Rattle.protocol.specs.Write.{write_checks, write_refusal, write_mail, write_leaves, new_copy}
use Rattle.law.proofs.Coded as code
use Rattle.law.proofs.Coded.{In, Site, others}
use Rattle.law.proofs.Base.{in_map, moved}
use Rattle.law.proofs.Inv.{Inv}
use Rattle.law.proofs.Beginning.{begin_inv}
use Rattle.law.proofs.Firsts.{Split, split_in, found, is_some, is_none}
use Rattle.law.proofs.Count.{Distinct}
use Rattle.law.proofs.Coding.{Ghost, Tied, code_copy, code_state, code_head, code_item, coded, code_put, code_others, put_some}
use Rattle.law.proofs.Checks.{passed}
use Rattle.law.proofs.Joining.{Own, Joined, each_changed, code_letters, active_from, active_copy}

module _ {V : Type 0} (m : Setup V) (F : ℕ) (s : State V) (pos : 0 < m.delay) (J : Joined m F [] s) (x : ℕ) (v : V) where
  abbrev n : ℕ
  n = m.size

  abbrev T : ℕ
  T = s.site.time

  abbrev g : Ghost
  g = J.ghost

  abbrev W : Site
  W = coded n g s

  abbrev N : Copy V
  N = new_copy s x v

  module _ (h : Head V) (sp : Split (is_named x) s.heads h) (c : Copy V) (act : h.state ≡ Active) (named : copy_named x s.heads ≡ Some c) (has : h.copy ≡ Some c) (idle : g.fin ≡ g.top) (items : List (Item V)) (put_in : write_mail s x v ≡ Some items) where
    name_is : h.name ≡ x
    name_is = eqb-true h.name x sp.passes

    stamp_is : suc N.stamp ≡ suc (code_copy h.copy)
    stamp_is = let e₁ = ap next_stamp named in let e₂ = ap code_copy has in let e₃ = add-one c.stamp in omega arith

    abbrev g' : Ghost
    g' = record { fin = g.fin; top = suc (code_copy h.copy); writer = h.name; begin = T }

    at_h : In h s.heads
    at_h = split_in sp

    abbrev h' : Head V
    h' = with_copy (Some N) h

    heads_eq : map (code.put h.name (code.recopied (suc (code_copy h.copy)) (code_head n h))) W.heads ≡ map (code_head n) (change_first (is_named x) (with_copy (Some N)) s.heads)
    heads_eq =
        ap (λ z. map (code.put h.name (code.recopied z (code_head n h))) W.heads) (sym stamp_is)
        ∙ (ap (λ hs. map (code.put h.name (code_head n h')) (map (code_head n) hs)) sp.whole
        ∙ (code_put n sp.us h h' sp.vs (moved (λ hs. Distinct (map (code_head n) hs)) sp.whole J.inv.apart)
        ∙ sym (ap (map (code_head n)) (sp.changed (with_copy (Some N))))))

    abbrev letters : List (Item V)
    letters = to_each (λ b. write x b T (Some N)) (sp.us ++ sp.vs)

    items_are : s.items ++ letters ≡ items
    items_are = ap (λ hs. s.items ++ to_each (λ b. write x b T (Some N)) hs) (sym sp.rest) ∙ put_some s.places s.items (to_each (λ b. write x b T (Some N)) (all_but_first (is_named x) s.heads)) put_in

    mail_eq : W.mail ++ map (λ z. code.write (suc (code_copy h.copy)) h.name z.name T) (others h.name W.heads) ≡ map code_item (unwrap_or (write_mail s x v) s.items)
    mail_eq =
        ap (λ z. W.mail ++ map (λ z. code.write (suc (code_copy h.copy)) h.name z.name T) z)
        (ap (λ hs. others h.name (map (code_head n) hs)) sp.whole ∙ code_others n sp.us h sp.vs (moved (λ hs. Distinct (map (code_head n) hs)) sp.whole J.inv.apart))
        ∙ (ap (λ z. W.mail ++ z) (code_letters n (λ b. write x b T (Some N)) (λ z. code.write (suc (code_copy h.copy)) h.name z.name T) (λ z. ap₂ (λ a b. code.write a b z.name T) (sym stamp_is) name_is) (sp.us ++ sp.vs))
        ∙ (sym (map-append code_item s.items letters)
        ∙ (ap (map code_item) items_are
        ∙ ap (λ o. map code_item (unwrap_or o s.items)) (sym put_in))))

    written_inv : Inv m.delay m.swap_limit n [] (coded n g' (write_leaves s x v))
    written_inv = subst₂ (λ hs ms. Inv m.delay m.swap_limit n [] (record { heads = hs; mail = ms; time = T; swaps = s.site.swaps; fin = g.fin; top = suc (code_copy h.copy); writer = h.name; begin = T; next = s.site.next_name })) heads_eq mail_eq
        (begin_inv m.delay m.swap_limit n pos W J.inv (code_head n h) (in_map (code_head n) at_h) (ap code_state act) idle)

    written_own : (z : Head V) → In z (write_leaves s x v).heads → Own m.delay z
    written_own z j = each_changed sp.us h h' sp.vs (Own m.delay) (J.own h at_h) (λ y k. J.own y (moved (λ hs. In y hs) (sym sp.whole) k)) z (moved (λ hs. In z hs) (sp.changed (with_copy (Some N))) j)

    written_joined : Joined m F [] (write_leaves s x v)
    written_joined = record {
      ghost = g';
      fin_is = J.fin_is;
      tied = (let o = J.inv.heads_ok (code_head n h) (in_map (code_head n) at_h) in let e = ap code_copy has in omega (arith, o.low), name_is, refl);
      inv = written_inv;
      sited = let o = J.sited in record { delay = o.delay; swap_limit = o.swap_limit; next_above = o.next_above };
      own = written_own;
    }

  pub write_joined : (lawful : V → Bool) → write_refusal lawful s x v ≡ None → Joined m F [] (write_leaves s x v)
  write_joined lawful e =
      let (_, (here?, (active?, (_, (way?, (room?, _)))))) = (passed (write_checks lawful s x v) None e).checks in
      let (h, named, sp) = found (is_named x) s.heads (not-false _ here?) in
      let act = active_from h.state (sym (ap (λ o. holds_of is_active (state_by o)) named) ∙ not-false _ active?) in
      let (c, has) = active_copy n h act (J.inv.heads_ok (code_head n h) (in_map (code_head n) (split_in sp))).stage in
      let (items, put_in) = is_some (write_mail s x v) (not-false _ (or_parts _ _ room?).0) in
      written_joined h sp c act (ap copy_by named ∙ has) has (moved (Tied g) (is_none s.site.under_way way?) J.tied) items put_in
