-- What make leaves is a new site.
use Rattle.std.proofs.Common.{◌≡◌, ℕ, ◌≤◌, Bool, ◌||◌, eqb, ltb, List, [], map, length, None, ◌∙◌, arith}
use Rattle.std.proofs.lemmas.List.{length-map}
use Rattle.std.proofs.lemmas.Bool.Decides.{nat_tests}
use Rattle.logs.specs.Meanings.{Meaning}
use Rattle.protocol.specs.declared.refusal.Refusal.TheVariants.{HeadCount}
use Rattle.protocol.specs.Heads.{Head as Told}
use Rattle.protocol.specs.Items.{Item}
use Rattle.protocol.specs.Make.{Setup, Made, make_site, make_refusal, originals}
use Rattle.protocol.specs.Sites.{Site, State}
use Rattle.tables.specs.declared.head.Head.{Head}
use Rattle.tables.specs.declared.mail.MailPlace.{MailPlace}
use Rattle.tables.specs.HeadPlaces.{head_of, heads_of, lacking}
use Rattle.tables.specs.MailPlaces.{items_of}
use Rattle.acts.specs.Lent.{lent}
use Rattle.acts.specs.Making.{setup_of}
use Rattle.acts.proofs.Checks.{not_refused}

pub few_heads : {V : Type 0} (lawful : V → Bool) (s : Setup V) → make_refusal lawful s ≡ None → s.size ≤ 64
few_heads lawful s e = let f = not_refused (eqb s.size 0 || ltb 64 s.size) HeadCount _ e in grind (arith, nat_tests)

same_state : {V : Type 0} (u w : Site) (hs ks : List (Told V)) (n k : ℕ) (is js : List (Item V)) (m : Meaning V) → u ≡ w → hs ≡ ks → n ≡ k → is ≡ js → ◌≡◌ {A = State V} (record { site = u; heads = hs; places = n; items = is; log = m }) (record { site = w; heads = ks; places = k; items = js; log = m })
same_state u w hs ks n k is js m a b c d = rw (a, b, c, d)

module _ {V : Type 0} (u : Site) (hs ys : List (Head V)) (ms ns : List (MailPlace V)) (delay limit : ℕ) (start : V) (m : Meaning V) where
  pub made : u ≡ make_site (setup_of (length hs) (length ms) delay limit start m) → heads_of ys ≡ originals start 1 (map lacking (heads_of hs)) → length ns ≡ length ms → items_of ns ≡ [] → Made (setup_of (length hs) (length ms) delay limit start m) (lent u ys ns m)
  made a b c d =
      record {
        free = map lacking (heads_of hs);
        all = length-map (heads_of hs) lacking ∙ length-map hs head_of;
        left = same_state u (make_site (setup_of (length hs) (length ms) delay limit start m)) (heads_of ys) (originals start 1 (map lacking (heads_of hs))) (length ns) (length ms) (items_of ns) [] m a b c d;
      }
