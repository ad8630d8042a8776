-- What the site's own record tells of a write.
use Rattle.std.proofs.Common.{◌≡◌, ℕ, ◌≤◌, Bool, false, List, length, is_some, Some, None, Option, Result, refl, ◌∙◌, subst, arith}
use Rattle.protocol.specs.declared.refusal.Refusal.{Refusal}
use Rattle.protocol.specs.declared.refusal.Refusal.TheVariants.{ForeignTables}
use Rattle.protocol.specs.Sites.{foreign}
use Rattle.tables.specs.declared.head.Head.{Head}
use Rattle.tables.specs.declared.mail.MailPlace.{MailPlace}
use Rattle.acts.specs.Lent.{lent}
use Rattle.acts.specs.Writing.{Writes}
use Rattle.acts.proofs.Checks.{own_size, foreign_by, not_refused}
use Rattle.site.specs.declared.site.UnderWay.{UnderWay}
use Rattle.site.specs.declared.site.Site.{Site}
use Rattle.site.specs.Checks.{no_log, tables_refusal, head_refusal}
use Rattle.site.specs.States.{under_way_of, site_of}

busy_told : (o : Option UnderWay) → is_some o ≡ is_some (under_way_of o)
busy_told None = refl
busy_told (Some u) = refl

module _ {V : Type 0} (s : Site) where
  -- tables of the site have no more than 64 heads
  pub few_lent : (hs : List (Head V)) (ms : List (MailPlace V)) (x : ℕ) → head_refusal s hs ms x ≡ None → length hs ≤ 64
  few_lent hs ms x e = omega (arith, own_size (site_of s) hs ms no_log _ e, s.few)

  -- whether a write is under way, as the protocol tells it
  pub writes_told : (lawful : V → Bool) (b : Bool) (h : Head V) (v : V) (r : Result (Head V) Refusal) → b ≡ is_some s.under_way → Writes lawful b h v r → Writes lawful (is_some (site_of s).under_way) h v r
  writes_told lawful b h v r e w = subst (λ c. Writes lawful c h v r) (e ∙ busy_told s.under_way) w

-- what the check of the tables tells
module _ {V : Type 0} (s : Site) (hs : List (Head V)) (ms : List (MailPlace V)) where
  pub own_tables : tables_refusal s (length hs) (length ms) ≡ None → foreign (lent (site_of s) hs ms no_log) ≡ false
  own_tables e = foreign_by (site_of s) hs ms no_log (not_refused _ ForeignTables None e)
