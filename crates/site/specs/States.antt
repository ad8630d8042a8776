-- What a site and the tables lent to it tell, and what an answer tells.
use Rattle.std.specs.Prelude.{ℕ, List, ℤ, Some, None, Ok, Err, Option, Result}
use Rattle.logs.specs.Meanings.{Meaning}
use Rattle.protocol.specs.declared.state.HeadState.{HeadState}
use Rattle.protocol.specs.declared.refusal.Refusal.{Refusal}
use Rattle.protocol.specs.declared.answer.Answer.{Answer}
use Rattle.protocol.specs.declared.answer.Answer.TheVariants.{Swapped, Value, Written, Brought, Ticked, Seen, Refused}
use Rattle.protocol.specs.Sites.{UnderWay as ToldUnderWay, Site as Told, State}
use Rattle.tables.specs.declared.head.Head.{Head}
use Rattle.tables.specs.declared.mail.MailPlace.{MailPlace}
use Rattle.acts.specs.Lent.{lent}
use Rattle.site.specs.declared.site.UnderWay.{UnderWay}
use Rattle.site.specs.declared.site.Site.{Site}

abbrev pub under_way_of : Option UnderWay → Option ToldUnderWay
under_way_of None = None
under_way_of (Some u) = Some (record { writer = u.writer; begin = u.begin })

abbrev pub site_of : Site → Told
site_of s =
    record {
      size = s.size;
      delay = s.delay;
      swap_limit = s.swap_limit;
      time = s.time;
      swaps = s.swaps;
      next_name = s.next_name;
      under_way = under_way_of s.under_way;
    }

abbrev pub state_of : {V : Type 0} → Site → List (Head V) → List (MailPlace V) → Meaning V → State V
state_of s heads mail log = lent (site_of s) heads mail log

abbrev pub swapped_answer : {V : Type 0} → Result ℕ Refusal → Answer V
swapped_answer (Ok x) = Swapped x
swapped_answer (Err why) = Refused why

abbrev pub read_answer_of : {V : Type 0} → Result (ℤ × V) Refusal → Answer V
read_answer_of (Ok (z, v)) = Value z v
read_answer_of (Err why) = Refused why

abbrev pub written_answer : {V : Type 0} → Result ℤ Refusal → Answer V
written_answer (Ok z) = Written z
written_answer (Err why) = Refused why

abbrev pub brought_answer : {V : Type 0} → Result (Unit {0}) Refusal → Answer V
brought_answer (Ok u) = Brought
brought_answer (Err why) = Refused why

abbrev pub ticked_answer : {V : Type 0} → Result (ℕ × ℕ) Refusal → Answer V
ticked_answer (Ok (t, n)) = Ticked t n
ticked_answer (Err why) = Refused why

abbrev pub seen_answer : {V : Type 0} → Result (HeadState × ℤ) Refusal → Answer V
seen_answer (Ok (q, z)) = Seen q z
seen_answer (Err why) = Refused why

-- an answer, or why there is none
abbrev pub answered : {V : Type 0} → Result (Answer V) Refusal → Answer V
answered (Ok a) = a
answered (Err why) = Refused why
