-- What make answers and leaves.
use Rattle.std.specs.Prelude.{◌≡◌, Bool, List, Some, None, Ok, Err, Result}
use Rattle.protocol.specs.declared.refusal.Refusal.{Refusal}
use Rattle.protocol.specs.Make.{Setup, Made, make_refusal}
use Rattle.tables.specs.declared.head.Head.{Head}
use Rattle.tables.specs.declared.mail.MailPlace.{MailPlace}
use Rattle.site.specs.declared.site.Site.{Site}
use Rattle.site.specs.States.{state_of}

-- a site over the tables as they are then, or why there is none
abbrev pub Makes : {V : Type 0} → (V → Bool) → Setup V → Result Site Refusal → List (Head V) → List (MailPlace V) → Type 0
Makes lawful m (Ok s) heads mail = (make_refusal lawful m ≡ None) × Made m (state_of s heads mail m.log)
Makes lawful m (Err why) heads mail = make_refusal lawful m ≡ Some why
