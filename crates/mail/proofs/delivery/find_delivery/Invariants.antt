use mathlib.Core.Path.{◌≡◌}
use lib.ListN.{drop}
use Rattle.protocol.specs.Heads.{is_named, holds_of}
use Rattle.protocol.specs.Items.{is_told}
use Rattle.tables.specs.FirstPlaces.{place_from, place_of}
use Rattle.tables.specs.HeadPlaces.{head_of}
use Rattle.tables.specs.MailPlaces.{item_of}
use Rattle.mail.proofs.delivery.find_delivery.Given as goal

abbrev pub invariant-loop-i : goal.invariant-loop-i
invariant-loop-i g l =
    place_from (λ h. is_named l.label.receiver (head_of h)) l.i (drop l.i l.heads) ≡ place_of (λ h. is_named l.label.receiver (head_of h)) l.heads

abbrev pub invariant-loop-k : goal.invariant-loop-k
invariant-loop-k g l =
    place_from (λ p. holds_of (is_told l.label.kind l.label.sender l.label.receiver) (item_of p)) l.k (drop l.k l.mail)
    ≡ place_of (λ p. holds_of (is_told l.label.kind l.label.sender l.label.receiver) (item_of p)) l.mail
