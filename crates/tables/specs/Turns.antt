-- What a head's turn in a tick tells.
use Rattle.protocol.specs.Tick.{Turn as Told, rests, inquires, strands, activates_or}
use Rattle.tables.specs.declared.turn.Turn.{Turn}
use Rattle.tables.specs.declared.turn.Turn.TheVariants.{Rest, Inquire, Activate, Strand}
use Rattle.records.specs.Copies.{copied}

-- without a copy no head turns active
abbrev pub turn_of : {V : Type 0} → Turn V → Told V
turn_of Rest = rests
turn_of Inquire = inquires
turn_of (Activate c) = activates_or rests (copied c)
turn_of Strand = strands
