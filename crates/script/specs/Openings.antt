-- What opening a script answers.
use Rattle.std.specs.Prelude.{◌≡◌, ℕ, Bool, List, Ok, Err, Result}
use Rattle.script.specs.declared.BadWord.{BadWord}
use Rattle.script.specs.declared.Opening.{Opening}
use Rattle.script.specs.declared.Script.{Script}
use Rattle.script.specs.Scripts.{opening_of}

-- the site that the first six words make, with a reader behind them; or the first bad word
abbrev pub Opened : List ℕ → Bool → Result (Opening × Script) BadWord → Type 0
Opened ws short (Ok (o, s)) = (opening_of ws ≡ Ok o) × (s.words.now ≡ ws) × (s.short ≡ short) × (s.at ≡ 6)
Opened ws short (Err b) = opening_of ws ≡ Err b
