-- How a bad word is told.
use Rattle.std.specs.Prelude.{ℕ, List, ◌++◌, codes, decimal}

abbrev pub bad_word_text : ℕ → List ℕ
bad_word_text i = codes "bad word " ++ decimal i
