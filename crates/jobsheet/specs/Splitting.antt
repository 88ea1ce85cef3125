-- Inner contracts: a text split at a separator.
use Rattle.std.specs.Prelude.{ℕ, ◌-◌, Bool, cond, not, List, [], take, drop, ◌==◌, nat_le}
use Rattle.jobsheet.specs.Text.{words}

-- whether a byte is not the separator
abbrev pub apart : ℕ → ℕ → Bool
apart separator b = not (b == separator)

-- the words from a place on of the line that ends before `end`; none past its end
abbrev pub words_from : List ℕ → ℕ → ℕ → List (List ℕ)
words_from text from end = cond (nat_le from end) (words (take (end - from) (drop from text))) []
