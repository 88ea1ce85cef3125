-- Inner contracts: tokens, the parts of a sheet that its words are.
use Rattle.std.specs.Prelude.{◌≡◌, ℕ, ◌+◌, ◌-◌, ◌<◌, ◌≤◌, List, [], ◌∷◌, length, take, drop, Some, None, Option}
use Rattle.std.specs.Borrow.{Bor}
use Rattle.jobsheet.specs.Splitting.{words_from}
use Rattle.jobsheet.specs.declared.line.Line.{Line}
use Rattle.jobsheet.specs.declared.token.Kind.{Kind}
use Rattle.jobsheet.specs.declared.token.Kind.TheVariants.{Names, Values}
use Rattle.jobsheet.specs.declared.token.Words.{Words}
use Rattle.jobsheet.specs.declared.token.Token.{Token}
use Rattle.jobsheet.specs.declared.token.Token.TheVariants.{Name, Value, End}

-- the bytes of a token, and its place
abbrev pub part : Token → List ℕ
part (Name w p) = w.now
part (Value w p) = w.now
part (End w p) = w.now

abbrev pub place : Token → ℕ
place (Name w p) = p
place (Value w p) = p
place (End w p) = p

-- whether the case of a token is due: a word of the kind, or the end
abbrev pub Due : Token → Kind → ℕ → ℕ → Type 0
Due (Name w p) kind from end = (kind ≡ Names) × (from ≤ end)
Due (Value w p) kind from end = (kind ≡ Values) × (from ≤ end)
Due (End w p) kind from end = end < from

-- the words from the token on
abbrev pub spelled : Token → List (List ℕ) → List (List ℕ)
spelled (Name w p) ws = w.now ∷ ws
spelled (Value w p) ws = w.now ∷ ws
spelled (End w p) ws = []

-- the bytes of a line that are yet to be read, and the words that they are
abbrev pub rest : Line → List ℕ
rest l = take (l.end - l.from) (drop l.from l.text.now)

abbrev pub left : Line → List (List ℕ)
left l = words_from l.text.now l.from l.end

-- the token is the part of the sheet at its place, and it is the next word of the line, or its end
pub record Stands (t : Token) (kind : Kind) (l : Line) : Type 0 where
  pub case : Due t kind l.from l.end
  pub there : part t ≡ take (length (part t)) (drop (place t) l.text.now)
  pub next : left l ≡ spelled t (words_from l.text.now (place t + length (part t) + 1) l.end)
  pub within : place t + length (part t) ≤ l.end

-- the next word was read off a line, or there was none
abbrev pub Taken : Option (Bor (List ℕ)) → Line → Line → Type 0
Taken (Some w) l m = left l ≡ w.now ∷ left m
Taken None l m = left l ≡ []

-- the three words of a line, or another number of them
abbrev pub Three : Option Words → List (List ℕ) → Type 0
Three (Some w) ws = ws ≡ w.first.now ∷ w.second.now ∷ w.third.now ∷ []
Three None ws = length ws ≡ 3 → ⊥
