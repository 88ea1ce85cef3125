-- Inner contracts: what a printer prints.
use Rattle.std.specs.Prelude.{◌≡◌, ℕ, ◌+◌, ◌≤◌, List, ◌++◌, length, take, drop}
use Rattle.jobsheet.specs.declared.printing.Printer.{Printer}

-- a buffer with a text written at a place
abbrev pub printed : List ℕ → ℕ → List ℕ → List ℕ
printed old at text = take at old ++ (text ++ drop (at + length text) old)

-- there is room for so many bytes more
abbrev pub HasRoom : Printer → ℕ → Type 0
HasRoom p n = p.at + n ≤ length p.out.now

-- a text was printed behind what there was, in the same buffer, which had the room
pub record Adds (p q : Printer) (text : List ℕ) : Type 0 where
  pub buffer : q.out.ghost_name ≡ p.out.ghost_name
  pub at : q.at ≡ p.at + length text
  pub out : q.out.now ≡ printed p.out.now p.at text
  pub long : length q.out.now ≡ length p.out.now
  pub room : p.at + length text ≤ length p.out.now
