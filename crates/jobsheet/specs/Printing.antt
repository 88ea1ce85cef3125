-- What is printed: the heading, a line for a good job line, and a line for a refusal.
use Rattle.std.specs.Prelude.{ℕ, List, ◌++◌, length, drop, codes, decimal, slice_index}
use Rattle.refusal.specs.Outcome.{Numbered}
use Rattle.ar4ja.specs.declared.codes.Code.{Code}
use Rattle.ar4ja.specs.Codes.{number_of}
use Rattle.jobsheet.specs.declared.names.CoderName.{CoderName}
use Rattle.jobsheet.specs.Values.{coder_word}
use Rattle.jobsheet.specs.Jobs.{Asked}
use Rattle.jobsheet.specs.Parity.{parity_hex}

abbrev pub heading : List ℕ
heading = codes "line,code,coder,parity"

-- a good line: its number in the sheet, the code, the coder and the parity
abbrev pub job_start : ℕ → Code → CoderName → List ℕ
job_start line code coder = decimal line ++ (codes "," ++ (decimal (number_of code) ++ (codes "," ++ (coder_word coder ++ codes ","))))

abbrev pub job_text : ℕ → Asked → List ℕ
job_text line a = job_start line a.code a.coder ++ parity_hex a.code a.message

-- a refusal: the line and the column that it carries, and its number
abbrev pub refusal_text : Numbered → List ℕ
refusal_text r = decimal (slice_index r.values 0) ++ (codes ",refused," ++ (decimal (slice_index r.values 1) ++ (codes "," ++ decimal r.number)))

-- a line with its newline
abbrev pub ended : List ℕ → List ℕ
ended line = line ++ codes "\n"

-- a buffer with a text written at its front
abbrev pub front : List ℕ → List ℕ → List ℕ
front text old = text ++ drop (length text) old
