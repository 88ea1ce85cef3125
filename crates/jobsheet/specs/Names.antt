-- The names line: code, coder and message, each once, in any order, with commas between.
use Rattle.std.specs.Prelude.{ℕ, cond, List, [], ◌∷◌, Some, None, codes, Option}
use Rattle.std.specs.Str.{bytes_eq}
use Rattle.jobsheet.specs.declared.names.Order.{Order}
use Rattle.jobsheet.specs.declared.names.Order.TheVariants.{CodeCoderMessage, CodeMessageCoder, CoderCodeMessage, CoderMessageCode, MessageCodeCoder, MessageCoderCode}

-- the names line of each order
abbrev pub names_line : Order → List ℕ
names_line CodeCoderMessage = codes "code,coder,message"
names_line CodeMessageCoder = codes "code,message,coder"
names_line CoderCodeMessage = codes "coder,code,message"
names_line CoderMessageCode = codes "coder,message,code"
names_line MessageCodeCoder = codes "message,code,coder"
names_line MessageCoderCode = codes "message,coder,code"

-- the order of which a line is the names line
unfoldable pub order_of : List ℕ → Option Order
order_of line =
    cond (bytes_eq line (names_line CodeCoderMessage)) (Some CodeCoderMessage)
    (cond (bytes_eq line (names_line CodeMessageCoder)) (Some CodeMessageCoder)
    (cond (bytes_eq line (names_line CoderCodeMessage)) (Some CoderCodeMessage)
    (cond (bytes_eq line (names_line CoderMessageCode)) (Some CoderMessageCode)
    (cond (bytes_eq line (names_line MessageCodeCoder)) (Some MessageCodeCoder)
    (cond (bytes_eq line (names_line MessageCoderCode)) (Some MessageCoderCode) None)))))

-- the order of a sheet, by its first line
abbrev pub sheet_order : List (List ℕ) → Option Order
sheet_order [] = None
sheet_order (names ∷ ls) = order_of names
