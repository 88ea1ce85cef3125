-- Inner contracts: what a word is recognised as.
use Rattle.std.specs.Prelude.{◌≡◌, ℕ, List, Some, None, codes, Option, ◌≢◌}
use Rattle.jobsheet.specs.declared.names.Name.{Name}
use Rattle.jobsheet.specs.declared.names.Name.TheVariants.{Code, Coder, Message}
use Rattle.jobsheet.specs.declared.names.Order.{Order}
use Rattle.jobsheet.specs.declared.names.Order.TheVariants.{CodeCoderMessage, CodeMessageCoder, CoderCodeMessage, CoderMessageCode, MessageCodeCoder, MessageCoderCode}
use Rattle.jobsheet.specs.declared.names.CoderName.{CoderName}
use Rattle.jobsheet.specs.Values.{coder_word}

abbrev pub name_word : Name → List ℕ
name_word Code = codes "code"
name_word Coder = codes "coder"
name_word Message = codes "message"

-- the names of an order, from the left
abbrev pub first_name : Order → Name
first_name CodeCoderMessage = Code
first_name CodeMessageCoder = Code
first_name CoderCodeMessage = Coder
first_name CoderMessageCode = Coder
first_name MessageCodeCoder = Message
first_name MessageCoderCode = Message

abbrev pub second_name : Order → Name
second_name CodeCoderMessage = Coder
second_name CodeMessageCoder = Message
second_name CoderCodeMessage = Code
second_name CoderMessageCode = Message
second_name MessageCodeCoder = Code
second_name MessageCoderCode = Coder

abbrev pub third_name : Order → Name
third_name CodeCoderMessage = Message
third_name CodeMessageCoder = Coder
third_name CoderCodeMessage = Message
third_name CoderMessageCode = Code
third_name MessageCodeCoder = Coder
third_name MessageCoderCode = Code

-- a word is a name exactly if it is the name's word
abbrev pub Named : List ℕ → Option Name → Type 0
Named w (Some n) = w ≡ name_word n
Named w None = (n : Name) → w ≢ name_word n

-- three names are those of an order, or of none
abbrev pub Arranged : Name → Name → Name → Option Order → Type 0
Arranged a b c (Some o) = (first_name o ≡ a) × (second_name o ≡ b) × (third_name o ≡ c)
Arranged a b c None = (o : Order) → first_name o ≡ a → second_name o ≡ b → third_name o ≢ c

-- a word names a coder exactly if it is the coder's word
abbrev pub CoderNamed : List ℕ → Option CoderName → Type 0
CoderNamed w (Some c) = w ≡ coder_word c
CoderNamed w None = (c : CoderName) → w ≢ coder_word c
