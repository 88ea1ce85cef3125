-- What is due by the book, and what a book's list of messages comes to.
use Rattle.std.proofs.Common.{◌≡◌, ℕ, zero, suc, ◌+◌, ◌-◌, ◌*◌, ◌^◌, ◌<◌, ◌≤◌, cond, eqb, ltb, List, [], ◌∷◌, ◌++◌, length, get_or, Some, None, sym, ◌∙◌, ap₂, inl, inr, suc-mul, arith}
use Rattle.std.proofs.lemmas.Nat.{mul-le}
use Rattle.std.proofs.lemmas.Bool.{cases_Bool, cond-true, cond-false, le-ltb, ltb-true, ltb-false, eqb-true, eq-eqb}
use Rattle.element.specs.declared.bits.Bit.{Bit}
use Rattle.qc.specs.Shape.{whole}
use Rattle.ar4ja.specs.declared.codes.Code.{Code}
use Rattle.ar4ja.specs.Codes.{shape_of}
use Rattle.outlet.specs.Masks.{frame_bits}
use Rattle.frame.specs.Message.{message_len}
use Rattle.frame.proofs.Marks.{none_some}
use Rattle.line.specs.declared.faults.SendFault.TheVariants as send
use Rattle.line.specs.Book.{Book, written, places_left, send_due, read_back_due}
use Rattle.line.specs.Follow.{Message}
use Rattle.line.proofs.Frames.{length_written}

-- what is known where no refusal of a send is due
pub record Sendable (code : Code) (left message run : ℕ) : Type 0 where
  pub message_long : message ≡ message_len code
  pub run_long : whole (shape_of code) ≤ run
  pub room_left : frame_bits code ≤ left

module _ (code : Code) (left message run : ℕ) where
  pub sendable : None ≡ send_due code left message run → Sendable code left message run
  sendable e = elim (cases_Bool (eqb message (message_len code))) [
    | inr t ↦ absurd (none_some _ (e ∙ cond-false _ _ _ t))
    | inl t ↦ elim (cases_Bool (ltb run (whole (shape_of code)))) [
      | inl u ↦ absurd (none_some _ (e ∙ cond-true _ _ _ t ∙ cond-true _ _ _ u))
      | inr u ↦ elim (cases_Bool (ltb left (frame_bits code))) [
        | inl v ↦ absurd (none_some _ (e ∙ cond-true _ _ _ t ∙ cond-false _ _ _ u ∙ cond-true _ _ _ v))
        | inr v ↦ record { message_long = eqb-true _ _ t; run_long = ltb-false _ _ u; room_left = ltb-false _ _ v }
      ]
    ]
  ]

  -- by the places left alone, where the lengths are lawful
  pub due_by_room : message ≡ message_len code → whole (shape_of code) ≤ run → send_due code left message run ≡ cond (ltb left (frame_bits code)) (Some send.NoRoom) None
  due_by_room e h = cond-true _ _ _ (eq-eqb message (message_len code) e) ∙ cond-false _ _ _ (le-ltb run (whole (shape_of code)) h)

-- what is known where no refusal of a read-back is due
pub record Readable (code : Code) (number frame message run : ℕ) : Type 0 where
  pub below : frame < number
  pub message_long : message ≡ message_len code
  pub run_long : whole (shape_of code) ≤ run

pub readable : (code : Code) (number frame message run : ℕ) → None ≡ read_back_due code number frame message run → Readable code number frame message run
readable code number frame message run e = elim (cases_Bool (ltb frame number)) [
  | inr t ↦ absurd (none_some _ (e ∙ cond-false _ _ _ t))
  | inl t ↦ elim (cases_Bool (eqb message (message_len code))) [
    | inr u ↦ absurd (none_some _ (e ∙ cond-true _ _ _ t ∙ cond-false _ _ _ u))
    | inl u ↦ elim (cases_Bool (ltb run (whole (shape_of code)))) [
      | inl v ↦ absurd (none_some _ (e ∙ cond-true _ _ _ t ∙ cond-true _ _ _ u ∙ cond-true _ _ _ v))
      | inr v ↦ record { below = ltb-true _ _ t; message_long = eqb-true _ _ u; run_long = ltb-false _ _ v }
    ]
  ]
]

-- the places left, by what the outlet holds
pub places_are : (b : Book) → places_left b ≡ b.capacity - length (written b)
places_are b = omega (arith, length_written b.code b.opening b.messages)

-- what is due to a line that follows a book is due by the book
pub due_follows : (b : Book) (code : Code) (room : ℕ) (held : List Bit) (message run : ℕ) → code ≡ b.code → room ≡ b.capacity → held ≡ written b
    → send_due code (room - length held) message run ≡ send_due b.code (places_left b) message run
due_follows b code room held message run c r h =
    ap₂ (λ (x : Code) (n : ℕ). send_due x n message run) c (ap₂ (λ (k : ℕ) (z : List Bit). k - length z) r h ∙ sym (places_are b))

-- the number of messages is far from its limit
pub few : (b : Book) → length (written b) < 2 ^ 64 → length b.messages + 1 < 2 ^ 64
few b h =
    omega (arith, length_written b.code b.opening b.messages, mul-le (length b.messages) 64 (length b.messages) (frame_bits b.code) (omega arith) (omega arith))

pub listed_messages : (code : Code) (ms : List (List ℕ)) (m : List ℕ) → ((k : ℕ) → k < length ms → Message code (get_or ms k [])) → Message code m
    → (k : ℕ) → k < length (ms ++ (m ∷ [])) → Message code (get_or (ms ++ (m ∷ [])) k [])
listed_messages code [] m h l zero p = l
listed_messages code [] m h l (suc k) p = absurd (omega arith)
listed_messages code (x ∷ xs) m h l zero p = h 0 (omega arith)
listed_messages code (x ∷ xs) m h l (suc k) p = listed_messages code xs m (λ j q. h (suc j) (omega arith)) l k (omega arith)

-- a listed message's frame is held whole
pub frame_held : (b : Book) (k : ℕ) → k < length b.messages → length b.opening + k * frame_bits b.code + frame_bits b.code ≤ length (written b)
frame_held b k h =
    omega (arith, length_written b.code b.opening b.messages, suc-mul k (frame_bits b.code), mul-le (suc k) (frame_bits b.code) (length b.messages) (frame_bits b.code) (omega arith) (omega arith))
