-- The law of a list of calls, from what the book gives.
use Rattle.std.proofs.Common.{◌≡◌, ℕ, zero, suc, ◌+◌, ◌-◌, ◌*◌, ◌<◌, ◌≤◌, List, [], ◌∷◌, ◌++◌, length, get_or, take, Some, None, Option, sym, refl, ap, ◌∙◌, subst, ap₂, append_assoc, le_of_suc-le-suc, not-suc-le-zero, arith}
use Rattle.std.specs.List.{flat_map}
use Rattle.std.proofs.lemmas.List.{append-nil}
use Rattle.std.proofs.lemmas.Bool.{cond-true, cond-false, eq-eqb, lt-ltb, le-ltb}
use Rattle.refusal.specs.Outcome.{Outcome.done}
use Rattle.element.specs.declared.bits.Bit.{Bit}
use Rattle.qc.specs.Shape.{whole}
use Rattle.ar4ja.specs.declared.codes.Code.{Code}
use Rattle.ar4ja.specs.Codes.{shape_of}
use Rattle.outlet.specs.Masks.{frame_bits}
use Rattle.frame.specs.Message.{message_len}
use Rattle.line.specs.declared.call.Ask.{Ask}
use Rattle.line.specs.declared.call.Ask.TheVariants as ask
use Rattle.line.specs.declared.faults.SendFault.{SendFault}
use Rattle.line.specs.Frames.{frame, block_in}
use Rattle.line.specs.Book.{Book, opened, written, places_left, send_due, read_back_due, sent_by, book_by, due_to_send, due_to_read, read_by, message_read_by, run_read_by}
use Rattle.line.specs.Calls.{Told, Told.sent, Told.read_back, Entry, served, served_as, turned, turned_as, served_calls, book_after}
use Rattle.line.specs.Law.{message_of, messages_sent, LawfulLengths, LineLaw}
use Rattle.line.proofs.WholeBlocks.{whole_is}
use Rattle.line.proofs.Books.{sendable, due_by_room}

-- a send changes the list of messages and the refused number alone
pub record Grown (b b' : Book) (more : List (List ℕ)) : Type 0 where
  pub same_code : b'.code ≡ b.code
  pub same_opening : b'.opening ≡ b.opening
  pub same_capacity : b'.capacity ≡ b.capacity
  pub messages_are : b'.messages ≡ b.messages ++ more

unchanged : (b : Book) → Grown b b []
unchanged b = record { same_code = refl; same_opening = refl; same_capacity = refl; messages_are = sym (append-nil b.messages) }

grown_send : (b : Book) (m : List ℕ) (o : Option SendFault) → Grown b (book_by b m o) (message_of m (sent (sent_by o)))
grown_send b m None = record { same_code = refl; same_opening = refl; same_capacity = refl; messages_are = refl }
grown_send b m (Some fault) = record { same_code = refl; same_opening = refl; same_capacity = refl; messages_are = sym (append-nil b.messages) }

grown_call : (b : Book) (e : Entry) (a : Ask) → Grown b (turned_as b e a) (message_of (served_as b e a).message (served_as b e a).answer)
grown_call b e ask.Send = grown_send b e.message (due_to_send b e.message e.run)
grown_call b e (ask.ReadBack k) = unchanged b
grown_call b e ask.Counts = unchanged b

pub grown : (b : Book) (es : List Entry) → Grown b (book_after b es) (messages_sent (served_calls b es))
grown b [] = unchanged b
grown b (e ∷ es) =
    let h = grown_call b e e.ask in
    let t = grown (turned b e) es in
    record {
      same_code = t.same_code ∙ h.same_code;
      same_opening = t.same_opening ∙ h.same_opening;
      same_capacity = t.same_capacity ∙ h.same_capacity;
      messages_are =
          t.messages_are ∙ ap (λ (z : List (List ℕ)). z ++ messages_sent (served_calls (turned b e) es)) h.messages_are
          ∙ append_assoc b.messages (message_of (served b e).message (served b e).answer) (messages_sent (served_calls (turned b e) es));
    }

-- the calls before place i, and the call there
take_served : (b : Book) (es : List Entry) (i : ℕ) → take i (served_calls b es) ≡ served_calls b (take i es)
take_served b es zero = refl
take_served b [] (suc i) = refl
take_served b (e ∷ es) (suc i) = ap (λ (z : List Entry). served b e ∷ z) (take_served (turned b e) es i)

served_at : (b : Book) (es : List Entry) (i : ℕ) (q : Entry) → i < length es → q ≡ get_or es i q → get_or (served_calls b es) i q ≡ served (book_after b (take i es)) q
served_at b [] i q h e = absurd (not-suc-le-zero h)
served_at b (x ∷ es) zero q h e = ap (served b) (sym e)
served_at b (x ∷ es) (suc i) q h e = served_at (turned b x) es i q (le_of_suc-le-suc h) e

done_none : (o : Option SendFault) → ◌≡◌ {A = Told} (sent (sent_by o)) (sent (done tt)) → None ≡ o
done_none None e = refl
done_none (Some fault) e = let z : ◌≡◌ {A = ℕ} 0 1 = cc in absurd (omega arith)

read_free : (code : Code) (number k m run : ℕ) → k < number → m ≡ message_len code → whole (shape_of code) ≤ run → read_back_due code number k m run ≡ None
read_free code number k m run h e l = cond-true _ _ _ (lt-ltb k number h) ∙ cond-true _ _ _ (eq-eqb m (message_len code) e) ∙ cond-false _ _ _ (le-ltb run (whole (shape_of code)) l)

module _ (code : Code) (opening : List Bit) (capacity : ℕ) (es : List Entry) where
  at : ℕ → Book
  at i = book_after (opened code opening capacity) (take i es)

  before : ℕ → List (List ℕ)
  before i = messages_sent (take i (served_calls (opened code opening capacity) es))

  -- the book before call i
  here : (i : ℕ) → Grown (opened code opening capacity) (at i) (before i)
  unfolding at before
  here i =
      subst (λ (z : List Entry). Grown (opened code opening capacity) (book_after (opened code opening capacity) (take i es)) (messages_sent z))
      (sym (take_served (opened code opening capacity) es i)) (grown (opened code opening capacity) (take i es))

  left_at : (i : ℕ) → places_left (at i) ≡ capacity - length opening - length (before i) * frame_bits code
  left_at i =
      ap₂ (λ (n : ℕ) (z : List Bit). n - length z - length (at i).messages * frame_bits (at i).code) (here i).same_capacity (here i).same_opening
      ∙ ap₂ (λ (z : List (List ℕ)) (x : Code). capacity - length opening - length z * frame_bits x) (here i).messages_are (here i).same_code

  call_at : (i : ℕ) (q : Entry) (a : Ask) → i < length es → q ≡ get_or es i q → q.ask ≡ a → get_or (served_calls (opened code opening capacity) es) i q ≡ served_as (at i) q a
  unfolding at
  call_at i q a h e is = served_at (opened code opening capacity) es i q h e ∙ ap (served_as (at i) q) is

  -- a send of lawful lengths
  send_at : (i : ℕ) (q : Entry) → LawfulLengths code q → due_to_send (at i) q.message q.run ≡ send_due code (capacity - length opening - length (before i) * frame_bits code) (length q.message) (length q.run)
  send_at i q l = ap₂ (λ (x : Code) (n : ℕ). send_due x n (length q.message) (length q.run)) (here i).same_code (left_at i)

  room_if_done : (i : ℕ) (q : Entry) → i < length es → q ≡ get_or es i q → q.ask ≡ ask.Send → LawfulLengths code q
      → (get_or (served_calls (opened code opening capacity) es) i q).answer ≡ sent (done tt) → length opening + length (before i) * frame_bits code + frame_bits code ≤ capacity
  room_if_done i q h g is l d =
      let none = done_none _ (sym (ap (λ (z : Entry). z.answer) (call_at i q ask.Send h g is)) ∙ d) ∙ send_at i q l in
      omega (arith, (sendable code (capacity - length opening - length (before i) * frame_bits code) (length q.message) (length q.run) none).room_left)

  done_if_room : (i : ℕ) (q : Entry) → i < length es → q ≡ get_or es i q → q.ask ≡ ask.Send → LawfulLengths code q
      → length opening + length (before i) * frame_bits code + frame_bits code ≤ capacity → (get_or (served_calls (opened code opening capacity) es) i q).answer ≡ sent (done tt)
  done_if_room i q h g is l room =
      let left : ℕ = capacity - length opening - length (before i) * frame_bits code in
      ap (λ (z : Entry). z.answer) (call_at i q ask.Send h g is)
      ∙ ap (λ (o : Option SendFault). sent (sent_by o))
      (send_at i q l ∙ due_by_room code left (length q.message) (length q.run) l.message_long l.run_long ∙ cond-false _ _ _ (le-ltb left (frame_bits code) (omega (arith, room))))

  read_at : (i k : ℕ) (q : Entry) → LawfulLengths code q → k < length (before i) → due_to_read (at i) k q.message q.run ≡ None
  read_at i k q l low =
      ap₂ (λ (x : Code) (z : List (List ℕ)). read_back_due x (length z) k (length q.message) (length q.run)) (here i).same_code (here i).messages_are
      ∙ read_free code (length (before i)) k (length q.message) (length q.run) low l.message_long l.run_long

  pub line_law : (bits : List Bit) → bits ≡ written (book_after (opened code opening capacity) es) → LineLaw code opening capacity es (served_calls (opened code opening capacity) es) bits
  unfolding before
  line_law bits e =
      let b : Book = opened code opening capacity in
      let all = grown b es in
      record {
        holds =
            e
            ∙ ap₂ (λ (z : List Bit) (x : Code). z ++ flat_map (frame x) (book_after b es).messages) all.same_opening all.same_code
            ∙ ap (λ (z : List (List ℕ)). opening ++ flat_map (frame code) z) all.messages_are;
        blocks = λ m. whole_is code m;
        done_while_room = λ i q h g is l. (room_if_done i q h g is l, done_if_room i q h g is l);
        reads_back = λ i k q h g is l low.
            let free = read_at i k q l low in
            let there = call_at i q (ask.ReadBack k) h g is in (
              ap (λ (z : Entry). z.answer) there ∙ ap (λ o. read_back (read_by o)) free,
              ap (λ (z : Entry). z.message) there ∙ ap (message_read_by (at i) k q.message) free ∙ ap (λ (z : List (List ℕ)). get_or z k []) (here i).messages_are,
              ap (λ (z : Entry). z.run) there ∙ ap (run_read_by (at i) k q.run) free
                  ∙ ap₂ (λ (x : Code) (z : List (List ℕ)). block_in x (get_or z k []) q.run) (here i).same_code (here i).messages_are,
            );
      }

-- the law, of calls that are answered as the book gives
pub law_of : (code : Code) (opening : List Bit) (capacity : ℕ) (asked after : List Entry) (bits : List Bit)
    → after ≡ served_calls (opened code opening capacity) asked → bits ≡ written (book_after (opened code opening capacity) asked) → LineLaw code opening capacity asked after bits
law_of code opening capacity asked after bits answers held = subst (λ (z : List Entry). LineLaw code opening capacity asked z bits) (sym answers) (line_law code opening capacity asked bits held)
