-- A line that follows a book still does so after a send, refused or done.
use Rattle.std.proofs.Common.{◌≡◌, ℕ, ◌+◌, ◌-◌, min, List, ◌++◌, length, Some, None, Option, sym, ap, ◌∙◌, subst, ap₂}
use Rattle.std.proofs.lemmas.List.{length_push}
use Rattle.element.specs.declared.bits.Bit.{Bit}
use Rattle.ar4ja.specs.declared.codes.Code.{Code}
use Rattle.outlet.specs.declared.randomizing.Randomization.{Randomization}
use Rattle.outlet.specs.declared.layer.Masked.{Masked}
use Rattle.outlet.specs.Masks.{masked, randomizing}
use Rattle.line.specs.declared.line_type.Line.{Line}
use Rattle.line.specs.declared.faults.SendFault.{SendFault}
use Rattle.line.specs.Frames.{block, marker}
use Rattle.line.specs.Book.{Book, send_due, book_by, send_book, due_to_send}
use Rattle.line.specs.Follow.{Message, Follows}
use Rattle.line.proofs.Frames.{frame_sent}
use Rattle.line.proofs.Books.{due_follows, listed_messages}

module _ {C O : Type 0} (bits : O → List Bit) (room : O → ℕ) (b : Book) (l : Line C O) (f : Follows bits room b l) (m : List ℕ) (run : List Bit) where
  -- what is due to the line is due by the book
  pub due_here : send_due l.code (room l.randomizer.below - length (bits l.randomizer.below)) (length m) (length run) ≡ due_to_send b m run
  due_here = due_follows b l.code (room l.randomizer.below) (bits l.randomizer.below) (length m) (length run) f.code_is f.room_is f.bits_are

  pub refused_follows : (fault : SendFault) (n : ℕ) → Some fault ≡ due_to_send b m run → n ≡ min (l.refused + 1) 4294967295
      → Follows bits room (send_book b m run) (record { code = l.code; coder = l.coder; randomizer = l.randomizer; done = l.done; refused = n })
  refused_follows fault n stop e =
      let l' : Line C O = record { code = l.code; coder = l.coder; randomizer = l.randomizer; done = l.done; refused = n } in
      subst (λ (z : Option SendFault). Follows bits room (book_by b m z) l') stop (record {
        code_is = f.code_is;
        frames_are = f.frames_are;
        randomized_from = f.randomized_from;
        done_is = f.done_is;
        refused_is = e ∙ ap (λ k. min (k + 1) 4294967295) f.refused_is;
        bits_are = f.bits_are;
        room_is = f.room_is;
        messages_are = f.messages_are;
      })

  -- the randomizer took the marker and the block
  pub sent_follows : (r : Masked Randomization O) (n : ℕ) → None ≡ due_to_send b m run → Message b.code m → n ≡ l.done + 1
      → r.mask ≡ l.randomizer.mask → room r.below ≡ room l.randomizer.below
      → masked (randomizing r.mask.start r.mask.code) (bits r.below) ≡ (masked (randomizing l.randomizer.mask.start l.randomizer.mask.code) (bits l.randomizer.below) ++ marker) ++ block l.code m
      → Follows bits room (send_book b m run) (record { code = l.code; coder = l.coder; randomizer = r; done = n; refused = l.refused })
  sent_follows r n nothing is more same full taken =
      let l' : Line C O = record { code = l.code; coder = l.coder; randomizer = r; done = n; refused = l.refused } in
      let start' = ap (λ (z : Randomization). z.start) same ∙ f.randomized_from in
      let code' = ap (λ (z : Randomization). z.code) same ∙ f.frames_are in
      subst (λ (z : Option SendFault). Follows bits room (book_by b m z) l') nothing (record {
        code_is = f.code_is;
        frames_are = code';
        randomized_from = start';
        done_is = more ∙ ap (λ k. k + 1) f.done_is ∙ sym (length_push b.messages m);
        refused_is = f.refused_is;
        bits_are =
            frame_sent b.code b.opening b.messages m (bits l.randomizer.below) (bits r.below) f.bits_are
            (sym (ap₂ (λ (p : ℕ) (x : Code). masked (randomizing p x) (bits r.below)) start' code') ∙ taken
            ∙ ap₂ (λ (p : ℕ) (x : Code). (masked (randomizing p x) (bits l.randomizer.below) ++ marker) ++ block l.code m) f.randomized_from f.frames_are
            ∙ ap (λ (x : Code). (masked (randomizing (length b.opening) b.code) (bits l.randomizer.below) ++ marker) ++ block x m) f.code_is);
        room_is = full ∙ f.room_is;
        messages_are = listed_messages b.code b.messages m f.messages_are is;
      })
