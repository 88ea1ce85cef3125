use Rattle.std.proofs.Common.{◌≡◌, ℕ, ◌+◌, ◌-◌, ◌*◌, ◌<◌, ◌≤◌, [], ◌++◌, length, get_or, None, Ok, sym, ap, ◌∙◌, subst, ap₂, arith, add-mul}
use Rattle.std.specs.List.{flat_map}
use Rattle.ar4ja.specs.declared.codes.Code.{Code}
use Rattle.outlet.specs.Masks.{frame_bits, randomizing, length_masked}
use Rattle.frame.specs.declared.faults.Orientation.TheVariants.{Upright}
use Rattle.frame.proofs.Readings.{none_due}
use Rattle.line.specs.Frames.{frame, block_in}
use Rattle.line.specs.Book.{written, read_back_due, read_by, message_read_by, run_read_by, due_to_read}
use Rattle.line.specs.Follow.{Message}
use Rattle.line.proofs.Frames.{length_written}
use Rattle.line.proofs.Books.{readable, frame_held}
use Rattle.line.proofs.ReadingBack.{accepted, nothing_due, run_back, message_read}
use Rattle.line.proofs.line_type.Line.read_back.Goals as goal

-- the frames before one, and those from it on
before_and_behind : (n k f : ℕ) → k < n → (n - k) * f + k * f ≡ n * f
before_and_behind n k f h = sym (add-mul (n - k) k f) ∙ ap (λ m. m * f) (omega arith)

pub returns : goal.returns
returns g c = λ b f.
    let l = c.args.self.now in
    let o = g.O.Outlet in
    let k = c.args.frame in
    let message = c.args.message.now in
    let run = c.args.run.now in
    let code = l.code in
    let may : None ≡ read_back_due code l.done k (length message) (length run) = none_due (read_back_due code l.done k (length message) (length run)) _ c.in_ok-read_back_due.ensures in
    let able = readable code l.done k (length message) (length run) may in
    let low : k < length b.messages = omega (arith, f.done_is, able.below) in
    let held = o.bits c.below.result.now in
    let below : held ≡ written b = ap o.bits c.below.ensures ∙ f.bits_are in
    let is : held ≡ b.opening ++ flat_map (frame code) b.messages = below ∙ ap (λ (x : Code). b.opening ++ flat_map (frame x) b.messages) (sym f.code_is) in
    let there = frame_held b k low in
    let size : k * frame_bits code ≡ k * frame_bits b.code = ap (λ (x : Code). k * frame_bits x) f.code_is in
    let long = length_written b.code b.opening b.messages in
    let done_size : l.done * frame_bits code ≡ length b.messages * frame_bits b.code = ap₂ (λ (n : ℕ) (x : Code). n * frame_bits x) f.done_is f.code_is in
    let parts : (l.done - k) * frame_bits code + k * frame_bits code ≡ l.done * frame_bits code = before_and_behind l.done k (frame_bits code) able.below in
    let back_size : (l.done - k) * c.frame_len.result ≡ (l.done - k) * frame_bits code = ap (λ n. (l.done - k) * n) c.frame_len.ensures in
    let all : c.held.result ≡ length (written b) = c.held.ensures ∙ length_masked (randomizing l.randomizer.mask.start l.randomizer.mask.code) (o.bits l.randomizer.below) ∙ ap length f.bits_are in
    let place = c.saturating_sub-place.result in
    let at : place ≡ length b.opening + k * frame_bits code =
    omega (arith, c.saturating_sub-place.ensures, c.saturating_mul-back.ensures, size, long, done_size, parts, back_size, all) in
    let inside : place + frame_bits code ≤ length held = omega (arith, at, size, there, ap length below, ap frame_bits f.code_is) in
    let free = nothing_due code b.opening b.messages k low held is place at message run able.message_long able.run_long inside in
    let done : c.read.result ≡ Ok (Upright, 0) = (c.read.ensures.accepts free Upright 0).1 (accepted code b.opening b.messages k low held is place at) in
    let sound : Message code (get_or b.messages k []) = subst (λ (x : Code). Message x (get_or b.messages k [])) (sym f.code_is) (f.messages_are k low) in
    let nothing : None ≡ due_to_read b k message run = may ∙ ap₂ (λ (x : Code) (n : ℕ). read_back_due x n k (length message) (length run)) f.code_is f.done_is in
    record {
      answer = ap read_by nothing;
      message =
          message_read code b.opening b.messages k low held is place at message run able.message_long able.run_long inside c.read.result done c.read.ensures.answer sound c.read.new.message c.read.ensures.message
          ∙ ap (message_read_by b k message) nothing;
      buffer =
          run_back code b.opening b.messages k low held is place at message run able.message_long able.run_long inside c.read.new.run c.read.ensures.run
          ∙ ap (λ (x : Code). block_in x (get_or b.messages k []) run) f.code_is ∙ ap (run_read_by b k run) nothing;
    }
