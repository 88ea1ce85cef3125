use Rattle.std.proofs.Common.{◌≡◌, ℕ, ◌-◌, ◌*◌, List, ◌++◌, length, take, drop, Some, None, ap, ◌∙◌, ap₂, arith, length-append}
use Rattle.std.proofs.lemmas.List.{length-take-le, take-append-le}
use Rattle.element.specs.declared.bits.Bit.{Bit}
use Rattle.qc.specs.Shape.{sent, whole}
use Rattle.ar4ja.specs.declared.codes.Code.{Code}
use Rattle.ar4ja.specs.Codes.{shape_of}
use Rattle.outlet.specs.Masks.{masked, randomizing, length_masked}
use Rattle.outlet.specs.Packing.{packed_bits}
use Rattle.frame.specs.Message.{message_len}
use Rattle.frame.proofs.Readings.{none_due, fault_due}
use Rattle.line.specs.Frames.{message_bits, whole_block, block, marker, block_in}
use Rattle.line.specs.Book.{send_due, sent_by, run_by, due_to_send, places_left}
use Rattle.line.proofs.WholeBlocks.{whole_is, coded_is, whole_size, sent_size}
use Rattle.line.proofs.Frames.{length_marker}
use Rattle.line.proofs.Books.{sendable, few}
use Rattle.line.proofs.Following.{due_here, refused_follows, sent_follows}
use Rattle.line.proofs.line_type.Line.send.Goals as goal

pub overflow_sub-left : goal.overflow_sub-left
overflow_sub-left g c =
    let l = c.args.self.now in
    omega (arith, c.held.ensures, c.capacity.ensures, length_masked (randomizing l.randomizer.mask.start l.randomizer.mask.code) (g.O.Outlet.bits l.randomizer.below), g.O.Outlet.lawful.within l.randomizer.below)

pub returns-in-Err-clause-sends : goal.returns-in-Err-clause-sends
returns-in-Err-clause-sends g c = λ b f.
    let l = c.args.self.now in
    let o = g.O.Outlet in
    let m = c.args.message.now in
    let run = c.args.run.now in
    let left : c.capacity.result - c.held.result ≡ o.room l.randomizer.below - length (o.bits l.randomizer.below) =
    ap₂ ◌-◌ c.capacity.ensures (c.held.ensures ∙ length_masked (randomizing l.randomizer.mask.start l.randomizer.mask.code) (o.bits l.randomizer.below)) in
    let stop : Some c.in-Err.fault ≡ due_to_send b m run =
    fault_due (send_due l.code (c.capacity.result - c.held.result) (length m) (length run)) c.in-Err.fault c.in-Err.ensures
    ∙ ap (λ n. send_due l.code n (length m) (length run)) left ∙ due_here o.bits o.room b l f m run in
    record {
      answer = ap sent_by stop;
      buffer = ap (run_by b m run) stop;
      book = refused_follows o.bits o.room b l f m run c.in-Err.fault c.saturating_add-self.result stop c.saturating_add-self.ensures;
    }

pub put_bits-requires : goal.put_bits-requires
put_bits-requires g c =
    let l = c.args.self.now in
    let o = g.O.Outlet in
    let low = o.bits l.randomizer.below in
    let able = sendable l.code (c.capacity.result - c.held.result) (length c.args.message.now) (length c.args.run.now) (none_due _ _ c.in_default.ensures) in
    let mask = masked (randomizing l.randomizer.mask.start l.randomizer.mask.code) low in
    let held = ap length c.put_marker.ensures.bits ∙ length-append mask marker in
    let cut : length (take (c.block_len.result - 0) c.encode.new.run) ≡ c.block_len.result - 0 = length-take-le _ _ (omega (arith, c.block_len.ensures, able.run_long, whole_size l.code, sent_size l.code, c.encode.auto.run, c.spread.auto.run)) in
    omega (arith, able.room_left, c.capacity.ensures, c.held.ensures, cut, held, length_marker, c.block_len.ensures, length_masked (randomizing l.randomizer.mask.start l.randomizer.mask.code) low, o.lawful.steady _ _ c.put_marker.ensures.kept.1)

pub returns-clause-sends : goal.returns-clause-sends
unfolding message_bits
returns-clause-sends g c = λ b f.
    let l = c.args.self.now in
    let o = g.O.Outlet in
    let m = c.args.message.now in
    let run = c.args.run.now in
    let code = l.code in
    let low = o.bits l.randomizer.below in
    let left : c.capacity.result - c.held.result ≡ o.room l.randomizer.below - length low =
    ap₂ ◌-◌ c.capacity.ensures (c.held.ensures ∙ length_masked (randomizing l.randomizer.mask.start l.randomizer.mask.code) low) in
    let free : None ≡ send_due code (c.capacity.result - c.held.result) (length m) (length run) = none_due _ _ c.in_default.ensures in
    let able = sendable code (c.capacity.result - c.held.result) (length m) (length run) free in
    let spread : c.spread.new.run ≡ message_bits code m ++ drop (8 * message_len code) run = c.spread.ensures ∙ ap (λ n. packed_bits m (8 * n) ++ drop (8 * n) run) able.message_long in
    let coded : c.encode.new.run ≡ block_in code m run = coded_is code m run _ _ able.run_long spread c.encode.ensures.after in
    let cut : take (c.block_len.result - 0) c.encode.new.run ≡ block code m =
    let all : c.block_len.result - 0 ≡ sent (shape_of code) = omega (arith, c.block_len.ensures) in
    ap₂ (λ (n : ℕ) (z : List Bit). take n z) all coded
    ∙ take-append-le (sent (shape_of code)) (whole_block code m) (drop (whole (shape_of code)) run) (omega (arith, (whole_is code m).long, whole_size code, sent_size code)) in
    let k₁ = c.put_marker.ensures.kept in
    let k₂ = c.put_bits.ensures.kept in
    let taken = c.put_bits.ensures.bits ∙ ap₂ (λ (x y : List Bit). x ++ y) c.put_marker.ensures.bits cut in
    let nothing : None ≡ due_to_send b m run = free ∙ ap (λ n. send_due code n (length m) (length run)) left ∙ due_here o.bits o.room b l f m run in
    let small = sendable b.code (places_left b) (length m) (length run) nothing in
    record {
      answer = ap sent_by nothing;
      buffer = coded ∙ ap (λ (x : Code). block_in x m run) f.code_is ∙ ap (run_by b m run) nothing;
      book = sent_follows o.bits o.room b l f m run c.put_bits.new.out c.saturating_add-self-2.result nothing
          (record { long = small.message_long; bytes = λ i. omega (arith, c.type_inv.message i) })
          (omega (arith, c.saturating_add-self-2.ensures, f.done_is, few b (omega (arith, ap length f.bits_are, o.lawful.within l.randomizer.below, c.capacity.ensures))))
          (k₂.0 ∙ k₁.0) (o.lawful.steady _ _ k₂.1 ∙ o.lawful.steady _ _ k₁.1) taken;
    }

pub returns-in-Err-clause-block : goal.returns-in-Err-clause-block
returns-in-Err-clause-block g c = λ code m. whole_is code m

pub returns-clause-block : goal.returns-clause-block
returns-clause-block g c = λ code m. whole_is code m
