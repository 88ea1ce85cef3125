-- What reading comes to, once it is known what is due and which marker is found.
use Rattle.std.proofs.Common.{◌≡◌, ℕ, ◌+◌, ◌*◌, ◌<◌, ◌≤◌, eqb, ltb, leb, ◌↔◌, List, length, get_or, drop, Some, None, Ok, Err, Option, Result, sym, refl, ap, ◌∙◌, subst, ap₂, inl, inr, mul_comm, arith, length-append, length-drop}
use Rattle.std.specs.Option.{ok_or}
use Rattle.std.proofs.lemmas.Bool.{cases_Bool, cond-true, cond-false, le-ltb, ltb-false, leb-true, eqb-true}
use Rattle.std.proofs.lemmas.Nat.{mul-add-lt}
use Rattle.std.proofs.lemmas.List.{get_or_append_left}
use Rattle.std.proofs.lemmas.List.FromFn.{length-map-range_with_len}
use Rattle.refusal.specs.Outcome.{Outcome, Outcome.done, outcome, unless}
use Rattle.element.specs.declared.bits.Bit.{Bit}
use Rattle.element.specs.declared.bits.Bit.TheVariants.{Zero}
use Rattle.element.specs.Bits.{bit_plus, bit_same, bit_laws}
use Rattle.qc.specs.declared.faults.RunFault.{RunFault}
use Rattle.qc.specs.Shape.{Shape, M, sent, whole}
use Rattle.qc.specs.Codeblock.{completed, groups, Codeblock}
use Rattle.qc.specs.Check.{lowest_row, check_answer, checked_run}
use Rattle.qc.proofs.Soundness.{sounds}
use Rattle.qc.proofs.Mapped.{codeblock_same}
use Rattle.ar4ja.specs.declared.codes.Code.{Code}
use Rattle.ar4ja.specs.declared.codes.Code.TheVariants.{Half1024, TwoThirds1024, FourFifths1024}
use Rattle.ar4ja.specs.Codes.{shape_of, shapes_sound}
use Rattle.outlet.specs.Masks.{frame_bits}
use Rattle.frame.specs.declared.faults.Orientation.{Orientation}
use Rattle.frame.specs.declared.faults.Orientation.TheVariants.{Upright, Complemented}
use Rattle.frame.specs.declared.faults.ReadFault.{ReadFault}
use Rattle.frame.specs.declared.faults.ReadFault.TheVariants.{NoMarker, Fails}
use Rattle.frame.specs.Refusals.{read_fault}
use Rattle.frame.specs.Message.{message_bytes}
use Rattle.frame.specs.Marker.{flipped, found, Marked}
use Rattle.frame.specs.Reading.{received_bit, received_block, received_run, MarkedCodeblock, due, judged, filled, answer_by, run_by, message_by, read_answer, read_run, read_message, failing, worked_run}
use Rattle.frame.proofs.Marks.{none_some, some_same, one_way, marked_found, found_marked}

-- what the result of a test tells
module _ {F : Type 0} where
  pub none_due : (o : Option F) (u : Unit) → ◌≡◌ {A = Result Unit F} (Ok u) (unless o) → None ≡ o
  none_due None u e = refl
  none_due (Some f) u e = let z : ◌≡◌ {A = ℕ} 0 1 = cc in absurd (omega arith)

  pub fault_due : (o : Option F) (f : F) → ◌≡◌ {A = Result Unit F} (Err f) (unless o) → Some f ≡ o
  fault_due None f e = let z : ◌≡◌ {A = ℕ} 0 1 = cc in absurd (omega arith)
  fault_due (Some g) f e = cc

-- a block is a part of the whole block
pub sent_within : (code : Code) → sent (shape_of code) ≤ whole (shape_of code)
sent_within Half1024 = omega arith
sent_within TwoThirds1024 = omega arith
sent_within FourFifths1024 = omega arith

-- what is known where nothing is due
pub record Admitted (held place : ℕ) (code : Code) (tolerance message run : ℕ) : Type 0 where
  pub tolerable : tolerance ≤ 15
  pub message_long : message ≡ 128
  pub run_long : whole (shape_of code) ≤ run
  pub there : place + frame_bits code ≤ held

pub admitted : (held place : ℕ) (code : Code) (tolerance message run : ℕ) → None ≡ due held place code tolerance message run → Admitted held place code tolerance message run
admitted held place code tolerance message run e = elim (cases_Bool (ltb 15 tolerance)) [
  | inl t ↦ absurd (none_some _ (e ∙ cond-true _ _ _ t))
  | inr t ↦ elim (cases_Bool (eqb message 128)) [
    | inr u ↦ absurd (none_some _ (e ∙ cond-false _ _ _ t ∙ cond-false _ _ _ u))
    | inl u ↦ elim (cases_Bool (ltb run (whole (shape_of code)))) [
      | inl v ↦ absurd (none_some _ (e ∙ cond-false _ _ _ t ∙ cond-true _ _ _ u ∙ cond-true _ _ _ v))
      | inr v ↦ elim (cases_Bool (leb (place + frame_bits code) held)) [
        | inr w ↦ absurd (none_some _ (e ∙ cond-false _ _ _ t ∙ cond-true _ _ _ u ∙ cond-false _ _ _ v ∙ cond-false _ _ _ w))
        | inl w ↦ record { tolerable = ltb-false _ _ t; message_long = eqb-true _ _ u; run_long = ltb-false _ _ v; there = leb-true _ _ w }
      ]
    ]
  ]
]

pub received_long : (way : Orientation) (held : List Bit) (place : ℕ) (code : Code) (run : List Bit) → whole (shape_of code) ≤ length run → length (received_run way held place code run) ≡ length run
received_long way held place code run h =
    let n = sent (shape_of code) in
    length-append _ (drop n run)
    ∙ ap₂ (λ k l. k + l) (length-map-range_with_len (received_bit (flipped way) held place) 0 n) (length-drop n run)
    ∙ omega (arith, sent_within code)

-- what a check says of a run that is long enough
module _ (c : Shape) (xs : List Bit) (h : whole c ≤ length xs) where
  pub check_done : check_answer Zero bit_plus c bit_same xs ≡ done (lowest_row Zero bit_plus c bit_same (completed Zero bit_plus c xs))
  check_done = cond-false _ _ _ (le-ltb (length xs) (whole c) h)

  pub checked_done : checked_run Zero bit_plus c xs ≡ completed Zero bit_plus c xs
  checked_done = cond-false _ _ _ (le-ltb (length xs) (whole c) h)

ok_row : (x y : Option ℕ) → ◌≡◌ {A = Result (Option ℕ) RunFault} (Ok x) (Ok y) → x ≡ y
ok_row x y e = cc

done_same : (x y : Option ℕ) → ◌≡◌ {A = Outcome (Option ℕ)} (done x) (done y) → x ≡ y
done_same x y e = cc

ok_same : (x y : Orientation × ℕ) → ◌≡◌ {A = Result (Orientation × ℕ) ReadFault} (Ok x) (Ok y) → x ≡ y
ok_same x y e = cc

err_ok : (fault : ReadFault) (x : Orientation × ℕ) → ◌≡◌ {A = Result (Orientation × ℕ) ReadFault} (Err fault) (Ok x) → ⊥
err_ok fault x e = let z : ◌≡◌ {A = ℕ} 0 1 = cc in absurd (omega arith)

found_some : {X F : Type 0} (o : Option X) (f : F) (x : X) → ◌≡◌ {A = Result X F} (Ok x) (ok_or o f) → Some x ≡ o
found_some None f x e = let z : ◌≡◌ {A = ℕ} 0 1 = cc in absurd (omega arith)
found_some (Some y) f x e = cc

-- how a frame was read, or why it was not
module _ (held : List Bit) (place : ℕ) (code : Code) (tolerance : ℕ) (message : List ℕ) (run : List Bit)
    (o : Option ReadFault) (nothing : o ≡ due (length held) place code tolerance (length message) (length run))
    (f : Option (Orientation × ℕ)) (seen : f ≡ found held place tolerance) where
  pub answer_is : answer_by held place code run o f ≡ read_answer held place code tolerance (length message) run
  answer_is = ap₂ (answer_by held place code run) nothing seen

  pub run_is : run_by held place code run o f ≡ read_run held place code tolerance (length message) run
  run_is = ap₂ (run_by held place code run) nothing seen

  pub message_is : message_by held place code message run o f ≡ read_message held place code tolerance message run
  message_is = ap₂ (message_by held place code message run) nothing seen

-- a block as received is a codeblock
abbrev pub Good : List Bit → ℕ → Code → Orientation → Type 0
Good held place code way = Codeblock Zero bit_plus (shape_of code) (groups Zero (M (shape_of code)) (received_block way held place code))

-- reading accepts exactly the marked blocks that are codeblocks
abbrev pub Accepts : List Bit → ℕ → Code → ℕ → Result (Orientation × ℕ) ReadFault → Type 0
Accepts held place code tolerance r = (way : Orientation) (d : ℕ) → r ≡ Ok (way, d) ↔ MarkedCodeblock held place code tolerance way d

module _ (held : List Bit) (place : ℕ) (code : Code) (tolerance : ℕ) (small : tolerance ≤ 15) where
  -- with no marker found nothing is accepted
  pub unmarked : None ≡ found held place tolerance → (fault : ReadFault) → Accepts held place code tolerance (Err fault)
  unmarked none fault = λ way d. (
    (λ e. absurd (err_ok fault (way, d) e)),
    (λ p. absurd (none_some (way, d) (none ∙ sym (marked_found held place tolerance small way d p.0)))),
  )

  module _ (way₀ : Orientation) (d₀ : ℕ) (seen : Some (way₀, d₀) ≡ found held place tolerance) where
    same_mark : (way : Orientation) (d : ℕ) → Marked held place tolerance way d → ◌≡◌ {A = Orientation × ℕ} (way₀, d₀) (way, d)
    same_mark way d there = some_same _ _ (seen ∙ sym (marked_found held place tolerance small way d there))

    pub accepted : Good held place code way₀ → Accepts held place code tolerance (Ok (way₀, d₀))
    accepted good = λ way d. (
      (λ e. subst (λ w. Marked held place tolerance w.0 w.1 × Good held place code w.0) (ok_same _ _ e) (found_marked held place tolerance way₀ d₀ seen, good)),
      (λ p. ap Ok (same_mark way d p.0)),
    )

    pub turned_down : (Good held place code way₀ → ⊥) → (fault : ReadFault) → Accepts held place code tolerance (Err fault)
    turned_down bad fault = λ way d. (
      (λ e. absurd (err_ok fault (way, d) e)),
      (λ p. absurd (bad (subst (λ w. Good held place code w.0) (sym (same_mark way d p.0)) p.1))),
    )

-- what a check of the received block tells
module _ (held : List Bit) (place : ℕ) (code : Code) (run : List Bit) (way : Orientation) (fits : whole (shape_of code) ≤ length run)
    (xs : List Bit) (got : xs ≡ received_run way held place code run) where
  long : whole (shape_of code) ≤ length (received_run way held place code run)
  long = omega (arith, received_long way held place code run fits)

  pub long_enough : whole (shape_of code) ≤ length xs
  long_enough = omega (arith, ap length got, received_long way held place code run fits)

  pub failing_row : (row : Option ℕ) → done row ≡ check_answer Zero bit_plus (shape_of code) bit_same xs → row ≡ failing held place code way run
  failing_row row e = done_same row _ (e ∙ ap (check_answer Zero bit_plus (shape_of code) bit_same) got ∙ check_done (shape_of code) (received_run way held place code run) long)

  pub run_worked : (ys : List Bit) → ys ≡ checked_run Zero bit_plus (shape_of code) xs → ys ≡ worked_run way held place code run
  run_worked ys e = e ∙ ap (checked_run Zero bit_plus (shape_of code)) got ∙ checked_done (shape_of code) (received_run way held place code run) long

  abbrev Held : Type 0
  Held = Codeblock Zero bit_plus (shape_of code) (groups Zero (M (shape_of code)) xs)

  -- the run has the received block at its front
  front : (g i : ℕ) → g < (shape_of code).K + 2 → i < M (shape_of code) → groups Zero (M (shape_of code)) xs g i ≡ groups Zero (M (shape_of code)) (received_block way held place code) g i
  front g i hg hi =
      let c = shape_of code in
      let low : g * M c + i < sent c = omega (arith, mul-add-lt g (M c) i (c.K + 2) hg hi, mul_comm (4 * c.m) (c.K + 2)) in
      ap (λ (l : List Bit). get_or l (g * M c + i) Zero) got
      ∙ get_or_append_left (received_block way held place code) (drop (sent c) run) Zero (g * M c + i) (omega (arith, low, length-map-range_with_len (received_bit (flipped way) held place) 0 (sent c)))

  pub good_of : Held → Good held place code way
  good_of h = codeblock_same bit_laws (shape_of code) (sounds (shape_of code) (shapes_sound code)) _ _ front h

  pub of_good : Good held place code way → Held
  of_good h = codeblock_same bit_laws (shape_of code) (sounds (shape_of code) (shapes_sound code)) _ _ (λ g i hg hi. sym (front g i hg hi)) h

-- what reading answers, and what it leaves in the message and in the run
pub record Reads (held : List Bit) (place : ℕ) (code : Code) (tolerance : ℕ) (given : List ℕ) (buffer : List Bit)
    (r : Result (Orientation × ℕ) ReadFault) (message' : List ℕ) (run' : List Bit) : Type 0 where
  pub answer : outcome read_fault r ≡ read_answer held place code tolerance (length given) buffer
  pub run : run' ≡ read_run held place code tolerance (length given) buffer
  pub message : message' ≡ read_message held place code tolerance given buffer
  pub accepts : due (length held) place code tolerance (length given) (length buffer) ≡ None → Accepts held place code tolerance r
  pub one : tolerance ≤ 15 → (d e : ℕ) → Marked held place tolerance Upright d → Marked held place tolerance Complemented e → ⊥

module _ (held : List Bit) (place : ℕ) (code : Code) (tolerance : ℕ) (message : List ℕ) (run : List Bit) (n : ℕ) (count : n ≡ length held) where
  abbrev reason : ℕ → Option ReadFault
  reason k = due k place code tolerance (length message) (length run)

  abbrev Read : Result (Orientation × ℕ) ReadFault → List ℕ → List Bit → Type 0
  Read = Reads held place code tolerance message run

  -- nothing is due
  module _ (u : Unit) (free : ◌≡◌ {A = Result Unit ReadFault} (Ok u) (unless (reason n))) where
    nothing : None ≡ reason (length held)
    nothing = none_due (reason n) u free ∙ ap reason count

    lawful : Admitted (length held) place code tolerance (length message) (length run)
    lawful = admitted (length held) place code tolerance (length message) (length run) nothing

    -- and a marker is found, and the block checked
    module _ (way : Orientation) (d : ℕ) (marked : ◌≡◌ {A = Result (Orientation × ℕ) ReadFault} (Ok (way, d)) (ok_or (found held place tolerance) NoMarker))
        (xs : List Bit) (got : xs ≡ received_run way held place code run) (ys : List Bit) (after : ys ≡ checked_run Zero bit_plus (shape_of code) xs)
        (row : Option ℕ) (told : done row ≡ check_answer Zero bit_plus (shape_of code) bit_same xs)
        (passes : whole (shape_of code) ≤ length xs → ◌≡◌ {A = Result (Option ℕ) RunFault} (Ok row) (Ok None) ↔ Codeblock Zero bit_plus (shape_of code) (groups Zero (M (shape_of code)) xs)) where
      seen : Some (way, d) ≡ found held place tolerance
      seen = found_some (found held place tolerance) NoMarker (way, d) marked

      low : row ≡ failing held place code way run
      low = failing_row held place code run way lawful.run_long xs got row told

      worked : ys ≡ worked_run way held place code run
      worked = run_worked held place code run way lawful.run_long xs got ys after

      block : whole (shape_of code) ≤ length xs
      block = long_enough held place code run way lawful.run_long xs got

      pub turned_away : (r : ℕ) → row ≡ Some r → Read (Err (Fails r)) message ys
      turned_away r is = record {
        answer = ap (judged (way, d)) (sym is ∙ low) ∙ answer_is held place code tolerance message run _ nothing _ seen;
        run = worked ∙ run_is held place code tolerance message run _ nothing _ seen;
        message = ap (filled held place code message (worked_run way held place code run)) (sym is ∙ low) ∙ message_is held place code tolerance message run _ nothing _ seen;
        accepts = λ _. turned_down held place code tolerance lawful.tolerable way d seen
            (λ good. none_some r (ok_row _ _ (sym ((passes block).1 (of_good held place code run way lawful.run_long xs got good))) ∙ is)) (Fails r);
        one = one_way held place tolerance;
      }

      pub taken : row ≡ None → (bytes : List ℕ) → bytes ≡ message_bytes ys (length message) → Read (Ok (way, d)) bytes ys
      taken is bytes e = record {
        answer = ap (judged (way, d)) (sym is ∙ low) ∙ answer_is held place code tolerance message run _ nothing _ seen;
        run = worked ∙ run_is held place code tolerance message run _ nothing _ seen;
        message =
            e ∙ ap (λ (z : List Bit). message_bytes z (length message)) worked
            ∙ ap (filled held place code message (worked_run way held place code run)) (sym is ∙ low)
            ∙ message_is held place code tolerance message run _ nothing _ seen;
        accepts = λ _. accepted held place code tolerance lawful.tolerable way d seen
            (good_of held place code run way lawful.run_long xs got ((passes block).0 (ap Ok is)));
        one = one_way held place tolerance;
      }
