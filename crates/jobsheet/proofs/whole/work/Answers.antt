use Rattle.std.proofs.Common.{◌≡◌, ℕ, List, [], ◌++◌, length, vec_items, vec_capacity, refl, ap, ◌∙◌, append-nil, arith, length-append}
use Rattle.std.proofs.lemmas.Bool.{false≢true}
use Rattle.jobsheet.specs.Printout.{printed_sheet}
use Rattle.jobsheet.specs.Sheets.{standing, job_printed, job_standing}
use Rattle.jobsheet.proofs.Sheets.{front_take, ahead, begun_with, opening_fits, goes_on, next_fits, ends, never}
use Rattle.jobsheet.proofs.Unbroken.{line_for_line}
use Rattle.jobsheet.proofs.whole.work.Goals as goal

pub loop-sheet-preserved : goal.loop-sheet-preserved
loop-sheet-preserved c =
    let s = standing c.loop-sheet.sheet in
    let u = c.loop-sheet.invariant in
    let wrote = front_take _ _ c.job_line-worked.new.out c.job_line-worked.ensures.out c.job_line-worked.result.count c.job_line-worked.ensures.count in
    record {
      room = c.job_line-worked.auto.out ∙ u.room;
      joins =
          goes_on s (standing c.job_line-worked.new.self) c.loop-sheet-test.ensures
          (c.job_line-worked.ensures.sheet ∙ ap (λ (n : ℕ). job_standing n s) u.room)
          (vec_items c.loop-sheet.all) _ _
          (c.in_ok-extend_from_slice-2.ensures.items ∙ ap (λ (x : List ℕ). vec_items c.loop-sheet.all ++ x) (wrote ∙ ap (λ (n : ℕ). job_printed n s) u.room))
          u.joins;
      more = omega (arith, u.more, c.extend_from_slice-in-loop-sheet.ensures.capacity);
    }

pub returns-in_err-extend_from_slice : goal.returns-in_err-extend_from_slice
returns-in_err-extend_from_slice c =
    let text = c.args.text.now in
    let all = c.args.all.now in
    let stuck = c.in_err-extend_from_slice.ensures in
    record {
      printed = λ ok. absurd (never c.from_residual.result c.from_residual.ensures.0 ok);
      part = (printed_sheet text, ap (λ (x : List ℕ). x ++ printed_sheet text) stuck.items);
      room = λ h. absurd (false≢true (stuck.succeeds (omega (arith, all.ok.0, ap length (front_take _ _ c.open.new.out c.open.ensures.out c.open.result.1.count c.open.ensures.count), c.open.ensures.count, opening_fits text (vec_items all) c.open.result.1.count (vec_capacity all) c.open.ensures.count (omega (arith, all.ok.0, h))))));
      lines = line_for_line text (printed_sheet text) refl;
    }

pub returns-in_err-extend_from_slice-2 : goal.returns-in_err-extend_from_slice-2
returns-in_err-extend_from_slice-2 c =
    let text = c.args.text.now in
    let first = c.args.all.now in
    let all = c.loop-sheet.all in
    let s = standing c.loop-sheet.sheet in
    let u = c.loop-sheet.invariant in
    let stuck = c.in_err-extend_from_slice-2.ensures in
    let whole = begun_with text (vec_items first) _ (standing c.open.result.0) _ c.open.new.out c.open.result.1.count c.open.ensures.sheet c.open.ensures.out c.open.ensures.count c.in_ok-extend_from_slice.ensures.items in
    let wrote = front_take _ _ c.job_line-worked.new.out c.job_line-worked.ensures.out c.job_line-worked.result.count c.job_line-worked.ensures.count in
    let count = c.job_line-worked.ensures.count ∙ ap (λ (n : ℕ). length (job_printed n s)) u.room in
    record {
      printed = λ ok. absurd (never c.from_residual-in_err-extend_from_slice-2.result c.from_residual-in_err-extend_from_slice-2.ensures.0 ok);
      part = (ahead s, ap (λ (x : List ℕ). x ++ ahead s) stuck.items ∙ u.joins ∙ whole);
      room = λ h. absurd (false≢true (stuck.succeeds (omega (
        arith,
        all.ok.0,
        ap length wrote,
        c.job_line-worked.ensures.count,
        next_fits u c.loop-sheet-test.ensures c.job_line-worked.result.count count
            (omega (arith, h, first.ok.0, ap length whole, length-append (vec_items first) (printed_sheet text), c.extend_from_slice.ensures.capacity)),
      ))));
      lines = line_for_line text (printed_sheet text) refl;
    }

pub returns : goal.returns
returns c =
    let s = standing c.loop-sheet.sheet in
    let text = c.args.text.now in
    let all : vec_items c.loop-sheet.all ≡ vec_items c.args.all.now ++ printed_sheet text
    = ends s.order s.number s.left c.loop-sheet-test.ensures (vec_items c.loop-sheet.all) _ c.loop-sheet.invariant.joins
    ∙ begun_with text (vec_items c.args.all.now) _ (standing c.open.result.0) _ c.open.new.out c.open.result.1.count c.open.ensures.sheet c.open.ensures.out c.open.ensures.count c.in_ok-extend_from_slice.ensures.items in
    record {
      printed = λ _. all;
      part = ([], append-nil _ ∙ all);
      room = λ _. refl;
      lines = line_for_line text (printed_sheet text) refl;
    }
