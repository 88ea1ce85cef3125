-- From one line of a sheet to the next.
use Rattle.std.proofs.Common.{◌≡◌, ℕ, suc, ◌+◌, ◌-◌, ◌<◌, ◌≤◌, List, [], ◌∷◌, length, take, drop, min, None, Ok, Err, Option, Result, sym, ap, ◌∙◌, ap₂, inl, inr, arith}
use native.Mathlib.Nat.{sub-zero}
use Rattle.std.specs.List.{prefix_len}
use Rattle.std.proofs.lemmas.List.Sums.{prefix_len-le-length}
use Rattle.std.proofs.lemmas.List.{length-drop, drop-drop, drop_all, take_all, take_rest, nil_from_length}
use Rattle.std.proofs.lemmas.Bool.{cases_lt, cond-false, le-ltb}
use Rattle.jobsheet.specs.declared.names.Order.{Order}
use Rattle.jobsheet.specs.declared.line.Line.{Line}
use Rattle.jobsheet.specs.declared.faults.SheetFault.{SheetFault}
use Rattle.jobsheet.specs.declared.faults.SheetFault.TheVariants.{Names}
use Rattle.jobsheet.specs.Text.{lines}
use Rattle.jobsheet.specs.Splitting.{apart}
use Rattle.jobsheet.specs.Tokens.{rest}
use Rattle.jobsheet.specs.Names.{order_of, sheet_order}
use Rattle.jobsheet.specs.Printout.{others, by_names, opening}
use Rattle.jobsheet.specs.Steps.{LineAt, Begun}
use Rattle.jobsheet.proofs.Splitting.{lines_none, lines_step}

pub lines_some : (xs : List ℕ) → 0 < length xs → lines xs ≡ take (prefix_len (apart 10) xs) xs ∷ lines (drop (suc (prefix_len (apart 10) xs)) xs)
lines_some [] h = absurd (omega arith)
lines_some (b ∷ bs) h = lines_step b bs

pub none_left : (text : List ℕ) (at : ℕ) → length text ≤ at → lines (drop at text) ≡ []
none_left text at h = ap lines (drop_all at text h) ∙ lines_none

module _ (text : List ℕ) (at n : ℕ) (inside : at ≤ length text) (e : n ≡ prefix_len (apart 10) (take (length text - at) (drop at text))) where
  reach : n ≡ prefix_len (apart 10) (drop at text)
  reach = e ∙ ap (prefix_len (apart 10)) (take_rest text at)

  fits : at + n ≤ length text
  fits = omega (arith, reach, prefix_len-le-length (apart 10) (drop at text), length-drop at text)

  here : at < length text → lines (drop at text) ≡ take (at + n - at) (drop at text) ∷ lines (drop (at + suc n) text)
  here h =
      let same : n ≡ at + n - at = omega arith in
      lines_some (drop at text) (omega (arith, length-drop at text))
      ∙ ap (λ k. take k (drop at text) ∷ lines (drop (suc k) (drop at text))) (sym reach)
      ∙ ap₂ (λ k l. take k (drop at text) ∷ lines l) same (drop-drop (suc n) at text)

  -- behind the line and its newline, if it has one
  after : (next : ℕ) → next ≡ min (length text) (at + n + 1) → lines (drop (at + suc n) text) ≡ lines (drop next text)
  after next e = elim (cases_lt (at + n) (length text)) [
    | inl h ↦ let same : at + suc n ≡ next = grind (arith, e) in ap (λ k. lines (drop k text)) same
    | inr h ↦ let past : length text ≤ next = grind (arith, e, fits) in none_left text (at + suc n) (omega arith) ∙ sym (none_left text next past)
  ]

  module _ (line : Line) (whole : line.text.now ≡ text) (begins : line.from ≡ at) (ends : line.end ≡ at + n) (next : ℕ) (least : next ≡ min (length text) (at + n + 1)) where
    there : at < length text → lines (drop at text) ≡ take (line.end - at) (drop at text) ∷ lines (drop next text)
    there h = here h ∙ ap₂ (λ k ls. take (k - at) (drop at text) ∷ ls) (sym ends) (after next least)

    pub line_stands : LineAt text at line next
    line_stands = record {
      whole = whole;
      begins = begins;
      starts = omega (arith, ends);
      within = grind (arith, least);
      rest = elim (cases_lt at (length text)) [
        | inl h ↦ sym (ap others (there h))
        | inr h ↦ sym (after next least) ∙ none_left text (at + suc n) (omega arith) ∙ sym (ap others (none_left text at h))
      ];
      there = there;
      goes = λ h. grind (arith, least, fits);
    }

-- the names are in the first line
module _ (text : List ℕ) (line : Line) (next : ℕ) (l : LineAt text 0 line next) where
  first_rest : rest line ≡ take line.end text
  first_rest =
      ap (λ t. take (line.end - line.from) (drop line.from t)) l.whole
      ∙ ap (λ k. take (line.end - k) (drop k text)) l.begins
      ∙ ap (λ k. take k text) (sub-zero line.end)

  none_named : length text ≤ 0 → order_of (take line.end text) ≡ None
  unfolding order_of
  none_named h = let e : text ≡ [] = nil_from_length text (omega arith) in ap (λ t. order_of (take line.end t)) e ∙ ap order_of (take_all line.end [] (omega arith))

  pub by_first : sheet_order (lines text) ≡ order_of (take line.end text)
  by_first = elim (cases_lt 0 (length text)) [
    | inl h ↦ ap sheet_order (l.there h) ∙ ap (λ k. order_of (take k text)) (sub-zero line.end)
    | inr h ↦ ap sheet_order (none_left text 0 h) ∙ sym (none_named h)
  ]

  module _ (short : length text ≤ 65536) where
    opening_is : opening text ≡ by_names (order_of (take line.end text))
    opening_is = cond-false _ _ _ (le-ltb 65536 (length text) short) ∙ ap by_names by_first

    -- as the names are read
    pub opening_by : (o : Option Order) → o ≡ order_of (rest line) → (r : Result Order SheetFault) → r ≡ by_names o → opening text ≡ r
    opening_by o e r f = opening_is ∙ ap (λ t. by_names (order_of t)) (sym first_rest) ∙ ap by_names (sym e) ∙ sym f

    pub begun : (o : Order) → opening text ≡ Ok o → Begun text o next
    begun o e = record {
      order = e;
      rest = l.rest;
      goes = elim (cases_lt 0 (length text)) [
        | inl h ↦ l.goes h
        | inr h ↦ let no_order : ◌≡◌ {A = Result Order SheetFault} (Err Names) (Ok o) = ap by_names (sym (none_named h)) ∙ sym opening_is ∙ e in let z : ◌≡◌ {A = ℕ} 0 1 = cc in absurd (omega arith)
      ];
      within = l.within;
      short = short;
    }
