-- What a fill leaves in the work buffer and in the list of places.
use Rattle.std.proofs.Common.{◌≡◌, ℕ, ◌+◌, ◌<◌, Bool, true, false, cond, eqb, leb, List, length, get_or, drop, sym, refl, ap, ◌∙◌, arith}
use Rattle.std.proofs.lemmas.List.{length-drop, get_or-drop, ext_get_or}
use Rattle.std.proofs.lemmas.Bool.{and_from, and_parts, eq-eqb, eqb-true, le-leb, leb-true}
use Rattle.element.specs.declared.forms.Form.{Form}
use Rattle.qc.specs.Shape.{Shape, sent, whole}
use Rattle.erasure.specs.Marks.{Mark, erasures, written, Marked}
use Rattle.erasure.specs.Fits.{Open}
use Rattle.erasure.specs.Fill.{Fillable, fillable, forms_after, PlacesAfter}
use Rattle.erasure.specs.Places.{Places}

module _ (c : Shape) (ms : List Mark) (xs : List Form) (ws : List ℕ) where
  pub forms_written : Fillable c ms xs ws → written c ms xs ≡ forms_after c ms xs ws
  forms_written able =
      sym (ap (λ t. cond t (written c ms xs) xs)
      (and_from _ _ (and_from _ _ (and_from _ _ (eq-eqb _ _ able.sized.0) (le-leb _ _ able.sized.1)) (le-leb _ _ able.room)) (le-leb _ _ able.few)))

  -- the test says no
  able_test : fillable c ms xs ws ≡ true → Fillable c ms xs ws
  able_test e =
      let a = and_parts _ (leb (erasures ms) 64) e in
      let b = and_parts _ (leb 64 (length ws)) a.0 in
      let d = and_parts (eqb (length ms) (sent c)) (leb (whole c) (length xs)) b.0 in
      record { sized = (eqb-true _ _ d.0, leb-true _ _ d.1); room = leb-true _ _ b.1; few = leb-true _ _ a.1 }

  pub forms_kept : (Fillable c ms xs ws → ⊥) → xs ≡ forms_after c ms xs ws
  forms_kept unable = go (fillable c ms xs ws) able_test
    where
      go : (t : Bool) → (t ≡ true → Fillable c ms xs ws) → xs ≡ cond t (written c ms xs) xs
      go true able = absurd (unable (able refl))
      go false able = refl

  -- an answer that lists nothing
  pub none_listed : (Fillable c ms xs ws → (i : ℕ) → Open c ms i → ⊥) → PlacesAfter c ms xs ws ws 0
  none_listed closed =
      record {
        differ = λ q h. absurd (omega arith);
        once = λ q r h l. absurd (omega arith);
        all = λ able i h o. absurd (closed able i o);
        rest = refl;
      }

  -- the places whose unknowns are in a set
  pub some_listed : (set n : ℕ) (ls : List ℕ) → length ls ≡ length ws
      → ((i : ℕ) → i < length ms → Marked ms set i → Open c ms i) → ((i : ℕ) → i < length ms → Open c ms i → Marked ms set i)
      → Places (Marked ms set) (length ms) n ws ls → PlacesAfter c ms xs ws ls n
  some_listed set n ls long to from so =
      record {
        differ = λ q h. let a = so.sound q h in (a.0, to (get_or ls q 0) a.0 a.1);
        once = λ q r h l e. omega (arith, so.rising q r h l);
        all = λ able i h o. so.all i h (from i h o);
        rest = ext_get_or 0 (drop n ls) (drop n ws) (length-drop n ls ∙ ap (λ k. Prim.Native.Nat.◌-◌ k n) long ∙ sym (length-drop n ws))
            (λ i h. get_or-drop n ls i 0 ∙ so.rest (n + i) (omega arith) ∙ sym (get_or-drop n ws i 0));
      }
