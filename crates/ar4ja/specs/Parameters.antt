-- What is tabulated of a code, by its shape and its tables.
use Rattle.std.specs.Prelude.{◌≡◌}
use Rattle.qc.specs.Shape.{first, second, known, asked, closing, permutations}
use Rattle.qc.specs.Terms.{terms}
use Rattle.ar4ja.specs.declared.codes.Code.{Code}
use Rattle.ar4ja.specs.declared.parameters.Parameters.{Parameters}
use Rattle.ar4ja.specs.Codes.{shape_of, tables_of}

pub record ParametersOf (c : Code) (p : Parameters) : Type 0 where
  pub message_groups : p.message_groups ≡ (shape_of c).K
  pub segment : p.segment ≡ (shape_of c).m
  pub table : p.table.now ≡ permutations (shape_of c)
  pub first_terms : p.first_terms.now ≡ terms (first (shape_of c))
  pub second_terms : p.second_terms.now ≡ terms (second (shape_of c))
  pub known_terms : p.known_terms.now ≡ terms (known (shape_of c))
  pub message_terms : p.message_terms.now ≡ terms (shape_of c).u3
  pub asked_terms : p.asked_terms.now ≡ terms (asked (shape_of c))
  pub closing_terms : p.closing_terms.now ≡ terms (closing (shape_of c))
  pub generator : p.generator.now ≡ (tables_of c).generator
  pub inverse : p.inverse.now ≡ (tables_of c).inverse
