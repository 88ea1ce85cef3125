-- The term lists that the loops run over, made from the equations.
use Rattle.std.specs.Prelude.{ℕ, List, [], ◌∷◌, ◌++◌}
use Rattle.qc.specs.declared.terms.Term.{Term}
use Rattle.qc.specs.Equation.{Operator, Equation, Operator.Identity, Operator.Π, Operator.◌⊞◌, Equation.◌of◌, Equation.◌⊕◌}

abbrev term : ℕ → ℕ → Term
term t g = record { permutation = t; group = g }

abbrev pub operator_terms : Operator → ℕ → List Term
operator_terms Identity g = term 0 g ∷ []
operator_terms (Π t) g = term t g ∷ []
operator_terms (A ⊞ B) g = operator_terms A g ++ operator_terms B g

abbrev pub terms : Equation → List Term
terms (A of g) = operator_terms A g
terms (p ⊕ q) = terms p ++ terms q
