-- What the loops rely on: every θ is below 4, every φ below the segment's length, and every group and
-- permutation that an equation names is there. A test that computes, so that a code's numbers settle it.
use Rattle.std.specs.Prelude.{ℕ, ◌+◌, Bool, ◌&&◌, ltb, length, nat_le, nat_lt}
use Rattle.std.specs.List.{list_all}
use Rattle.qc.specs.declared.terms.Permutation.{Permutation}
use Rattle.qc.specs.declared.terms.Term.{Term}
use Rattle.qc.specs.Shape.{Shape, permutations, whole, first, second, known}
use Rattle.qc.specs.Terms.{terms}

-- θ is below 4, and each φ below m
abbrev pub permutation_sound : ℕ → Permutation → Bool
permutation_sound m p = nat_lt p.theta 4 && list_all (λ f. ltb f m) p.phi

-- the group is one of the first few, and the permutation is in the table
abbrev pub term_sound : ℕ → ℕ → Term → Bool
term_sound groups permutations t = nat_lt t.group groups && nat_lt t.permutation permutations

-- u2 and u3 are of the message alone; the third block row gives the punctured group, so it reads none of it;
-- the bounds on sizes keep every place of a block within a machine word
unfoldable pub sound : Shape → Bool
sound c =
    (nat_lt c.K 1000 && nat_lt 0 c.m && nat_le c.m 512 && nat_le 1024 (whole c))
    && list_all (permutation_sound c.m) (permutations c)
    && list_all (term_sound c.K (length (permutations c))) (terms c.u2)
    && list_all (term_sound c.K (length (permutations c))) (terms c.u3)
    && list_all (term_sound (c.K + 3) (length (permutations c))) (terms (first c))
    && list_all (term_sound (c.K + 3) (length (permutations c))) (terms (second c))
    && list_all (term_sound (c.K + 2) (length (permutations c))) (terms (known c))
