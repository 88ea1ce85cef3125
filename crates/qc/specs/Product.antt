-- Products with a table of first rows, as the loops make them.
use Rattle.std.specs.Prelude.{ℕ, ◌+◌, ◌*◌}
use Rattle.qc.specs.declared.circulant.Product.{Product}
use Rattle.qc.specs.Circulant.{sum, act}
use Rattle.qc.specs.Coding.{first_row}

-- place s of target q, of a block given by its segments
abbrev pub product_at : {E : Type 0} → E → (E → E → E) → ℕ → Product → (ℕ → ℕ → E) → ℕ → ℕ → E
product_at none plus m p x q s = sum none plus p.sources (λ r. act none plus m (first_row m p.words.now (p.targets * r + q)) (x (p.source + r)) s)
