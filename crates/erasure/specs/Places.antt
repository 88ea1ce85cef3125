-- Lists of places as a loop makes them, in rising order.
use Rattle.std.specs.Prelude.{◌≡◌, ℕ, ◌<◌, ◌≤◌, List, slice_index}

-- the first n of vs are, in rising order, the places below `size` at which P holds; the others are as in ws
pub record Places (P : ℕ → Type 0) (size : ℕ) (n : ℕ) (ws vs : List ℕ) : Type 0 where
  pub sound : (q : ℕ) → q < n → (slice_index vs q < size) × P (slice_index vs q)
  pub rising : (q r : ℕ) → q < r → r < n → slice_index vs q < slice_index vs r
  pub all : (i : ℕ) → i < size → P i → (q : ℕ) × ((q < n) × (slice_index vs q ≡ i))
  pub rest : (q : ℕ) → n ≤ q → slice_index vs q ≡ slice_index ws q
