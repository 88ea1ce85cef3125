-- How many assignments of the first u unknowns there are of some kind, and where they differ.
use Rattle.std.specs.Prelude.{◌≡◌, ℕ, ◌<◌, ◌≤◌, ◌≢◌, Result, Ok, Err, List, slice_index_or}
use Rattle.element.specs.declared.bits.Bit.{Bit}
use Rattle.element.specs.declared.bits.Bit.TheVariants.{Zero, One}
use Rattle.erasure.specs.declared.elimination.Contradiction.{Contradiction}
use Rattle.erasure.specs.declared.solutions.Solutions.{Solutions}
use Rattle.erasure.specs.declared.solutions.Solutions.TheVariants.{Single, Several}
use Rattle.erasure.specs.Unknowns.{member}

-- two of them differ at k
abbrev pub Differ : ((ℕ → Bit) → Type 0) → ℕ → Type 0
Differ S k = (s : ℕ → Bit) × ((s' : ℕ → Bit) × (S s × (S s' × (s k ≢ s' k))))

-- no two of them differ at k
abbrev pub Alike : ((ℕ → Bit) → Type 0) → ℕ → Type 0
Alike S k = (s s' : ℕ → Bit) → S s → S s' → s k ≡ s' k

-- they are all b at k
abbrev pub Settled : ((ℕ → Bit) → Type 0) → ℕ → Bit → Type 0
Settled S k b = (s : ℕ → Bit) → S s → s k ≡ b

-- there is one, and it is given by the bits
pub record Only (u : ℕ) (S : (ℕ → Bit) → Type 0) (bits : List Bit) : Type 0 where
  pub fits : (s : ℕ → Bit) → ((k : ℕ) → k < u → s k ≡ slice_index_or bits k Zero) → S s
  pub only : (s : ℕ → Bit) → S s → (k : ℕ) → k < u → s k ≡ slice_index_or bits k Zero

-- there are several, and they differ in the unknowns of the set
pub record Many (u : ℕ) (S : (ℕ → Bit) → Type 0) (set : ℕ) : Type 0 where
  pub some : (k : ℕ) × ((k < u) × (member set k ≡ One))
  pub within : (k : ℕ) → u ≤ k → member set k ≡ Zero
  pub inside : (k : ℕ) → k < u → member set k ≡ One → Differ S k
  pub outside : (k : ℕ) → k < u → member set k ≡ Zero → Alike S k

-- none, one or several
abbrev pub Means : ℕ → ((ℕ → Bit) → Type 0) → Result Solutions Contradiction → Type 0
Means u S (Err e) = (s : ℕ → Bit) → S s → ⊥
Means u S (Ok (Single bits)) = Only u S bits
Means u S (Ok (Several set)) = Many u S set
