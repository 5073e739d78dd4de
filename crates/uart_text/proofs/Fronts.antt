-- The bytes up to a place.
use Rattle.std.proofs.Common.{ℕ, zero, suc, List, [], ◌∷◌, take, arith}
use Rattle.std.specs.List.{AllByRecursion, AllWithin}

pub front : (P : ℕ → Type 0) (s : List ℕ) (i : ℕ) → AllWithin P s 0 i → AllByRecursion P (take i s)
front P s zero h = tt
front P [] (suc i) h = tt
front P (b ∷ s) (suc i) h = (h 0 0 (omega arith) (omega arith), front P s i (λ k d low high. h (suc k) d (omega arith) (omega arith)))
