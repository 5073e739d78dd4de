-- What of a line is read: no comment, and no line end.
use Rattle.std.specs.Prelude.{◌≡◌, ℕ, ◌≢◌, ◌⊎◌, List, [], ◌∷◌, ◌++◌}
use Rattle.std.specs.List.{AllByRecursion}

-- s ends in the byte b
abbrev pub EndsIn : ℕ → List ℕ → Type 0
EndsIn b s = (t : List ℕ) × (s ≡ t ++ (b ∷ []))

-- e ends a line whose text is r: `\r\n` (13 and 10), a `\n` with no `\r` before it, a `\r`, or nothing behind a
-- text that itself ends in neither
pub data LineEnd (r : List ℕ) : List ℕ → Type 0 where
  return_newline : LineEnd r (13 ∷ 10 ∷ [])
  newline : (EndsIn 13 r → ⊥) → LineEnd r (10 ∷ [])
  return : LineEnd r (13 ∷ [])
  unended : (EndsIn 13 r → ⊥) → (EndsIn 10 r → ⊥) → LineEnd r []

-- r is the line without one line end
abbrev pub WithoutEnd : List ℕ → List ℕ → Type 0
WithoutEnd line r = (e : List ℕ) × (line ≡ r ++ e) × LineEnd r e

-- there is no `#` (35) in s
abbrev pub Uncommented : List ℕ → Type 0
Uncommented s = AllByRecursion (λ b. b ≢ 35) s

-- r is what stands before the first `#` of the line
abbrev pub Commented : List ℕ → List ℕ → Type 0
Commented line r = (comment : List ℕ) × (line ≡ r ++ (35 ∷ comment)) × Uncommented r

-- r is the part of a line that is read: up to the first `#`, or, if there is none, up to the line's end
abbrev pub Content : List ℕ → List ℕ → Type 0
Content line r = Commented line r ⊎ (Uncommented line × WithoutEnd line r)
