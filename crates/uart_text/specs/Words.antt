-- What a word is.
use Rattle.std.specs.Prelude.{◌≡◌, ℕ, Bool, true, false, ◌||◌, ◌≢◌, List, [], ◌∷◌, ◌++◌, ◌==◌}
use Rattle.std.specs.List.{AllByRecursion}

-- whether a byte is a space (32) or a tab (9)
abbrev pub blank : ℕ → Bool
blank b = b == 32 || b == 9

-- every byte of s is blank, or, where k is false, none is
abbrev pub AllOf : Bool → List ℕ → Type 0
AllOf k s = AllByRecursion (λ b. blank b ≡ k) s

-- s is empty or begins with a blank
abbrev pub EndsWord : List ℕ → Type 0
EndsWord [] = Unit {0}
EndsWord (b ∷ s) = blank b ≡ true

-- w is the first word of s, and rest is what comes after it: s is blanks, then w, then rest
pub record NextWord (s w rest : List ℕ) : Type 0 where
  pub blanks : List ℕ
  pub whole : s ≡ blanks ++ (w ++ rest)
  pub before : AllOf true blanks
  pub some : w ≢ []
  pub inked : AllOf false w
  pub stops : EndsWord rest
