-- What reading the words of a line gives.
use Rattle.std.specs.Prelude.{◌≡◌, ℕ, true, List, [], ◌∷◌, map, Option, MatchOption}
use Rattle.std.specs.Borrow.{Bor}
use Rattle.uart_text.specs.Words.{AllOf, NextWord}
use Rattle.uart_text.specs.declared.words.Words.{Words}

-- the text that is left to read
abbrev pub left : Words → List ℕ
left w = w.rest.now

-- the texts that slices hold
abbrev pub texts : List (Bor (List ℕ)) → List (List ℕ)
texts ws = map (λ w. w.now) ws

-- from the text s comes the word r, and rest is left; or s is all blank, and nothing comes and nothing is left
abbrev pub WordOrEnd : List ℕ → Option (Bor (List ℕ)) → List ℕ → Type 0
WordOrEnd s r rest = MatchOption r (AllOf true s × (rest ≡ [])) (λ w. NextWord s w.now rest)

-- ws are the words of s, in order
pub data WordsOf : List ℕ → List (List ℕ) → Type 0 where
  no_word : {s : List ℕ} → AllOf true s → WordsOf s []
  first_word : {s w rest : List ℕ} {ws : List (List ℕ)} → NextWord s w rest → WordsOf rest ws → WordsOf s (w ∷ ws)
