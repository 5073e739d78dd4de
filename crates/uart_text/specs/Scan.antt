-- How the form of a numeral is checked, from its right end. Only inner functions cite this.
use Rattle.std.specs.Prelude.{ℕ, ◌+◌, ◌%◌, Bool, cond, ◌&&◌, List, [], ◌∷◌, ◌==◌}
use Rattle.std.specs.Char.{is_ascii_digit}
use Rattle.uart_text.specs.declared.number.Scan.{Scan}
use Rattle.uart_text.specs.declared.number.Scan.TheVariants.{Start, Digits, Gap, Bad}

-- how many digits a state counts
abbrev pub digits : Scan → ℕ
digits Start = 0
digits (Digits n) = n
digits (Gap n) = n
digits Bad = 0

-- the state with the byte b in front, of a numeral that is grouped if g is true
abbrev pub stepped : Bool → Scan → ℕ → Scan
stepped g Start b = cond (is_ascii_digit b) (Digits 1) Bad
stepped g (Digits n) b =
    cond (g && n % 3 == 0)
    (cond (b == 44) (Gap n) Bad)
    (cond (is_ascii_digit b) (Digits (n + 1)) (cond (b == 95) (Gap n) Bad))
stepped g (Gap n) b = cond (is_ascii_digit b) (Digits (n + 1)) Bad
stepped g Bad b = Bad

-- the state at the left end of s
abbrev pub scanned : Bool → List ℕ → Scan
scanned g [] = Start
scanned g (b ∷ s) = stepped g (scanned g s) b
