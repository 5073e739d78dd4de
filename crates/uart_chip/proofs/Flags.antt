-- A flag as a bit.
use Rattle.std.proofs.Common.{◌≡◌, ℕ, ◌≤◌, Bool, true, false, eqb, arith, eq-eqb, ne_eqb}
use mir.Val.{bool_byte}

-- a flag as a number is 1 or 0
pub flag : (b : Bool) (m : ℕ) → m ≡ bool_byte b → eqb m 1 ≡ b
flag true m e = eq-eqb m 1 e
flag false m e = ne_eqb m 1 (λ q. omega arith)

pub small : (b : Bool) → bool_byte b ≤ 1
small true = omega arith
small false = omega arith
