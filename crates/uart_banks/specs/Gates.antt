use Rattle.std.specs.Prelude.{◌≡◌, ℕ, List}
use Rattle.uart_chip.specs.Registers.{value_of}
use Rattle.uart_chip.specs.Steps.{Writes, put_all}

-- the other values went from vs to us by writes, whatever the gate is
pub record Puts (ws : Writes) (vs us : List ℕ) : Type 0 where
  pub fields : (e : ℕ) → value_of (record { sclk_en = e; values = us }) ≡ put_all ws (value_of (record { sclk_en = e; values = vs }))
