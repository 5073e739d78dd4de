use Rattle.std.specs.Prelude.{◌≡◌, Bool}
use Rattle.uart_banks.specs.Cores.{core_meaning}
use Rattle.uart_banks.specs.declared.bank.Bank.{Bank}
use Rattle.uart_chip.specs.Steps.{Writes, after_writes}
use Rattle.uart_chip.specs.declared.wire.Wire.{Ghosts}

-- a bank makes writes, one after the other, on a chip that has an update or not: its core means what they leave, and
-- its kind is the same
pub record MakesWrites {K W : Type 0} (g : Ghosts W) (updates : Bool) (ws : Writes) (old new : Bank K W) : Type 0 where
  pub core : core_meaning g new.core ≡ after_writes updates ws (core_meaning g old.core)
  pub kind : new.kind ≡ old.kind
