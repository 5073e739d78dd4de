use Rattle.std.specs.Prelude.{ℕ, ◌+◌, Some, None, Option}
use Rattle.uart_banks.specs.declared.bank_core.Core.{Core}
use Rattle.uart_chip.specs.Device.{Meaning, Rest}
use Rattle.uart_chip.specs.Registers.{value_of}
use Rattle.uart_chip.specs.declared.wire.Wire.{Ghosts}

-- how many reads an update takes that stands: n say that it stands, and one more finds it done; 0 where none stands
abbrev pub reads_left : Option ℕ → ℕ
reads_left None = 0
reads_left (Some n) = n + 1

-- what a core keeps beside its events, over a wire
abbrev pub core_rest : {W : Type 0} → Ghosts W → Core W → Rest
core_rest g c = record { fields = value_of c.registers; waiting = c.waiting; standing = reads_left c.standing; delays = g.delays c.wire }

-- the meaning of a core over a wire
abbrev pub core_meaning : {W : Type 0} → Ghosts W → Core W → Meaning
core_meaning g c = record { raw = c.raw; enabled = c.enabled; count = c.count; arrivals = g.arrivals c.wire; rest = core_rest g c }
