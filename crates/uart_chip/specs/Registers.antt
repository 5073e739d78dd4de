use Rattle.std.specs.Prelude.{ℕ, cond, ◌==◌, slice_index}
use Rattle.uart_chip.specs.Fields.{index_of}
use Rattle.uart_chip.specs.declared.field.Field.{Field}
use Rattle.uart_chip.specs.declared.field.Field.TheVariants.{SclkEn}
use Rattle.uart_chip.specs.declared.registers.Registers.{Registers}

-- the value of a field in a register file: the clock gate's is kept apart
abbrev pub value_of : Registers → Field → ℕ
value_of r f = cond (index_of f == index_of SclkEn) r.sclk_en (slice_index r.values (index_of f))
