use Rattle.std.specs.Prelude.{◌≡◌, false, cond, ◌==◌, None}
use Rattle.uart_banks.specs.declared.bank_core.Core.{Core}
use Rattle.uart_chip.specs.Events.{none}
use Rattle.uart_chip.specs.Fields.{index_of}
use Rattle.uart_chip.specs.Registers.{value_of}
use Rattle.uart_chip.specs.declared.field.Field.{Field}
use Rattle.uart_chip.specs.declared.field.Field.TheVariants.{SclkEn}

-- a fresh core, over a wire: the clock gate is open, all other fields are 0, no event is raw or
-- enabled, there are no bytes, nothing waits and no update stands
pub record Fresh {W : Type 0} (wire : W) (c : Core W) : Type 0 where
  pub same_wire : c.wire ≡ wire
  pub raw : c.raw ≡ none
  pub enabled : c.enabled ≡ none
  pub count : c.count ≡ 0
  pub fields : (f : Field) → value_of c.registers f ≡ cond (index_of f == index_of SclkEn) 1 0
  pub waiting : c.waiting ≡ false
  pub standing : c.standing ≡ None
