use Rattle.std.proofs.Common.{rules}
use Rattle.uart_chip.proofs.Files.{written}
use Rattle.uart_chip.proofs.Places.{distinct}
use Rattle.uart_chip.specs.declared.field.Field.TheVariants.{SclkEn}
use Rattle.uart_chip.proofs.registers.Registers.write.Goals as goal

pub returns-in_default : goal.returns-in_default
returns-in_default c =
    simp c.index.ensures.value
    (written c.args.self.now.sclk_en c.args.self.now.values c.args.field c.args.value (search rules) (λ e. c.in_default.not-SclkEn (distinct c.args.field SclkEn e)))
