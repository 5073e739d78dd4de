use Rattle.std.proofs.Common.{◌-◌, [], ◌∷◌, ap, ◌∙◌}
use Rattle.uart_chip.specs.Steps.{after_writes}
use Rattle.uart_chip.specs.declared.field.Field.TheVariants.{SclkSel, SclkDivNum, SclkDivA, SclkDivB}
use Rattle.uart_banks.proofs.bank_core.Core.write_fast_clock.Goals as goal

pub returns : goal.returns
returns g c =
    c.write_selected_clock.ensures ∙
    ap (after_writes g.K.ChipKind.PROPERTIES.has_update ((SclkSel, 2) ∷ (SclkDivNum, c.args.prescaler - 1) ∷ (SclkDivA, 0) ∷ (SclkDivB, 0) ∷ [])) c.write_on.ensures
