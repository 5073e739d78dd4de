use Rattle.std.specs.Prelude.{true, Result}
use Rattle.std.specs.Option.{unwrap_or}
use Rattle.uart_rate.specs.Achieving.{Achieves}
use Rattle.uart_rate.specs.declared.achieved.Achieved.{Achieved}
use Rattle.uart_rate.specs.declared.config.BaudrateTolerance.TheVariants.{Closest}
use Rattle.uart_rate.specs.declared.refusal.Refusal.{Refusal}
use Rattle.rate_query.specs.declared.chip.ChipName.{ChipName}
use Rattle.rate_query.specs.declared.chip.ChipName.TheVariants.{Esp32, Esp32c3, Esp32c6}
use Rattle.uart_rate.specs.Generators.{esp32_limits, prescaled_limits}
use Rattle.uart_rate.specs.Limits.{Limits}
use Rattle.rate_query.specs.declared.query.Query.{Query}

-- Q, P and I of a chip
abbrev pub limits_of : ChipName → Limits
limits_of Esp32 = esp32_limits
limits_of Esp32c3 = prescaled_limits
limits_of Esp32c6 = prescaled_limits

-- the answer to a query: what its chip's head gets at its clock, where any rate is near enough if no tolerance is named
abbrev pub Answers : Query → Result Achieved Refusal → Type 0
Answers q r = Achieves (limits_of q.chip) true q.clk q.baud (unwrap_or q.tolerance Closest) r
