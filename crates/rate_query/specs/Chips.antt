use Rattle.std.specs.Prelude.{ℕ, List, codes}
use Rattle.rate_query.specs.declared.chip.ChipName.{ChipName}
use Rattle.rate_query.specs.declared.chip.ChipName.TheVariants.{Esp32, Esp32c3, Esp32c6}

-- the word for a chip
abbrev pub name_of : ChipName → List ℕ
name_of Esp32 = codes "esp32"
name_of Esp32c3 = codes "esp32c3"
name_of Esp32c6 = codes "esp32c6"

-- the clock of a query that names none
abbrev pub clock_of : ChipName → ℕ
clock_of Esp32 = 80000000
clock_of Esp32c3 = 80000000
clock_of Esp32c6 = 40000000
