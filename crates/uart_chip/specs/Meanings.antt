use Rattle.std.specs.Prelude.{◌≡◌, Bool}
use Rattle.uart_chip.specs.Device.{Meaning, joined}
use Rattle.uart_chip.specs.Steps.{Writes, after_writes}
use Rattle.uart_chip.specs.declared.source.EventSource.{Ghosts}

-- the meaning of a device that keeps the event interface
abbrev pub meaning : {X : Type 0} → Ghosts X → X → Meaning
meaning g x = joined g.raw g.enabled g.count g.arrivals g.rest x

-- from the device x, writes were made one after the other, on a chip that has an update or not, and left the device y
abbrev pub Wrote : {X : Type 0} → Ghosts X → Bool → Writes → X → X → Type 0
Wrote g updates ws x y = meaning g y ≡ after_writes updates ws (meaning g x)
