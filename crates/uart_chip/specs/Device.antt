use Rattle.std.specs.Prelude.{ℕ, ◌+◌, ◌-◌, min, Bool, true, false, cond, ◌==◌}
use Rattle.uart_chip.specs.Events.{union, without}
use Rattle.uart_chip.specs.Fields.{line, put}
use Rattle.uart_chip.specs.declared.arrival.Arrival.{Arrival}
use Rattle.uart_chip.specs.declared.events.Events.{Events}
use Rattle.uart_chip.specs.declared.field.Field.{Field}

-- What a chip keeps beside its events: its fields; whether a write to the line waits for an update; the update
-- that stands (0: none; n + 1: the next n reads say that it stands, and the one after says that it is done); and
-- the delays of the updates to come.
pub record Rest : Type 0 where
  pub fields : Field → ℕ
  pub waiting : Bool
  pub standing : ℕ
  pub delays : ℕ → ℕ

-- the meaning of a device: the raw events, the enabled ones, the byte count, the arrivals to come, and the rest
pub record Meaning : Type 0 where
  pub raw : Events
  pub enabled : Events
  pub count : ℕ
  pub arrivals : ℕ → Arrival
  pub rest : Rest

-- a look takes the next arrival: its events become raw, and its bytes are the count, up to 128
abbrev pub looked : Meaning → Meaning
looked m = record { raw = union m.raw (m.arrivals 0).events; enabled = m.enabled; count = min (m.arrivals 0).bytes 128; arrivals = λ k. m.arrivals (k + 1); rest = m.rest }

-- the named events are raw no more
abbrev pub cleared : Events → Meaning → Meaning
cleared es m = record { raw = without m.raw es; enabled = m.enabled; count = m.count; arrivals = m.arrivals; rest = m.rest }

-- the named events are enabled
abbrev pub enabling : Events → Meaning → Meaning
enabling es m = record { raw = m.raw; enabled = union m.enabled es; count = m.count; arrivals = m.arrivals; rest = m.rest }

-- the named events are enabled no more
abbrev pub disabling : Events → Meaning → Meaning
disabling es m = record { raw = m.raw; enabled = without m.enabled es; count = m.count; arrivals = m.arrivals; rest = m.rest }

-- the rest is r, and the events, the count and the arrivals are as before
abbrev pub with_rest : Rest → Meaning → Meaning
with_rest r m = record { raw = m.raw; enabled = m.enabled; count = m.count; arrivals = m.arrivals; rest = r }

-- A field is written, on a chip that has an update or not. A line field cancels the update that stands, and on a
-- chip with an update it then waits for one.
abbrev pub written : Bool → Field → ℕ → Rest → Rest
written updates f v r = record {
  fields = put f v r.fields;
  waiting = cond (line f) (cond updates true r.waiting) r.waiting;
  standing = cond (line f) 0 r.standing;
  delays = r.delays;
}

-- an update is requested: it takes the next delay, and replaces any that stands
abbrev pub requested : Rest → Rest
requested r = record { fields = r.fields; waiting = r.waiting; standing = r.delays 0 + 1; delays = λ k. r.delays (k + 1) }

-- the update is read: the read that says done ends the waiting; with none standing nothing changes
abbrev pub polled : Rest → Rest
polled r = record { fields = r.fields; waiting = cond (r.standing == 1) false r.waiting; standing = r.standing - 1; delays = r.delays }

-- the meaning of a device, from its five parts
abbrev pub joined : {X : Type 0} → (X → Events) → (X → Events) → (X → ℕ) → (X → ℕ → Arrival) → (X → Rest) → X → Meaning
joined raw enabled count arrivals rest x = record { raw = raw x; enabled = enabled x; count = count x; arrivals = arrivals x; rest = rest x }
