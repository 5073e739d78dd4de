use Rattle.std.specs.Prelude.{◌≡◌, ℕ, Bool, List, [], ◌∷◌, ◌++◌, None, Ok, Err, Result}
use Rattle.uart_chip.specs.Device.{Rest, Meaning, cleared, disabling, with_rest}
use Rattle.uart_chip.specs.Events.{those, every, without}
use Rattle.uart_chip.specs.Steps.{put_all}
use Rattle.uart_chip.specs.declared.field.Field.{Field}
use Rattle.uart_chip.specs.declared.events.Events.{Events}
use Rattle.uart_chip.specs.declared.properties.Properties.{Properties}
use Rattle.uart_config.specs.Errors.{is_late_error}
use Rattle.uart_config.specs.Faults.{refusing}
use Rattle.uart_config.specs.Rows.{divider_rows, framing_rows, receive_rows, reset_rows, transmit_rows, plain_row, idle_writes}
use Rattle.uart_config.specs.Tables.{Row, writes_of, Carried}
use Rattle.uart_config.specs.declared.fault.Fault.{Fault}
use Rattle.uart_config.specs.declared.fifo.Fifo.TheVariants.{Rx, Tx}
use Rattle.uart_config.specs.declared.step.Step.TheVariants.{RxReset, Transmit}
use Rattle.uart_rate.specs.Clocks.{hertz_of}
use Rattle.uart_rate.specs.Judging.{Judges}
use Rattle.uart_rate.specs.declared.clocks.Clocks.{Clocks}
use Rattle.uart_rate.specs.declared.config.ClockSource.{ClockSource}
use Rattle.uart_rate.specs.declared.config.Config.{Config}
use Rattle.uart_rate.specs.declared.divider.Divider.{Divider}
use Rattle.uart_rate.specs.Limits.{Limits}
use Rattle.uart_rate.specs.declared.refusal.Refusal.{Refusal}

-- the fields once divider and framing are written, over the fields fs
abbrev pub framed : Properties → ℕ → (Field → ℕ) → Config → ℕ → Divider → Field → ℕ
framed x most fs c clk v = put_all (writes_of (framing_rows x c)) (put_all (writes_of (divider_rows x most c clk v)) fs)

-- The table of a configuration, over the fields fs before the call: the five steps in their order. The timeout's
-- length in bits goes by the framing that was written before it.
abbrev pub apply_rows : Properties → ℕ → (Field → ℕ) → Config → ℕ → Divider → List Row
apply_rows x most fs c clk v =
    divider_rows x most c clk v ++ (framing_rows x c ++ (receive_rows x (framed x most fs c clk v) c.rx ++
    (reset_rows Rx RxReset ++ transmit_rows c.tx)))

-- What is answered to a configuration and a record of clocks, and what is left: a refusal before anything is
-- written, or its table carried out as far as it goes.
pub data Applies (l : Limits) (sources : ClockSource → Bool) (x : Properties) (b : ℕ) (c : Config) (clocks : Clocks) (a : Result ℕ Fault) (s t : Rest) : Type 0 where
  unfit : (e : Refusal) → Judges l sources c clocks (Err e) → a ≡ Err (refusing e 0) → t ≡ s → Applies l sources x b c clocks a s t
  fit : (v : Divider) → Judges l sources c clocks (Ok v) →
      Carried x.has_update b (apply_rows x l.p s.fields c (hertz_of clocks c.clock_source) v) 0 a s t → Applies l sources x b c clocks a s t

-- the table of an init: that of its configuration, both resets again, idle time and error mask
abbrev pub init_rows : Properties → ℕ → (Field → ℕ) → Config → ℕ → Divider → List Row
init_rows x most fs c clk v =
    apply_rows x most fs c clk v ++ (reset_rows Rx RxReset ++ (reset_rows Tx Transmit ++ (plain_row Transmit None idle_writes ∷ [])))

-- The events that an init clears first: all but the three line errors that are no overflow.
abbrev pub first_cleared : Events
first_cleared = without every (those is_late_error)

abbrev pub prepared : Meaning → Meaning
prepared m = disabling every (cleared first_cleared m)

-- What is answered to an init, and what is left. Whatever becomes of it, it first clears events and disables all;
-- one that is accepted ends with no event raw.
pub data Inits (l : Limits) (sources : ClockSource → Bool) (x : Properties) (b : ℕ) (c : Config) (clocks : Clocks) (a : Result ℕ Fault) (m o : Meaning) : Type 0 where
  unfit : (e : Refusal) → Judges l sources c clocks (Err e) → a ≡ Err (refusing e 0) → o ≡ prepared m → Inits l sources x b c clocks a m o
  stopped : (v : Divider) (f : Fault) → Judges l sources c clocks (Ok v) → a ≡ Err f →
      Carried x.has_update b (init_rows x l.p m.rest.fields c (hertz_of clocks c.clock_source) v) 0 (Err f) m.rest o.rest →
      o ≡ with_rest o.rest (prepared m) → Inits l sources x b c clocks a m o
  accepted : (v : Divider) (k : ℕ) → Judges l sources c clocks (Ok v) → a ≡ Ok k →
      Carried x.has_update b (init_rows x l.p m.rest.fields c (hertz_of clocks c.clock_source) v) 0 (Ok k) m.rest o.rest →
      o ≡ with_rest o.rest (cleared every (prepared m)) → Inits l sources x b c clocks a m o
