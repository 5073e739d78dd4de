use Rattle.std.specs.Prelude.{ℕ, ◌+◌, ◌-◌, ◌*◌, ◌%◌, Bool, true, false, cond, List, [], ◌∷◌, ◌++◌, Some, None, Option, ◌==◌}
use Rattle.uart_rate.specs.declared.config.ClockSource.{ClockSource}
use Rattle.uart_rate.specs.declared.config.ClockSource.TheVariants.{Apb, RcFast, Xtal, RefTick}
use Rattle.uart_rate.specs.declared.config.StopBits.{StopBits}
use Rattle.uart_rate.specs.declared.config.StopBits.TheVariants as stop
use Rattle.uart_chip.specs.Device.{Meaning, Rest, with_rest, written}
use Rattle.uart_chip.specs.Fields.{put}
use Rattle.uart_chip.specs.declared.at_cmd.AtCmdConfig.{AtCmdConfig}
use Rattle.uart_chip.specs.declared.field.Field.{Field}
use Rattle.uart_chip.specs.declared.field.Field.TheVariants as field
use Rattle.uart_chip.specs.declared.properties.Properties.{Properties}
use Rattle.uart_chip.specs.declared.properties.SourceStyle.{SourceStyle}
use Rattle.uart_chip.specs.declared.properties.SourceStyle.TheVariants.{Tick, Select}
use Rattle.uart_chip.specs.declared.properties.StopRule.{StopRule}
use Rattle.uart_chip.specs.declared.properties.StopRule.TheVariants.{Code, ExtraStop}
use Rattle.uart_chip.specs.declared.properties.TimeoutRule.{TimeoutRule}
use Rattle.uart_chip.specs.declared.properties.TimeoutRule.TheVariants.{Symbols, Bits}

-- a list of writes, in their order: which field is given which value
abbrev pub Writes : Type 0
Writes = List (Field × ℕ)

-- the rest after writes were made one after the other
abbrev pub written_all : Bool → Writes → Rest → Rest
written_all updates [] r = r
written_all updates (w ∷ ws) r = written_all updates ws (written updates w.0 w.1 r)

-- the fields after writes were made one after the other
abbrev pub put_all : Writes → (Field → ℕ) → Field → ℕ
put_all [] fs = fs
put_all (w ∷ ws) fs = put_all ws (put w.0 w.1 fs)

-- a device after writes were made one after the other: its events, its count and its arrivals are as before
abbrev pub after_writes : Bool → Writes → Meaning → Meaning
after_writes updates ws m = with_rest (written_all updates ws m.rest) m

-- writes that are made under a condition only
abbrev pub when : Bool → Writes → Writes
when c ws = cond c ws []

abbrev pub given : Field → Option ℕ → Writes
given f None = []
given f (Some v) = (f, v) ∷ []

-- the code of a clock source where `sclk_sel` holds one; none of the three chips has both that field and REF_TICK
abbrev pub source_code : ClockSource → ℕ
source_code Apb = 1
source_code RcFast = 2
source_code Xtal = 3
source_code RefTick = 0

-- whether a source is APB, or RC_FAST
abbrev pub is_apb : ClockSource → Bool
is_apb Apb = true
is_apb RcFast = false
is_apb Xtal = false
is_apb RefTick = false

abbrev pub is_rc_fast : ClockSource → Bool
is_rc_fast Apb = false
is_rc_fast RcFast = true
is_rc_fast Xtal = false
is_rc_fast RefTick = false

abbrev pub source_writes : SourceStyle → ClockSource → Writes
source_writes Tick s = (field.TickRefAlwaysOn, cond (is_apb s) 1 0) ∷ []
source_writes Select s = (field.SclkSel, source_code s) ∷ []

-- The clock source: the fast clock on, for RC_FAST on a chip that needs it; the source; and, on a chip that has a
-- prescaler, p − 1 and no fraction.
abbrev pub clock_writes : Properties → ℕ → ClockSource → ℕ → Writes
clock_writes x most s p =
    when x.has_fast_clock (when (is_rc_fast s) ((field.DigClk8mEn, 1) ∷ [])) ++
    (source_writes x.source_style s ++
    cond (most == 1) [] ((field.SclkDivNum, p - 1) ∷ (field.SclkDivA, 0) ∷ (field.SclkDivB, 0) ∷ []))

-- the code of the stop bits
abbrev pub stop_code : StopBits → ℕ
stop_code stop._1 = 1
stop_code stop._1p5 = 2
stop_code stop._2 = 3

-- the stop bits
abbrev pub stop_writes : StopRule → StopBits → Writes
stop_writes Code s = (field.StopBitNum, stop_code s) ∷ []
stop_writes ExtraStop stop._1 = []
stop_writes ExtraStop stop._1p5 = []
stop_writes ExtraStop stop._2 = (field.Dl1En, 1) ∷ (field.StopBitNum, 1) ∷ []

-- how many parity bits and how many stop bits a symbol has, by the fields: the extra stop bit makes them two
abbrev pub parity_length : (Field → ℕ) → ℕ
parity_length fs = cond (fs field.ParityEn == 0) 0 1

abbrev pub stop_length : (Field → ℕ) → ℕ
stop_length fs = cond (fs field.Dl1En == 0) (cond (fs field.StopBitNum == 1) 1 2) 2

-- the length of a symbol in bits: a start bit, the data bits, the parity bit and the stop bits
abbrev pub symbol_length : (Field → ℕ) → ℕ
symbol_length fs = 1 + (fs field.BitNum + 5) + parity_length fs + stop_length fs

-- what is written for a timeout of t symbols: their number, or their bits as far as 32 bits hold them
abbrev pub timeout_value : TimeoutRule → (Field → ℕ) → ℕ → ℕ
timeout_value Symbols fs t = t
timeout_value Bits fs t = t * symbol_length fs % 4294967296

-- the receive timeout, or that there is none
abbrev pub timeout_writes : TimeoutRule → (Field → ℕ) → Option ℕ → Writes
timeout_writes rule fs None = (field.RxToutEn, 0) ∷ []
timeout_writes rule fs (Some t) = (field.RxToutThrhd, timeout_value rule fs t) ∷ (field.RxToutEn, 1) ∷ []

-- what makes an AT command: its character, how many of them, and the idle counts and the gap that were given; on a
-- chip with a clock gate this is shut before and open after
abbrev pub at_cmd_writes : Bool → AtCmdConfig → Writes
at_cmd_writes gate c =
    when gate ((field.SclkEn, 0) ∷ []) ++
    ((field.AtCmdChar, c.cmd_char) ∷ (field.CharNum, c.char_num) ∷
    (given field.PreIdleNum c.pre_idle_count ++ (given field.PostIdleNum c.post_idle_count ++ (given field.RxGapTout c.gap_timeout ++
    when gate ((field.SclkEn, 1) ∷ [])))))
