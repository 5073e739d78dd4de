use Rattle.std.specs.Prelude.{ℕ, ◌*◌, Bool, true, false, cond, List, [], ◌∷◌, ◌++◌, Some, None, Option, nat_lt}
use Rattle.uart_chip.specs.Steps.{Writes, clock_writes, stop_writes, timeout_writes, at_cmd_writes, symbol_length}
use Rattle.uart_chip.specs.Steps.{put_all}
use Rattle.uart_chip.specs.declared.at_cmd.AtCmdConfig.{AtCmdConfig}
use Rattle.uart_chip.specs.declared.field.Field.{Field}
use Rattle.uart_chip.specs.declared.field.Field.TheVariants as field
use Rattle.uart_chip.specs.declared.properties.Properties.{Properties}
use Rattle.uart_chip.specs.declared.properties.TimeoutRule.{TimeoutRule}
use Rattle.uart_chip.specs.declared.properties.TimeoutRule.TheVariants.{Symbols, Bits}
use Rattle.uart_config.specs.Tables.{Row}
use Rattle.uart_config.specs.declared.fifo.Fifo.{Fifo}
use Rattle.uart_config.specs.declared.fifo.Fifo.TheVariants.{Rx, Tx}
use Rattle.uart_config.specs.declared.step.Step.{Step}
use Rattle.uart_config.specs.declared.step.Step.TheVariants.{Divider, Framing, Receive, Transmit, AtCmd}
use Rattle.uart_config.specs.Tolerances.{too_fast}
use Rattle.uart_rate.specs.declared.config.Config.{Config}
use Rattle.uart_rate.specs.declared.config.CtsConfig.{CtsConfig}
use Rattle.uart_rate.specs.declared.config.CtsConfig.TheVariants as cts
use Rattle.uart_rate.specs.declared.config.DataBits.{DataBits}
use Rattle.uart_rate.specs.declared.config.DataBits.TheVariants as data_bits
use Rattle.uart_rate.specs.declared.config.Parity.{Parity}
use Rattle.uart_rate.specs.declared.config.Parity.TheVariants as parity
use Rattle.uart_rate.specs.declared.config.RtsConfig.{RtsConfig}
use Rattle.uart_rate.specs.declared.config.RtsConfig.TheVariants as rts
use Rattle.uart_rate.specs.declared.config.RxConfig.{RxConfig}
use Rattle.uart_rate.specs.declared.config.SwFlowControl.{SwFlowControl}
use Rattle.uart_rate.specs.declared.config.SwFlowControl.TheVariants as sw
use Rattle.uart_rate.specs.declared.config.TxConfig.{TxConfig}
use Rattle.uart_rate.specs.declared.divider.Divider.{Divider as Division}
use Rattle.uart_rate.specs.declared.refusal.Refusal.{Refusal}
use Rattle.uart_rate.specs.declared.refusal.Refusal.TheVariants.{BaudrateNotAchievable, RxFifoThresholdNotSupported, TimeoutTooLong, TxFifoThresholdNotSupported}

-- the refusal of a test that fails where b is true
abbrev pub refuse_if : Bool → Refusal → Option Refusal
refuse_if b e = cond b (Some e) None

-- ---- what is written

-- the divider's two fields
abbrev pub divider_writes : Division → Writes
divider_writes v = (field.Clkdiv, v.integer) ∷ (field.Frag, v.fraction) ∷ []

-- 5 to 8 data bits are 0 to 3
abbrev pub data_code : DataBits → ℕ
data_code data_bits._5 = 0
data_code data_bits._6 = 1
data_code data_bits._7 = 2
data_code data_bits._8 = 3

abbrev pub data_writes : DataBits → Writes
data_writes d = (field.BitNum, data_code d) ∷ []

-- no parity keeps the field that tells odd from even
abbrev pub parity_writes : Parity → Writes
parity_writes parity.None = (field.ParityEn, 0) ∷ []
parity_writes parity.Even = (field.ParityEn, 1) ∷ (field.Parity, 0) ∷ []
parity_writes parity.Odd = (field.ParityEn, 1) ∷ (field.Parity, 1) ∷ []

-- flow control by characters: off keeps the four numbers
abbrev pub sw_writes : SwFlowControl → Writes
sw_writes sw.Disabled = (field.SwFlowConEn, 0) ∷ (field.XonoffDel, 0) ∷ []
sw_writes (sw.Enabled xon xoff xon_at xoff_at) =
    (field.XonoffDel, 1) ∷ (field.SwFlowConEn, 1) ∷ (field.XonThreshold, xon_at) ∷ (field.XoffThreshold, xoff_at) ∷ (field.XonChar, xon) ∷ (field.XoffChar, xoff) ∷ []

abbrev pub cts_writes : CtsConfig → Writes
cts_writes cts.Enabled = (field.TxFlowEn, 1) ∷ []
cts_writes cts.Disabled = (field.TxFlowEn, 0) ∷ []

-- off keeps the threshold
abbrev pub rts_writes : RtsConfig → Writes
rts_writes (rts.Enabled n) = (field.RxFlowThrhd, n) ∷ (field.RxFlowEn, 1) ∷ []
rts_writes rts.Disabled = (field.RxFlowEn, 0) ∷ []

-- data bits, parity, stop bits and flow control
abbrev pub framing_writes : Properties → Config → Writes
framing_writes x c =
    data_writes c.data_bits ++ (parity_writes c.parity ++ (stop_writes x.stop_rule c.stop_bits ++
    (sw_writes c.sw_flow_ctrl ++ (cts_writes c.hw_flow_ctrl.cts ++ rts_writes c.hw_flow_ctrl.rts))))

-- ---- the rows

-- a row that tests, writes and makes no update
abbrev pub plain_row : Step → Option Refusal → Writes → Row
plain_row k e ws = record { step = k; refusal = e; writes = ws; updates = false; off = [] }

-- a row that ends with an update
abbrev pub update_row : Step → Option Refusal → Writes → Row
update_row k e ws = record { step = k; refusal = e; writes = ws; updates = true; off = [] }

-- step 1: clock source, prescaler and divider, an update, and then the tolerance
abbrev pub divider_row : Properties → ℕ → Config → Division → Row
divider_row x most c v = update_row Divider None (clock_writes x most c.clock_source v.prescaler ++ divider_writes v)

abbrev pub tolerance_row : Config → ℕ → Division → Row
tolerance_row c clk v = plain_row Divider (refuse_if (too_fast c.baudrate_tolerance clk c.baudrate v) BaudrateNotAchievable) []

abbrev pub divider_rows : Properties → ℕ → Config → ℕ → Division → List Row
divider_rows x most c clk v = divider_row x most c v ∷ tolerance_row c clk v ∷ []

-- step 2: framing and flow control, with an update on some chips
abbrev pub framing_rows : Properties → Config → List Row
framing_rows x c = record { step = Framing; refusal = None; writes = framing_writes x c; updates = x.updates_framing; off = [] } ∷ []

-- the field with the fill at which a FIFO's event comes, and the refusal of a fill that it cannot have
abbrev pub threshold_field : Fifo → Field
threshold_field Rx = field.RxfifoFullThrhd
threshold_field Tx = field.TxfifoEmptyThrhd

abbrev pub threshold_refusal : Fifo → Refusal
threshold_refusal Rx = RxFifoThresholdNotSupported
threshold_refusal Tx = TxFifoThresholdNotSupported

-- the step that sets a FIFO's threshold, and its row: 127 at the most
abbrev pub threshold_step : Fifo → Step
threshold_step Rx = Receive
threshold_step Tx = Transmit

abbrev pub fifo_threshold_row : Fifo → ℕ → Row
fifo_threshold_row f n = plain_row (threshold_step f) (refuse_if (nat_lt 127 n) (threshold_refusal f)) ((threshold_field f, n) ∷ [])

-- step 3: the receive threshold, then the timeout and an update
abbrev pub threshold_row : ℕ → Row
threshold_row n = fifo_threshold_row Rx n

-- a timeout in symbols is at most 127; one in bits, by the length of a symbol as the fields fs have it, at most 1,023
abbrev pub too_long : TimeoutRule → (Field → ℕ) → Option ℕ → Bool
too_long rule fs None = false
too_long Symbols fs (Some t) = nat_lt 127 t
too_long Bits fs (Some t) = nat_lt 1023 (t * symbol_length fs)

abbrev pub timeout_row : Properties → (Field → ℕ) → Option ℕ → Row
timeout_row x fs t = update_row Receive (refuse_if (too_long x.timeout_rule fs t) TimeoutTooLong) (timeout_writes x.timeout_rule fs t)

abbrev pub receive_rows : Properties → (Field → ℕ) → RxConfig → List Row
receive_rows x fs c = threshold_row c.fifo_full_threshold ∷ timeout_row x (put_all ((field.RxfifoFullThrhd, c.fifo_full_threshold) ∷ []) fs) c.timeout ∷ []

-- the field that holds a FIFO in reset
abbrev pub reset_field : Fifo → Field
reset_field Rx = field.RxfifoRst
reset_field Tx = field.TxfifoRst

-- a reset: on and an update, which if it times out is followed by off; then off and an update
abbrev pub on_row : Fifo → Step → Row
on_row f k = record { step = k; refusal = None; writes = (reset_field f, 1) ∷ []; updates = true; off = (reset_field f, 0) ∷ [] }

abbrev pub reset_rows : Fifo → Step → List Row
reset_rows f k = on_row f k ∷ update_row k None ((reset_field f, 0) ∷ []) ∷ []

-- step 5: the transmit threshold, and the transmit FIFO's reset
abbrev pub tx_threshold_row : ℕ → Row
tx_threshold_row n = fifo_threshold_row Tx n

abbrev pub transmit_rows : TxConfig → List Row
transmit_rows c = tx_threshold_row c.fifo_empty_threshold ∷ reset_rows Tx Transmit

-- step 6: what makes an AT command, and an update
abbrev pub at_cmd_rows : Properties → AtCmdConfig → List Row
at_cmd_rows x c = update_row AtCmd None (at_cmd_writes x.has_gate c) ∷ []

-- no idle time between transfers, and no faulty bytes in the receive FIFO
abbrev pub idle_writes : Writes
idle_writes = (field.TxIdleNum, 0) ∷ (field.ErrWrMask, 1) ∷ []
