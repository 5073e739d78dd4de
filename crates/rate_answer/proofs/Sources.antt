use Rattle.std.proofs.Common.{◌≡◌, ℕ, refl}
use Rattle.uart_rate.specs.Clocks.{hertz_of}
use Rattle.uart_rate.specs.declared.config.ClockSource.{ClockSource}
use Rattle.uart_rate.specs.declared.config.ClockSource.TheVariants.{Apb, RcFast, Xtal, RefTick}

-- where every source runs at one clock, any of them does
pub all_alike : (clk : ℕ) (s : ClockSource) → hertz_of (record { apb_clock = clk; rc_fast_clock = clk; xtal_clock = clk; ref_tick = clk }) s ≡ clk
all_alike clk Apb = refl
all_alike clk RcFast = refl
all_alike clk Xtal = refl
all_alike clk RefTick = refl
