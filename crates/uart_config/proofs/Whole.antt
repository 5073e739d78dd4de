-- The tables of whole calls.
use Rattle.std.proofs.Common.{◌≡◌, ℕ, ◌++◌, Ok, Result, ap, ◌∙◌, subst}
use Rattle.uart_chip.specs.Device.{Rest}
use Rattle.uart_chip.specs.declared.field.Field.{Field}
use Rattle.uart_chip.specs.declared.properties.Properties.{Properties}
use Rattle.uart_chip.specs.declared.source.EventSource.{Ghosts}
use Rattle.uart_config.specs.Applying.{framed, init_rows}
use Rattle.uart_chip.specs.Steps.{put_all}
use Rattle.uart_config.specs.Rows.{divider_rows, framing_rows, receive_rows}
use Rattle.uart_config.specs.Runs.{counted, Ran}
use Rattle.uart_config.specs.Tables.{writes_of, Carried}
use Rattle.uart_config.specs.Uarts.{rest_of}
use Rattle.uart_config.specs.declared.fault.Fault.{Fault}
use Rattle.uart_config.specs.declared.uart.Uart.{Uart}
use Rattle.uart_rate.specs.declared.config.Config.{Config}
use Rattle.uart_rate.specs.declared.divider.Divider.{Divider}
use Rattle.uart_config.proofs.Runs.{ran_carried, ran_then, ran_fields}

-- the first three steps of a configuration: the timeout goes by the fields that the first two leave
pub ran_framed : {C A B D : Type 0} {g : Ghosts C} {x : Properties} (most clk : ℕ) (c : Config) (v : Divider) {u u1 u2 u3 : Uart C} {y : A} {z : B} {r : Result D Fault} →
    Ran g x (divider_rows x most c clk v) u (Ok y) u1 → Ran g x (framing_rows x c) u1 (Ok z) u2 → Ran g x (receive_rows x (rest_of g u2).fields c.rx) u2 r u3 →
    Ran g x (divider_rows x most c clk v ++ (framing_rows x c ++ receive_rows x (framed x most (rest_of g u).fields c clk v) c.rx)) u r u3
ran_framed {C} {A} {B} {D} {g} {x} most clk c v {u} {u1} {u2} {u3} {y} {z} {r} p q t =
    ran_then p (ran_then q (subst (λ (fs : Field → ℕ). Ran g x (receive_rows x fs c.rx) u2 r u3)
    (ran_fields q ∙ ap (put_all (writes_of (framing_rows x c))) (ran_fields p)) t))

-- the writing of an init, for a configuration and a clock and from a state and to a state that are known under other names
pub starts : {C A : Type 0} {g : Ghosts C} {x : Properties} (most : ℕ) (v : Divider) {c c2 : Config} {clk clk2 : ℕ} {u w : Uart C} {r : Result A Fault} {a : Result ℕ Fault} {s t : Rest} →
    Ran g x (init_rows x most (rest_of g u).fields c clk v) u r w → a ≡ counted w.reads r → c ≡ c2 → clk ≡ clk2 → rest_of g u ≡ s → rest_of g w ≡ t →
    Carried x.has_update u.budget (init_rows x most s.fields c2 clk2 v) u.reads a s t
starts {C} {A} {g} {x} most v {c} {c2} {clk} {clk2} {u} {w} {r} {a} {s} {t} p e k q i j =
    subst (λ (y : Config). Carried x.has_update u.budget (init_rows x most s.fields y clk2 v) u.reads a s t) k
    (subst (λ (z : ℕ). Carried x.has_update u.budget (init_rows x most s.fields c z v) u.reads a s t) q
    (subst (λ (z : Rest). Carried x.has_update u.budget (init_rows x most z.fields c clk v) u.reads a z t) i
    (subst (λ (z : Rest). Carried x.has_update u.budget (init_rows x most (rest_of g u).fields c clk v) u.reads a (rest_of g u) z) j (ran_carried p e))))
