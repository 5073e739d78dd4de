-- Lists of writes, one after the other.
use Rattle.std.proofs.Common.{◌≡◌, ℕ, Bool, true, false, ◌||◌, cond, arith, List, [], ◌∷◌, ◌++◌, None, sym, refl, ap, ◌∙◌}
use Rattle.std.proofs.lemmas.Bool.Decides.{nat_tests}
use Rattle.std.proofs.lemmas.Grind.{common_steps}
use mathlib.Core.Path.{fun_ext}
use Rattle.uart_banks.specs.Cores.{core_meaning}
use Rattle.uart_banks.specs.Gates.{Puts}
use Rattle.uart_chip.proofs.Writes.{put_all_append}
use Rattle.uart_banks.specs.declared.bank_core.Core.{Core}
use Rattle.uart_chip.specs.Device.{Rest, with_rest}
use Rattle.uart_chip.specs.Fields.{line, put}
use Rattle.uart_chip.specs.Registers.{value_of}
use Rattle.uart_chip.specs.Steps.{Writes, written_all, after_writes, given, at_cmd_writes, put_all}
use Rattle.uart_chip.specs.declared.at_cmd.AtCmdConfig.{AtCmdConfig}
use Rattle.uart_chip.specs.declared.field.Field.{Field}
use Rattle.uart_chip.specs.declared.field.Field.TheVariants.{SclkEn, AtCmdChar, CharNum, PreIdleNum, PostIdleNum, RxGapTout}
use Rattle.uart_chip.specs.declared.wire.Wire.{Ghosts}

same : {X : Type 0} (b : Bool) (x : X) → cond b x x ≡ x
same true x = refl
same false x = refl

-- writes after writes are one list of writes, for values beside the gate
pub then_puts : {xs ys : Writes} {vs us ws : List ℕ} → Puts xs vs us → Puts ys us ws → Puts (xs ++ ys) vs ws
then_puts {xs = xs} {ys = ys} {vs = vs} a b = record {
  fields = λ e. b.fields e ∙ (ap (put_all ys) (a.fields e) ∙ sym (put_all_append xs ys (value_of (record { sclk_en = e; values = vs }))));
}

pub no_puts : {vs : List ℕ} → Puts [] vs vs
no_puts = record { fields = λ e. refl }

-- once a line field was written, more writes change the fields alone
pub settled : (u m : Bool) → cond u true m ≡ m → (ws : Writes) (fs : Field → ℕ) (ds : ℕ → ℕ) →
    written_all u ws (record { fields = fs; waiting = m; standing = 0; delays = ds }) ≡ record { fields = put_all ws fs; waiting = m; standing = 0; delays = ds }
settled u m h [] fs ds = refl
settled u m h (a ∷ ws) fs ds = rw (h, same {X = Bool} (line a.0) m, same {X = ℕ} (line a.0) 0) (settled u m h ws (put a.0 a.1 fs) ds)

-- a write of the clock gate puts it
pub gate_put : (x y : ℕ) (vs : List ℕ) → value_of (record { sclk_en = y; values = vs }) ≡ put SclkEn y (value_of (record { sclk_en = x; values = vs }))
gate_put x y vs = fun_ext (λ f. grind (arith, nat_tests))

-- the gate shut, other fields written, and the gate opened
pub gated : (x : ℕ) (ws : Writes) (vs us : List ℕ) → Puts ws vs us →
    value_of (record { sclk_en = 1; values = us }) ≡ put_all (ws ++ ((SclkEn, 1) ∷ [])) (put SclkEn 0 (value_of (record { sclk_en = x; values = vs })))
gated x ws vs us p =
    gate_put 0 1 us ∙ (ap (put SclkEn 1) (p.fields 0 ∙ ap (put_all ws) (gate_put x 0 vs)) ∙ sym (put_all_append ws ((SclkEn, 1) ∷ []) (put SclkEn 0 (value_of (record { sclk_en = x; values = vs })))))

marked : (u w : Bool) → (w || u) ≡ cond u true w
marked u w = grind (arith, common_steps)

marked_twice : (u w : Bool) → cond u true (cond u true w) ≡ cond u true w
marked_twice u w = grind (arith, common_steps)

-- the writes of an AT command beside the gate, and then the gate's
opened : (o p q r : Writes) → (p ++ (q ++ (r ++ []))) ++ o ≡ p ++ (q ++ (r ++ o))
opened o p q r = grind (arith, common_steps)

-- the writes of an AT command with the gate shut, on a core
pub gated_writes : {W : Type 0} (g : Ghosts W) (u : Bool) {us : List ℕ} (b : Core W) (c : AtCmdConfig) → Puts (at_cmd_writes false c) b.registers.values us →
    core_meaning g (record {
      wire = b.wire;
      raw = b.raw;
      enabled = b.enabled;
      count = b.count;
      registers = record { sclk_en = 1; values = us };
      waiting = b.waiting || u;
      standing = None;
    }) ≡ after_writes u (at_cmd_writes true c) (core_meaning g b)
gated_writes g u {us = us} b c p =
    let before = core_meaning g b in
    let first : Field × ℕ = (CharNum, c.char_num) in
    let pre : Writes = given PreIdleNum c.pre_idle_count in
    let post : Writes = given PostIdleNum c.post_idle_count in
    let gap : Writes = given RxGapTout c.gap_timeout in
    let open_up : Writes = (SclkEn, 1) ∷ [] in
    let more : Writes = first ∷ (pre ++ (post ++ (gap ++ open_up))) in
    let fs : Field → ℕ = put AtCmdChar c.cmd_char (put SclkEn 0 before.rest.fields) in
    let fields = gated b.registers.sclk_en (at_cmd_writes false c) b.registers.values us p ∙ ap (λ (z : Writes). put_all (first ∷ z) fs) (opened open_up pre post gap) in
    ap (λ (r : Rest). with_rest r before) (
    ap (λ (f : Field → ℕ). record { fields = f; waiting = b.waiting || u; standing = 0; delays = before.rest.delays }) fields ∙
    (ap (λ (m : Bool). record { fields = put_all more fs; waiting = m; standing = 0; delays = before.rest.delays }) (marked u b.waiting) ∙
    sym (settled u (cond u true b.waiting) (marked_twice u b.waiting) more fs before.rest.delays)))
