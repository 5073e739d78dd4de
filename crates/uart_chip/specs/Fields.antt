use Rattle.std.specs.Prelude.{ℕ, Bool, true, false, cond, ◌==◌}
use Rattle.uart_chip.specs.declared.field.Field.{Field}
use Rattle.uart_chip.specs.declared.field.Field.TheVariants.{SclkSel, SclkDivNum, SclkDivA, SclkDivB, SclkEn, DigClk8mEn, TickRefAlwaysOn, Clkdiv, Frag, BitNum, ParityEn, Parity, StopBitNum, Dl1En, XonChar, XoffChar, XonThreshold, XoffThreshold, SwFlowConEn, XonoffDel, TxFlowEn, RxFlowEn, RxFlowThrhd, RxfifoFullThrhd, RxToutThrhd, RxToutEn, RxfifoRst, TxfifoRst, TxfifoEmptyThrhd, AtCmdChar, CharNum, PreIdleNum, PostIdleNum, RxGapTout, TxIdleNum, ErrWrMask}

-- the place of each field in a register file
abbrev pub index_of : Field → ℕ
index_of SclkSel = 0
index_of SclkDivNum = 1
index_of SclkDivA = 2
index_of SclkDivB = 3
index_of SclkEn = 4
index_of DigClk8mEn = 5
index_of TickRefAlwaysOn = 6
index_of Clkdiv = 7
index_of Frag = 8
index_of BitNum = 9
index_of ParityEn = 10
index_of Parity = 11
index_of StopBitNum = 12
index_of Dl1En = 13
index_of XonChar = 14
index_of XoffChar = 15
index_of XonThreshold = 16
index_of XoffThreshold = 17
index_of SwFlowConEn = 18
index_of XonoffDel = 19
index_of TxFlowEn = 20
index_of RxFlowEn = 21
index_of RxFlowThrhd = 22
index_of RxfifoFullThrhd = 23
index_of RxToutThrhd = 24
index_of RxToutEn = 25
index_of RxfifoRst = 26
index_of TxfifoRst = 27
index_of TxfifoEmptyThrhd = 28
index_of AtCmdChar = 29
index_of CharNum = 30
index_of PreIdleNum = 31
index_of PostIdleNum = 32
index_of RxGapTout = 33
index_of TxIdleNum = 34
index_of ErrWrMask = 35

-- the line fields: a write of one takes effect on the line by an update
abbrev pub line : Field → Bool
line SclkSel = false
line SclkDivNum = false
line SclkDivA = false
line SclkDivB = false
line SclkEn = false
line DigClk8mEn = false
line TickRefAlwaysOn = false
line Clkdiv = true
line Frag = true
line BitNum = true
line ParityEn = true
line Parity = true
line StopBitNum = true
line Dl1En = true
line XonChar = true
line XoffChar = true
line XonThreshold = true
line XoffThreshold = true
line SwFlowConEn = true
line XonoffDel = true
line TxFlowEn = true
line RxFlowEn = true
line RxFlowThrhd = true
line RxfifoFullThrhd = false
line RxToutThrhd = true
line RxToutEn = true
line RxfifoRst = true
line TxfifoRst = true
line TxfifoEmptyThrhd = false
line AtCmdChar = true
line CharNum = true
line PreIdleNum = true
line PostIdleNum = true
line RxGapTout = true
line TxIdleNum = false
line ErrWrMask = false

-- the fields' values after the field f was given the value v: that field is v, and all others are as before
abbrev pub put : Field → ℕ → (Field → ℕ) → Field → ℕ
put f v values g = cond (index_of f == index_of g) v (values g)
