-- No two fields share a place: a list of the fields gives each back from its place.
use Rattle.std.proofs.Common.{◌≡◌, ℕ, [], ◌∷◌, get_or, refl}
use Rattle.uart_chip.specs.Fields.{index_of}
use Rattle.uart_chip.specs.Members.{told_apart}
use Rattle.uart_chip.specs.declared.field.Field.{Field}
use Rattle.uart_chip.specs.declared.field.Field.TheVariants.{SclkSel, SclkDivNum, SclkDivA, SclkDivB, SclkEn, DigClk8mEn, TickRefAlwaysOn, Clkdiv, Frag, BitNum, ParityEn, Parity, StopBitNum, Dl1En, XonChar, XoffChar, XonThreshold, XoffThreshold, SwFlowConEn, XonoffDel, TxFlowEn, RxFlowEn, RxFlowThrhd, RxfifoFullThrhd, RxToutThrhd, RxToutEn, RxfifoRst, TxfifoRst, TxfifoEmptyThrhd, AtCmdChar, CharNum, PreIdleNum, PostIdleNum, RxGapTout, TxIdleNum, ErrWrMask}

field_at : ℕ → Field
field_at n = get_or (SclkSel ∷ SclkDivNum ∷ SclkDivA ∷ SclkDivB ∷ SclkEn ∷ DigClk8mEn ∷ TickRefAlwaysOn ∷ Clkdiv ∷ Frag ∷ BitNum ∷ ParityEn ∷ Parity ∷ StopBitNum ∷ Dl1En ∷ XonChar ∷ XoffChar ∷ XonThreshold ∷ XoffThreshold ∷ SwFlowConEn ∷ XonoffDel ∷ TxFlowEn ∷ RxFlowEn ∷ RxFlowThrhd ∷ RxfifoFullThrhd ∷ RxToutThrhd ∷ RxToutEn ∷ RxfifoRst ∷ TxfifoRst ∷ TxfifoEmptyThrhd ∷ AtCmdChar ∷ CharNum ∷ PreIdleNum ∷ PostIdleNum ∷ RxGapTout ∷ TxIdleNum ∷ ErrWrMask ∷ []) n SclkSel

back : (f : Field) → field_at (index_of f) ≡ f
unfolding field_at
back = elim [ SclkSel ↦ refl | SclkDivNum ↦ refl | SclkDivA ↦ refl | SclkDivB ↦ refl | SclkEn ↦ refl | DigClk8mEn ↦ refl | TickRefAlwaysOn ↦ refl | Clkdiv ↦ refl | Frag ↦ refl | BitNum ↦ refl | ParityEn ↦ refl | Parity ↦ refl | StopBitNum ↦ refl | Dl1En ↦ refl | XonChar ↦ refl | XoffChar ↦ refl | XonThreshold ↦ refl | XoffThreshold ↦ refl | SwFlowConEn ↦ refl | XonoffDel ↦ refl | TxFlowEn ↦ refl | RxFlowEn ↦ refl | RxFlowThrhd ↦ refl | RxfifoFullThrhd ↦ refl | RxToutThrhd ↦ refl | RxToutEn ↦ refl | RxfifoRst ↦ refl | TxfifoRst ↦ refl | TxfifoEmptyThrhd ↦ refl | AtCmdChar ↦ refl | CharNum ↦ refl | PreIdleNum ↦ refl | PostIdleNum ↦ refl | RxGapTout ↦ refl | TxIdleNum ↦ refl | ErrWrMask ↦ refl ]

pub distinct : (f g : Field) → index_of f ≡ index_of g → f ≡ g
distinct = told_apart index_of field_at back
