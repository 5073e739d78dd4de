-- Lists of writes, one after the other.
use Rattle.std.proofs.Common.{◌≡◌, ℕ, Bool, [], ◌∷◌, ◌++◌, refl}
use Rattle.uart_chip.specs.Device.{Rest, written}
use Rattle.uart_chip.specs.Fields.{put}
use Rattle.uart_chip.specs.Steps.{Writes, written_all, put_all}
use Rattle.uart_chip.specs.declared.field.Field.{Field}

pub put_all_append : (xs ys : Writes) (fs : Field → ℕ) → put_all (xs ++ ys) fs ≡ put_all ys (put_all xs fs)
put_all_append [] ys fs = refl
put_all_append (x ∷ xs) ys fs = put_all_append xs ys (put x.0 x.1 fs)

pub written_all_append : (updates : Bool) (xs ys : Writes) (r : Rest) → written_all updates (xs ++ ys) r ≡ written_all updates ys (written_all updates xs r)
written_all_append updates [] ys r = refl
written_all_append updates (x ∷ xs) ys r = written_all_append updates xs ys (written updates x.0 x.1 r)
