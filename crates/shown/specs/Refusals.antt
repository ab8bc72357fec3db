-- Refusals 7 and 8 of a draw, which the registers alone decide.
-- Assumes nothing.
use Rattle.std.specs.Prelude.{Bool, not, ◌&&◌, ◌||◌, ltb}
use Rattle.basics.specs.Bits.{is_set}
use Rattle.basics.specs.Choice.{pick}
use Rattle.shown.specs.declared.Shown.{Shown}
use Rattle.shown.specs.Modes.{is_eighty}
use Rattle.shown.specs.Origins.{yor_of}

-- 7: TGS bits 7, 6 or 5, or PAT bit 7, not zero; with TGS 7 and 6 both set, it looks only at TGS 5 and PAT 7. (A TS9347 has no
-- 80 columns, so that it is as in 40.)
unfoldable pub refused7 : Shown → Bool
refused7 shown =
    pick (is_eighty shown) (is_set 5 shown.tgs || is_set 7 shown.pat)
    (is_set 7 shown.tgs || (is_set 6 shown.tgs || (is_set 5 shown.tgs || is_set 7 shown.pat)))

-- 8: origin YOR below 8
unfoldable pub refused8 : Shown → Bool
refused8 shown = ltb (yor_of shown) 8

-- a draw would get neither 7 nor 8
unfoldable pub can_draw : Shown → Bool
can_draw shown = not (refused7 shown) && not (refused8 shown)
