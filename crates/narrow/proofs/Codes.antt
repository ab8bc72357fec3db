-- The attributes of the two positions as the code takes them.
-- Assumes nothing.
use Prim.Native.Nat.{ℕ, ◌/◌, ◌%◌, ◌<◌}
use mathlib.Core.Path.{◌≡◌, ap}
use mathlib.Core.List.{List}
use native.Mathlib.Omega.{arith}
use lib.ListN.{get_or}
use Rattle.basics.specs.Bits.{bits}
use Rattle.narrow.specs.declared.pair.Narrow.{Narrow}
use Rattle.narrow.specs.Codes.{even_of, odd_of}

abbrev narrow : ℕ → ℕ → Narrow
narrow c a = record { character = c; attributes = a }

pub even_is : (code : List ℕ) → get_or code 2 0 < 256 → narrow (get_or code 0 0) (get_or code 2 0 / 16) ≡ even_of code
unfolding even_of
even_is code h = let e : get_or code 2 0 / 16 ≡ bits 4 4 (get_or code 2 0) = omega arith in ap (narrow (get_or code 0 0)) e

pub odd_is : (code : List ℕ) → narrow (get_or code 1 0) (get_or code 2 0 % 16) ≡ odd_of code
unfolding odd_of
odd_is code = let e : get_or code 2 0 % 16 ≡ bits 0 4 (get_or code 2 0) = omega arith in ap (narrow (get_or code 1 0)) e
