-- Numbers with a sign.
--     between a b z     z is from a to b, both of them among these
--     mod_z z m          what z leaves over m: 0 to m - 1, as a division that rounds down leaves it
-- Division itself, rounded down, is the library's `shr_z z m`; how far z reaches from 0, n for n and for -(n + 1), its `mag z`.
use Rattle.std.specs.Prelude.{Bool, ◌&&◌, ℕ, ◌-◌, ◌%◌, ℤ, pos, negsuc}
use Rattle.std.specs.Int.Signed.{le_z}

abbrev pub between : ℤ → ℤ → ℤ → Bool
between a b z = le_z a z && le_z z b

unfoldable pub mod_z : ℤ → ℕ → ℕ
mod_z (pos a) m = a % m
mod_z (negsuc a) m = m - 1 - a % m
