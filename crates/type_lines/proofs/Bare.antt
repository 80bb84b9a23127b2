-- The short names without their padding are the names that document 01 prints ("Service groups"): `bare-names`. Assumes nothing.
use mathlib.Core.Path.{◌≡◌, refl}
use mathlib.Core.List.{map}
use Rattle.bits.specs.Letters.{letters}
use Rattle.bits.specs.Table.{tabulate}
use Rattle.programme.specs.Names.{names, padded, name_of, name_for}
use Rattle.type_lines.specs.Types.{held_to, bare}

pub bare-names : tabulate 16 bare ≡ map letters names
unfolding tabulate bare held_to name_for name_of padded letters names
bare-names = refl
