-- Text as numbers.
--     letters text      the characters of a text, each as its number in ASCII
use Rattle.std.specs.Prelude.{ℕ, List, [], ◌∷◌}
use Prim.Native.Char.{code}
use Prim.Native.String.{String, [] as end, ◌∷◌ as ◌then◌}

unfoldable pub letters : String → List ℕ
letters end = []
letters (c then text) = code c ∷ letters text
