-- The short name of each programme type (document 01, "Service groups"; the types are those of directive 3R1): eight characters, padded with spaces.
--     names             the names of types 0 to 15, as the document prints them
--     padded text       its characters, with spaces behind them up to eight
--     name_of t          the short name of type t
--     capital, in_word   whether a character is a capital; a capital, '+', '-' or a space
--     good_word cs       one to eight characters: capitals, '+', '-' and spaces, the first and the last a capital
--     name_for t         what looking type t up answers: its name, or number 2 for a type over 15
use Rattle.std.specs.Prelude.{ℕ, ◌-◌, Bool, cond, ◌&&◌, ◌||◌, List, [], ◌∷◌, ◌++◌, ltb, leb, eqb, length, get_or, replicate}
use Prim.Native.Char.{code}
use Prim.Native.String.{String}
use Rattle.std.specs.declared.result.Result.{Result}
use Rattle.std.specs.declared.result.Result.TheVariants.{Ok, Err}
use Rattle.bits.specs.Table.{every}
use Rattle.bits.specs.Letters.{letters}
use Rattle.bits.specs.declared.refusal.Refusal.{Refusal}
use Rattle.bits.specs.declared.refusal.Refusal.TheVariants.{Range}

unfoldable pub names : List String
names =
    "KEINE" ∷ "NACHRICH" ∷ "POLITIK" ∷ "SPEZWORT" ∷ "SPORT" ∷ "LERNEN" ∷ "HOER+LIT" ∷ "KULTUR"
    ∷ "WISSEN" ∷ "UNTERHAL" ∷ "POP" ∷ "ROCK" ∷ "U-MUSIK" ∷ "L-KLASS" ∷ "E-KLASS" ∷ "SPEZ MUS" ∷ []

unfoldable pub padded : String → List ℕ
padded text = letters text ++ replicate (8 - length (letters text)) (code " ")

unfoldable pub name_of : ℕ → List ℕ
name_of t = padded (get_or names t "")

abbrev pub capital : ℕ → Bool
capital c = leb (code "A") c && leb c (code "Z")

abbrev pub in_word : ℕ → Bool
in_word c = capital c || (eqb c (code "+") || (eqb c (code "-") || eqb c (code " ")))

unfoldable pub good_word : List ℕ → Bool
good_word cs =
    (leb 1 (length cs) && leb (length cs) 8) && (every in_word cs && (capital (get_or cs 0 0) && capital (get_or cs (length cs - 1) 0)))

unfoldable pub name_for : ℕ → Result (List ℕ) Refusal
name_for t = cond (ltb t 16) (Ok (name_of t)) (Err Range)
