-- The lines of programme types in the list of names. Whether a complete group carries programme bytes or label characters only the separator tells:
-- the group that was complete eight superframes before it carries programme bytes. Channels count from 0, superframes from 1.
--     held_to n s            how many of the first n characters of a name are left without the spaces at its end
--     bare t                the short name of type t without its padding
--     type_line k c t m o    the line of type t, music bit m and mode o, for superframe k and channel c
--     byte_line k c old new  that of a programme byte where it has even parity and differs from the last one noted
--     byte_noted old new     the byte noted afterwards
--     no_byte                what stands for a channel of which no byte was noted: it has odd parity, so no byte that is noted is the same
--     no_types               nothing noted, and no group complete: superframe 0
--     tells at k p t g      whether the group g, complete with position p in superframe k, is the separator, searched for at stage 0, and tells of the
--                           group that was complete in superframe `at`
--     type_text b k old new  what it tells, b, of a group's 32 bytes: the lines of all channels in order; else none
--     types_after o b k p g    what is noted afterwards, where nothing is refused
--     Typing o k p t g old new r    what noting a group answers and leaves, with the pen as `old` before it and as `new` behind it; where it is refused, what
--                           was noted stays with the caller
use Rattle.std.specs.Prelude.{ℕ, zero, suc, ◌+◌, ◌≡◌, Bool, false, cond, List, [], ◌++◌, eqb, get_or, take, replicate}
use Rattle.bits.specs.Letters.{letters}
use Rattle.bits.specs.Table.{tabulate}
use Rattle.programme.specs.Byte.{kind, music, mode, even}
use Rattle.programme.specs.Names.{name_for}
use Rattle.service_group.specs.Six.{separates}
use Rattle.std.specs.Prelude.{IfOk}
use Rattle.std.specs.Result.{result_unwrap_or}
use Rattle.std.specs.declared.result.Result.{Result}
use Rattle.bits.specs.declared.refusal.Refusal.{Refusal}
use Rattle.text.specs.Pens.{on}
use Rattle.text.specs.declared.pen.Pen.{Pen}
use Rattle.text.specs.Entry.{entered, entered_text}
use Rattle.text_rows.specs.Turns.{next, in_turn}
use Rattle.name_lines.specs.Names.{head_text}
use Rattle.type_lines.specs.declared.Types.{Types}

unfoldable pub held_to : ℕ → List ℕ → ℕ
held_to zero s = 0
held_to (suc n) s = cond (eqb (get_or s n 0) 32) (held_to n s) (suc n)

unfoldable pub bare : ℕ → List ℕ
bare t = let name = result_unwrap_or (name_for t) (replicate 8 0) in take (held_to 8 name) name

unfoldable pub type_line : ℕ → ℕ → ℕ → ℕ → ℕ → List ℕ
type_line k c t m o =
    head_text k c
    ++ (letters " type "
    ++ (bare t
    ++ (cond (eqb m 0) (letters " speech") (letters " music")
    ++ (letters " mode" ++ (next o ++ letters "\n")))))

unfoldable pub byte_line : ℕ → ℕ → ℕ → ℕ → List ℕ
byte_line k c old new = cond (eqb old new) [] (cond (even new) (type_line k c (kind new) (music new) (mode new)) [])

unfoldable pub byte_noted : ℕ → ℕ → ℕ
byte_noted old new = cond (even new) new old

abbrev pub no_byte : ℕ
no_byte = 1

unfoldable pub no_types : Types
no_types = record { bytes = replicate 32 no_byte; group = replicate 32 0; superframe = 0 }

unfoldable pub tells : ℕ → ℕ → ℕ → ℕ → List ℕ → Bool
tells at k p t g = cond (eqb p 8) (cond (eqb t 0) (cond (eqb at 0) false (cond (separates g) (eqb (at + 8) k) false)) false) false

unfoldable pub type_lines : ℕ → List ℕ → List ℕ → List ℕ
type_lines k old new = in_turn 32 (λ c. byte_line k c (get_or old c 0) (get_or new c 0))

unfoldable pub type_text : Bool → ℕ → List ℕ → List ℕ → List ℕ
type_text told k old new = cond told (type_lines k old new) []

unfoldable pub bytes_noted : List ℕ → List ℕ → List ℕ
bytes_noted old new = tabulate 32 (λ c. byte_noted (get_or old c 0) (get_or new c 0))

unfoldable pub types_after : Types → Bool → ℕ → ℕ → List ℕ → Types
types_after o told k p g =
    cond (eqb p 8) (record { bytes = cond told (bytes_noted o.bytes o.group) o.bytes; group = g; superframe = k }) o

pub record Typing (o : Types) (k p t : ℕ) (g : List ℕ) (old new : Pen) (r : Result Types Refusal) : Type 0 where
  pub same_buffer : new.out.ghost_name ≡ old.out.ghost_name
  pub text : entered r (on new) ≡ entered_text (on old) (type_text (tells o.superframe k p t g) o.superframe o.bytes o.group)
  pub noted : IfOk r (λ (n : Types). n ≡ types_after o (tells o.superframe k p t g) k p g)
