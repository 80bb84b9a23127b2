-- The lines of labels in the list of names. Channels count from 0: 1L is 0, 1R is 1, .., 16R is 31.
--     head_text k c          what every line begins with: the superframe, and the channel by its programme and its side
--     plain x               whether a byte stands for itself between quotation marks: 32 to 126, but not " and not \
--     quoted x              a byte between quotation marks: itself, or \x and two hexadecimal digits
--     label_line k c s       the line of a label s
--     same_to n old new c    whether the first n characters of channel c's label are the same in two sets of labels
--     same_as old new c      whether channel c's label is the same as the last one noted; not where none was noted
--     channel_line k old new c    the line of channel c where its label differs from the last one noted, or where none was noted
--     label_text k old new   these lines for all channels in order where labels are handed out; else none
--     no_labels              none noted
--     noted_after o new      what is noted afterwards, where nothing is refused: the labels that were handed out
--     Labelling o k labels old new r    what noting labels answers and leaves, with the pen as `old` before it and as `new` behind it; where it is refused,
--                           what was noted stays with the caller
use Rattle.std.specs.Prelude.{ℕ, zero, suc, ◌+◌, ◌*◌, ◌/◌, ◌%◌, ◌≡◌, Bool, true, false, cond, List, [], ◌∷◌, ◌++◌, eqb, ltb, get_or}
use Rattle.bits.specs.Letters.{letters}
use Rattle.std.specs.Prelude.{IfOk}
use Rattle.std.specs.declared.option.Option.{Option}
use Rattle.std.specs.declared.option.Option.TheVariants.{Some, None}
use Rattle.std.specs.declared.result.Result.{Result}
use Rattle.bits.specs.declared.refusal.Refusal.{Refusal}
use Rattle.text.specs.Pens.{on}
use Rattle.text.specs.declared.pen.Pen.{Pen}
use Rattle.text.specs.Entry.{entered, entered_text}
use Rattle.text_rows.specs.Rows.{spelled, hex_byte}
use Rattle.text_rows.specs.Turns.{next, in_turn, part}
use Rattle.name_lines.specs.declared.Labels.{Labels}

unfoldable pub head_text : ℕ → ℕ → List ℕ
head_text k c = letters "superframe" ++ (next k ++ (letters " channel" ++ (next (c / 2 + 1) ++ cond (eqb (c % 2) 0) (letters "L") (letters "R"))))

unfoldable pub plain : ℕ → Bool
plain x = cond (ltb x 32) false (cond (ltb 126 x) false (cond (eqb x 34) false (cond (eqb x 92) false true)))

unfoldable pub quoted : ℕ → List ℕ
quoted x = cond (plain x) (x ∷ []) (92 ∷ 120 ∷ hex_byte x)

unfoldable pub label_line : ℕ → ℕ → List ℕ → List ℕ
label_line k c s = head_text k c ++ (letters " label \"" ++ (spelled quoted s ++ letters "\"\n"))

unfoldable pub same_to : ℕ → List ℕ → List ℕ → ℕ → Bool
same_to zero old new c = true
same_to (suc n) old new c = cond (same_to n old new c) (eqb (get_or old (8 * c + n) 0) (get_or new (8 * c + n) 0)) false

unfoldable pub same_as : Option (List ℕ) → List ℕ → ℕ → Bool
same_as None new c = false
same_as (Some old) new c = same_to 8 old new c

unfoldable pub channel_line : ℕ → Option (List ℕ) → List ℕ → ℕ → List ℕ
channel_line k old new c = cond (same_as old new c) [] (label_line k c (part 8 c new))

unfoldable pub label_text : ℕ → Option (List ℕ) → Option (List ℕ) → List ℕ
label_text k old None = []
label_text k old (Some new) = in_turn 32 (channel_line k old new)

unfoldable pub no_labels : Labels
no_labels = record { noted = None }

unfoldable pub noted_after : Labels → Option (List ℕ) → Labels
noted_after o None = o
noted_after o (Some new) = record { noted = Some new }

pub record Labelling (o : Labels) (k : ℕ) (labels : Option (List ℕ)) (old new : Pen) (r : Result Labels Refusal) : Type 0 where
  pub same_buffer : new.out.ghost_name ≡ old.out.ghost_name
  pub text : entered r (on new) ≡ entered_text (on old) (label_text k o.noted labels)
  pub noted : IfOk r (λ (n : Labels). n ≡ noted_after o labels)
