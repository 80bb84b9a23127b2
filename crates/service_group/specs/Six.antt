-- Six bytes at a position (document 01, "Service groups"). Channels and characters count from 0 in lists, positions and stages from 1 as in the document.
--     channel_byte p g six i      byte of channel i once the six bytes at position p are in the group g
--     group_after p g six         all 32
--     completes p                position 8 completes a group
--     separates g                all 32 channel bytes are 0
--     characters_of p g           the label characters that the group brings, one for each channel; 0 where it is not complete
--     label_byte t l cs i         character i % 8 of channel i / 8 once the characters cs of stage t are in the labels l
--     labels_after p t l g        all 256
--     stage_after p t g           the stage that follows: the separator starts the first, a complete group each next, the eighth ends them
--     is_ready p t                the group that completes the labels
use Rattle.std.specs.Prelude.{ℕ, ◌+◌, ◌/◌, ◌%◌, Bool, false, cond, List, eqb, ltb, get_or}
use Rattle.bits.specs.Table.{tabulate, zeros}
use Rattle.bits.specs.Bits.{all_below}
use Rattle.service_group.specs.Places.{in_order}

-- bytes 1 to 4 at position m are the channels left and right of programmes 2m - 1 and 2m; bytes 5 and 6 are of none
unfoldable pub channel_byte : ℕ → List ℕ → List ℕ → ℕ → ℕ
channel_byte p g six i = in_order p (i / 4 + 1) (get_or g i 0) (get_or six (i % 4) 0)

unfoldable pub group_after : ℕ → List ℕ → List ℕ → List ℕ
group_after p g six = tabulate 32 (channel_byte p g six)

abbrev pub completes : ℕ → Bool
completes p = eqb p 8

abbrev pub separates : List ℕ → Bool
separates g = all_below 1 g

abbrev pub characters_of : ℕ → List ℕ → List ℕ
characters_of p g = cond (completes p) g (zeros 32)

-- the n-th group after the separator brings character n of every channel
unfoldable pub label_byte : ℕ → List ℕ → List ℕ → ℕ → ℕ
label_byte t l cs i = in_order t (i % 8 + 1) (get_or l i 0) (get_or cs (i / 8) 0)

unfoldable pub labels_after : ℕ → ℕ → List ℕ → List ℕ → List ℕ
labels_after p t l g = tabulate 256 (label_byte t l (characters_of p g))

unfoldable pub stage_after : ℕ → ℕ → List ℕ → ℕ
stage_after p t g = cond (completes p) (cond (eqb t 0) (cond (separates g) 1 0) (cond (ltb t 8) (t + 1) 0)) t

unfoldable pub is_ready : ℕ → ℕ → Bool
is_ready p t = cond (completes p) (eqb t 8) false
