-- The kind of each pair of a programme: 0 untroubled, 1 bad, 2 no factor, 3 lost.
--     troubling m           mark 2, or a number that is no mark
--     kind_of a b            of the marks of its two samples: where one is 3, no factor; or else where one is 2 or is no mark, bad
--     pair_kind q marks f    of the pair of programme q in frame f, which counts from 0
--     lost_kinds             of the 64 pairs of a lost superframe
--     kinds_of q marks       of the 64 pairs of programme q, 1 to 16, out of a superframe's 2,048 marks; refused as its marks are
use Rattle.std.specs.Prelude.{ℕ, ◌+◌, ◌*◌, ◌-◌, Bool, true, cond, List, eqb, ltb, length, get_or}
use Rattle.bits.specs.Answer.{Answer, accepted, refused}
use Rattle.bits.specs.Table.{tabulate}
use Rattle.wav_sound.specs.Sound.{programme_number}

abbrev pub troubling : ℕ → Bool
troubling m = cond (eqb m 2) true (ltb 4 m)

unfoldable pub kind_of : ℕ → ℕ → ℕ
kind_of a b = cond (eqb a 3) 2 (cond (eqb b 3) 2 (cond (troubling a) 1 (cond (troubling b) 1 0)))

unfoldable pub pair_kind : ℕ → List ℕ → ℕ → ℕ
pair_kind q marks f = kind_of (get_or marks (32 * f + 2 * (q - 1)) 0) (get_or marks (32 * f + 2 * (q - 1) + 1) 0)

unfoldable pub lost_kinds : List ℕ
lost_kinds = tabulate 64 (λ f. 3)

unfoldable pub kinds_of : ℕ → List ℕ → Answer ℕ
kinds_of q marks =
    let number = programme_number q (length marks) in
    cond (eqb number 0) (accepted (tabulate 64 (pair_kind q marks))) (refused number)
