-- What an entry point that puts a text answers and leaves (document 01, "Numbers given").
--     placed_within n end
--                         for a text that ends at `end`, in a buffer of n bytes: refused for a length where it ends past them, else `end`
--     Entered             the number that is given, and the page at the return
--     entered r p         these, of a call that answered r and left the page p
--     refused_text p      number 1: the page is as it was given
--     entered_text p s    number 1 where the text is longer than what is left of the buffer from the place on; else 0, with the text at the place, all
--                         before and behind it as it was, and the place behind it
--     PutsWhole old new r s    a call that had the pen as `old`, left it as `new` and answered r put the text s whole, or refused it: the pen is on the same
--                         buffer
use Rattle.std.specs.Prelude.{◌≡◌, ℕ, ◌+◌, cond, List, ◌++◌, ltb, length, take, drop}
use Rattle.std.specs.declared.result.Result.{Result}
use Rattle.std.specs.declared.result.Result.TheVariants.{Ok, Err}
use Rattle.bits.specs.Refused.{number_in}
use Rattle.bits.specs.declared.refusal.Refusal.{Refusal}
use Rattle.bits.specs.declared.refusal.Refusal.TheVariants.{Length}
use Rattle.text.specs.Page.{Page, page}
use Rattle.text.specs.Pens.{on}
use Rattle.text.specs.declared.pen.Pen.{Pen}

unfoldable pub placed_within : ℕ → ℕ → Result ℕ Refusal
placed_within n end = cond (ltb n end) (Err Length) (Ok end)

pub record Entered : Type 0 where
  pub number : ℕ
  pub page : Page

abbrev pub entered : {A : Type 0} → Result A Refusal → Page → Entered
entered r p = record { number = number_in r; page = p }

unfoldable pub refused_text : Page → Entered
refused_text p = record { number = 1; page = p }

unfoldable pub entered_text : Page → List ℕ → Entered
entered_text p s =
    let behind = p.place + length s in
    cond (ltb (length p.bytes) behind) (refused_text p)
    (record { number = 0; page = page ((take p.place p.bytes ++ s) ++ drop behind p.bytes) behind })

pub record PutsWhole (old new : Pen) (r : Result (Unit {0}) Refusal) (s : List ℕ) : Type 0 where
  pub same_buffer : new.out.ghost_name ≡ old.out.ghost_name
  pub told : entered r (on new) ≡ entered_text (on old) s
