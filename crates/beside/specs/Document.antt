-- Sentences of document 01, and of document 02 where it amends them, on what a superframe carries beside its sound, with their own numbers, which count from 1: theorems hold the definitions to them.
--     missing               how a factor that is missing is told
--     extra_number place     where a block has the extra bit of its first programme (place 1) and of its second (place 2): bits 76 and 77
--     ScaleBit q k          bit k of a superframe, from 0, is one of the first 42 extra bits of programme q: its scale word three times
--     OnlyScale q sf sf'    two superframes that differ in such bits alone
--     scale_bits sf q        those 42 bits, as received
--     ReadAs p q l r n      programme q is handed out with factors l and r and with n places (document 02, P4: "hand out that number too")
--     Unread p q            programme q is handed out with number 5: both factors are missing, and there is no number of places
use Rattle.std.specs.Prelude.{ℕ, ◌+◌, ◌-◌, ◌*◌, ◌≤◌, ◌≡◌, List, length, take}
use Rattle.bits.specs.Bits.{bit_at}
use Rattle.frame.specs.Frame.{place_of}
use Rattle.tape.specs.Document.{entry, channel_of, Carries}
use Rattle.beside.specs.Beside.{extra_bits}
use Rattle.beside.specs.declared.Programmes.{Programmes}

abbrev pub missing : ℕ
missing = 8

abbrev pub extra_number : ℕ → ℕ
extra_number place = 75 + place

pub record ScaleBit (q k : ℕ) : Type 0 where
  pub f : ℕ
  pub b : ℕ
  pub frame : ℕ
  pub place : ℕ
  pub first : 1 ≤ f
  pub last : f ≤ 42
  pub low : 1 ≤ b
  pub high : b ≤ 4
  pub carries : Carries f b q frame place
  pub at : k ≡ 320 * (frame - 1) + place_of (b - 1) (extra_number place - 1)

pub record OnlyScale (q : ℕ) (sf sf' : List ℕ) : Type 0 where
  pub size : length sf ≡ 5120
  pub size' : length sf' ≡ 5120
  pub same : (k : ℕ) → (ScaleBit q k → ⊥) → bit_at sf k ≡ bit_at sf' k

abbrev pub scale_bits : List ℕ → ℕ → List ℕ
scale_bits sf q = take 42 (extra_bits sf (q - 1))

pub record ReadAs (p : Programmes) (q l r n : ℕ) : Type 0 where
  pub number : entry p.numbers q 0 ≡ 0
  pub left : entry p.factors (channel_of q 1) 0 ≡ l
  pub right : entry p.factors (channel_of q 2) 0 ≡ r
  pub places : entry p.places q 0 ≡ n

pub record Unread (p : Programmes) (q : ℕ) : Type 0 where
  pub number : entry p.numbers q 0 ≡ 5
  pub left : entry p.factors (channel_of q 1) 0 ≡ missing
  pub right : entry p.factors (channel_of q 2) 0 ≡ missing
  pub places : entry p.places q 0 ≡ 0
