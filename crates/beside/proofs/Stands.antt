-- Whose extra bits, and what number 5 does, in document 01's numbers ("The block", "Scale words", "Numbers given").
--     extra-stands          bit f of programme q's 64 is the extra bit of the block that carries it: "the first extra bit belongs to the first programme, the
--                           second to the second"
--     five-missing          "inside a superframe that programme's factors are missing", both of them
--     service-stands, six-stands, sync-stands     service bit f is bit 12 of main frame f of A; "service bits 1 to 48 of a superframe are six data bytes, and
--                           bits 49 to 64 are the sync"
--     factor-read-as, factor-there    and where there is no number they are those that the extra bits read as
-- Assumes nothing.
use mathlib.Core.Path.{◌≡◌, refl, sym, ap, ap₂, ◌∙◌}
use mathlib.Core.Bool.{cond}
use mathlib.Core.Logic.{◌≢◌}
use mathlib.Core.List.{List}
use Prim.Native.Nat.{ℕ, ◌+◌, ◌-◌, ◌*◌, ◌/◌, ◌%◌, ◌≤◌}
use native.Mathlib.Omega.{arith}
use Rattle.std.specs.declared.option.Option.{Option}
use Rattle.std.specs.declared.option.Option.TheVariants.{Some, None}
use lib.Dec.{eqb}
use lib.ListN.{length, get_or, take}
use lib.Seq.{get_or-drop}
use Rattle.bits.specs.Bits.{bits_of, byte_at}
use Rattle.bits.proofs.Bits.{bits_of-at}
use Rattle.bits.proofs.Table.{length-tab, get_or-tab}
use Rattle.frame.specs.Frame.{service_in}
use Rattle.frame.specs.Read.{service_read, block_of}
use Rattle.nearest.specs.declared.Factors.{Factors}
use Rattle.tape.specs.Tape.{frame_at}
use Rattle.tape.specs.Document.{entry, channel_of, Carries, a_first, a_second, b-first, b-second}
use Rattle.tape.proofs.Carried.{carried}
use Rattle.beside.specs.Beside.{extra_bit, extra_bits, extra_of, number_of_factors, side_of, factor_or, factor_read, number_at, programmes_of, service_bit, service_bits, sync_of, six_and_sync}
use Rattle.beside.specs.Document.{missing, extra_number}
use Rattle.beside.proofs.Carried.{byte-there, six-there}

-- ---- extra bits
module _ (sf : List ℕ) (f b : ℕ) (k : 1 ≤ f) (l : f ≤ 64) (m : 1 ≤ b) (u : b ≤ 4) where
  from : (q frame place : ℕ) → Carries f b q frame place → 75 + (q - 1) % 2 ≡ extra_number place - 1
      → entry (extra_bits sf (q - 1)) f 0 ≡ entry (block_of (frame_at sf (frame - 1)) (b - 1)) (extra_number place) 0
  unfolding extra_bits extra_bit
  from q frame place h e =
      get_or-tab 64 (extra_bit sf (q - 1)) (f - 1) 0 (omega arith)
      ∙ ap₂ (λ (block : List ℕ) (j : ℕ). get_or block j 0) (carried sf f b k m u q frame place h) e

  pub extra-stands : (q frame place : ℕ) → Carries f b q frame place
      → entry (extra_bits sf (q - 1)) f 0 ≡ entry (block_of (frame_at sf (frame - 1)) (b - 1)) (extra_number place) 0
  extra-stands q frame place a_first = from (2 * b - 1) f 1 a_first (omega arith)
  extra-stands q frame place a_second = from (2 * b) f 2 a_second (omega arith)
  extra-stands q frame place b-first = from (2 * b + 7) (64 + f) 1 b-first (omega arith)
  extra-stands q frame place b-second = from (2 * b + 8) (64 + f) 2 b-second (omega arith)

-- ---- number 5
module _ (sf : List ℕ) (q side : ℕ) (k : 1 ≤ q) (l : q ≤ 16) (m : 1 ≤ side) (u : side ≤ 2) where
  abbrev channel : ℕ
  channel = channel_of q side - 1

  factor-is : entry (programmes_of sf).factors (channel_of q side) 0 ≡ factor_read sf channel
  unfolding programmes_of
  factor-is = get_or-tab 32 (factor_read sf) channel 0 (omega arith)

  pub number_is : entry (programmes_of sf).numbers q 0 ≡ number_at sf (q - 1)
  unfolding programmes_of
  number_is = get_or-tab 16 (number_at sf) (q - 1) 0 (omega arith)

  programme : channel / 2 ≡ q - 1
  programme = omega arith

  factor-read : entry (programmes_of sf).factors (channel_of q side) 0 ≡ factor_or (extra_of sf (q - 1)).factors (side - 1)
  unfolding factor_read
  factor-read = let which : channel % 2 ≡ side - 1 = omega arith in factor-is ∙ rw (programme, which)

  none-missing : (o : Option Factors) (j : ℕ) → number_of_factors o ≢ 0 → factor_or o j ≡ missing
  unfolding factor_or
  none-missing None j h = refl
  none-missing (Some f) j h = absurd (h refl)

  pub five-missing : entry (programmes_of sf).numbers q 0 ≢ 0 → entry (programmes_of sf).factors (channel_of q side) 0 ≡ missing
  five-missing h = factor-read ∙ none-missing (extra_of sf (q - 1)).factors (side - 1) (λ e. h (number_is ∙ e))

  pub factor-read-as : (f : Factors) → (extra_of sf (q - 1)).factors ≡ Some f → entry (programmes_of sf).factors (channel_of q side) 0 ≡ side_of f (side - 1)
  unfolding factor_or
  factor-read-as f e = factor-read ∙ rw e

  some-read : (o : Option Factors) → number_of_factors o ≡ 0 → (f : Factors) × (o ≡ Some f)
  some-read None e = cc
  some-read (Some f) e = (f, refl)

  pub factor-there : entry (programmes_of sf).numbers q 0 ≡ 0
      → (f : Factors) × ((extra_of sf (q - 1)).factors ≡ Some f) × (entry (programmes_of sf).factors (channel_of q side) 0 ≡ side_of f (side - 1))
  factor-there e =
      let s = some-read (extra_of sf (q - 1)).factors (sym number_is ∙ e) in
      (s.0, s.1, factor-read-as s.0 s.1)

-- ---- service bits
module _ (sf : List ℕ) where
  service-long : length (service_bits sf) ≡ 64
  unfolding service_bits
  service-long = length-tab 64 (service_bit sf)

  pub service-stands : (f : ℕ) → 1 ≤ f → f ≤ 64 → entry (service_bits sf) f 0 ≡ entry (bits_of (frame_at sf (f - 1))) 12 0
  unfolding service_bits service_bit service_read service_in
  service-stands f k l = get_or-tab 64 (service_bit sf) (f - 1) 0 (omega arith) ∙ sym (bits_of-at (frame_at sf (f - 1)) 11)

  pub six-stands : (i : ℕ) → 1 ≤ i → i ≤ 6 → entry (six_and_sync sf).six i 0 ≡ byte_at (service_bits sf) (8 * (i - 1))
  unfolding six_and_sync
  six-stands i k l =
      ap (λ (bytes : List ℕ). get_or bytes (i - 1) 0) (sym (six-there (service_bits sf) service-long))
      ∙ get_or-tab 6 (λ i. byte_at (take 48 (service_bits sf)) (8 * i)) (i - 1) 0 (omega arith)
      ∙ sym (byte-there (service_bits sf) (i - 1) (omega arith))

  pub sync-stands : (j : ℕ) → 1 ≤ j → j ≤ 16 → entry (six_and_sync sf).sync j 0 ≡ entry (service_bits sf) (48 + j) 0
  unfolding six_and_sync sync_of
  sync-stands j k l =
      let at : 48 + (j - 1) ≡ 48 + j - 1 = omega arith in
      get_or-drop 48 (service_bits sf) (j - 1) 0 ∙ ap (λ (n : ℕ). get_or (service_bits sf) n 0) at
