-- Number 5 (document 01, "Scale words", "Numbers given"): what an unreadable scale word does, and that it does nothing else.
--     five-silent           both channels of the programme have no factor in the second superframe after it: every sample 0, every mark 3
--     step-alike            a superframe taken or lost by two states that are alike leaves two that are
--     first_alike           THE SUPERFRAME ITSELF: two that differ in the programme's 42 scale bits alone give the same samples and marks, and the same answer but
--                           for the programme's number, factors and places
--     second_alike, third-alike     the next one answers the same and sounds the same; the one after it answers the same and sounds the same but for the programme;
--                           then the two states are one
-- Assumes nothing.
use mathlib.Core.Path.{◌≡◌, refl, sym, ap, ap₂, ◌∙◌}
use mathlib.Core.Bool.{Bool, true, false, cond}
use mathlib.Core.Logic.{◌⊎◌, inl, inr, ⊎_elim, ◌≢◌}
use mathlib.Core.List.{List}
use Prim.Native.Nat.{ℕ, ◌+◌, ◌-◌, ◌*◌, ◌/◌, ◌%◌, ◌<◌, ◌≤◌}
use native.Mathlib.Omega.{arith}
use borrow.Author.Tests.{eqb-true, eqb-false}
use lib.Dec.{eqb}
use lib.IntN.{ℤ, pos}
use lib.ListN.{length, get_or, take}
use Rattle.std.specs.declared.result.Result.{Result}
use Rattle.std.specs.declared.result.Result.TheVariants.{Ok, Err}
use Rattle.bits.specs.Refused.{number_in}
use Rattle.bits.specs.declared.refusal.Refusal.{Refusal}
use Rattle.bits.specs.declared.refusal.Refusal.TheVariants.{Sync}
use Rattle.bits.specs.Table.{tabulate}
use Rattle.bits.proofs.Table.{get_or-tab, tab-ext}
use Rattle.bits.proofs.Tests.{either_way}
use Rattle.service.specs.declared.Service.{Service}
use Rattle.block.specs.Read.{Said}
use Rattle.block.specs.Mark.{mark_of, kind_of}
use Rattle.reading.specs.Reading.{largest_radius}
use Rattle.tape.specs.Tape.{synced, reading_in, block_mark, how_many, tallied_by, kind_in, blocks_of}
use Rattle.tape.proofs.Tape.{many-same}
use Rattle.tape.specs.Document.{entry, channel_of}
use Rattle.sound.specs.Document.{place_in}
use Rattle.sound.specs.Sound.{sound_at, mark_with, code_in, sample_at, mark_at, in_rows, samples_of, marks_of}
use Rattle.sound.proofs.Stands.{sample-is, mark-is, channel-stands}
use Rattle.nearest.specs.declared.Extra.{Extra}
use Rattle.nearest.specs.Reading.{read_scale}
use Rattle.nearest.specs.Extra.{information, beside}
use Rattle.beside.specs.Beside.{extra_of, number_of_factors, places_of_factors, factor_or, factor_read, word_at, programmes_of}
use Rattle.beside.specs.Document.{OnlyScale}
use Rattle.beside.proofs.Stands.{five-missing}
use Rattle.running.specs.Running.{with_taken}
use Rattle.running.specs.declared.Running.{Running}
use Rattle.superframe.specs.State.{joined_state, state_in_range}
use Rattle.superframe.specs.Take.{takable, taking, beside_with, take_answer, outcome, next_state, number_told, handed}
use Rattle.superframe.specs.declared.state.State.{State}
use Rattle.history.specs.Calls.{Call, Accepted, LostIn}
use Rattle.history.specs.Alike.{OffProgramme, Alike, LentAlike, with_fresh, SameAnswer, AnswerBut, SoundBut}
use Rattle.history.proofs.OneScale as one
use Rattle.history.proofs.Ranges.{take-in-range}
use Rattle.history.proofs.Answers.{numbered, told, was-taken, was-lost, answer-is, accepted-in-range, accepted-radius}
use Rattle.history.proofs.Ahead.{heard, taken-programmes, two-ahead}
use Rattle.history.proofs.Served.{lost-range}

-- ---- silence
module _ (s : State) (first : Call s) (second : Call (next_state first.answer)) (third : Call (next_state second.answer))
    (a : Accepted first) (b : Accepted second ⊎ LostIn second) (c : Accepted third) where
  pub five-silent : (q side f : ℕ) → 1 ≤ q → q ≤ 16 → 1 ≤ side → side ≤ 2 → 1 ≤ f → f ≤ 64 → entry (handed first.answer).programmes.numbers q 0 ≡ 5
      → (entry third.samples (place_in f (channel_of q side)) (pos 0) ≡ pos 0) × (entry third.marks (place_in f (channel_of q side)) 0 ≡ 3)
  five-silent q side f k l m u v w e =
      let factors = (programmes_of first.bytes).factors in
      let none : entry factors (channel_of q side) 0 ≡ 8 =
      five-missing first.bytes q side k l m u (λ z. let five = rw (taken-programmes s first a) at e in omega arith) in
      let ch = channel_of q side - 1 in
      let at : place_in f (channel_of q side) - 1 ≡ 32 * (f - 1) + ch = omega arith in
      let h = two-ahead s first second third a b c in
      let st = (channel-stands third.radius third.bytes factors (f - 1) ch (omega arith) (omega arith)).silent (omega (arith, none)) in
      rw (at, h.sounds, h.marks) st

-- what holds of both pairs holds of the pair that a test picks
picked_both : {A : Type 0} (b : Bool) {x x' y y' : A} (P : A → A → Type 0) → P x x' → P y y' → P (cond b x y) (cond b x' y')
picked_both true P h k = h
picked_both false P h k = k

-- ---- the same bytes, given to two states that are alike
taking_same : (radius : ℕ) (s s' : State) (sf sf' : List ℕ) (samples : List ℤ) (marks : List ℕ) → length sf ≡ length sf' → synced sf ≡ synced sf' → state_in_range s ≡ state_in_range s' → s.totals ≡ s'.totals
    → taking radius s sf samples marks ≡ taking radius s' sf' samples marks
unfolding taking takable
taking_same radius s s' sf sf' samples marks e f g h = rw (e, f, g, h)

-- the same of two calls that were lent the same lists
asked_same : (s s' : State) (k : Call s) (k' : Call s') (lent : LentAlike k k') → length k.bytes ≡ length k'.bytes → synced k.bytes ≡ synced k'.bytes → state_in_range s ≡ state_in_range s' → s.totals ≡ s'.totals
    → outcome k.answer ≡ outcome k'.answer
asked_same s s' k k' lent e f g h =
    told s k
    ∙ ap₂ (λ (x : List ℤ) (m : List ℕ). taking k.radius s k.bytes x m) lent.samples lent.marks
    ∙ ap (λ (r : ℕ). taking r s k.bytes k'.lent-samples k'.lent-marks) lent.radius
    ∙ taking_same k'.radius s s' k.bytes k'.bytes k'.lent-samples k'.lent-marks e f g h
    ∙ sym (told s' k')

moved-in-range : (s : State) (k : Call s) → Accepted k ⊎ LostIn k → state_in_range (next_state k.answer) ≡ true
moved-in-range s k = ⊎_elim (λ z. take-in-range s k (accepted-in-range s k z)) (λ z. take-in-range s k (lost-range s k z))

answers-same : (radius : ℕ) (o : Result Unit Refusal) (s s' : State) (sf : List ℕ) → s.service ≡ s'.service → SameAnswer (take_answer radius o s sf) (take_answer radius o s' sf)
unfolding beside_with
answers-same radius (Ok _) s s' sf e = rw e
answers-same radius (Err why) s s' sf e = refl

module _ (P R : List ℕ → List ℕ → Type 0) (s s' : State) (alike : Alike P R s s') (k : Call s) (k' : Call s') (bytes : k.bytes ≡ k'.bytes) (lent : LentAlike k k') where
  same-outcome : outcome k.answer ≡ outcome k'.answer
  same-outcome = asked_same s s' k k' lent (ap length bytes) (ap synced bytes) alike.range alike.totals

  same_number : number_told k.answer ≡ number_told k'.answer
  same_number = ap number_in same-outcome

  -- the same answer, by the first call's radius and bytes
  answers-by : (o : Result Unit Refusal) → outcome k.answer ≡ o → (k.answer ≡ take_answer k.radius o s k.bytes) × (k'.answer ≡ take_answer k.radius o s' k.bytes)
  answers-by o e = (
    answer-is s k o e,
    answer-is s' k' o (sym same-outcome ∙ e) ∙ ap₂ (λ (r : ℕ) (sf : List ℕ). take_answer r o s' sf) (sym lent.radius) (sym bytes),
  )

  pub step-answers : SameAnswer k.answer k'.answer
  step-answers =
      let are = answers-by (outcome k.answer) refl in
      ap with_fresh are.0 ∙ answers-same k.radius (outcome k.answer) s s' k.bytes alike.service ∙ sym (ap with_fresh are.1)

  next-is : (o : Result Unit Refusal) → outcome k.answer ≡ o → (next_state k.answer ≡ next_state (take_answer k.radius o s k.bytes)) × (next_state k'.answer ≡ next_state (take_answer k.radius o s' k.bytes))
  next-is o e = let are = answers-by o e in (ap next_state are.0, ap next_state are.1)

  ranges : Accepted k ⊎ LostIn k → state_in_range (next_state k.answer) ≡ state_in_range (next_state k'.answer)
  ranges m = moved-in-range s k m ∙ sym (moved-in-range s' k' (⊎_elim (λ z. inl (sym same_number ∙ z)) (λ z. inr (sym same_number ∙ z)) m))

  taken-alike : Accepted k → Alike R ◌≡◌ (next_state k.answer) (next_state k'.answer)
  unfolding beside_with
  taken-alike z =
      let is = next-is (Ok tt) (was-taken s k z) in
      record {
        next = rw (is.0, is.1) alike.after;
        after = rw (is.0, is.1);
        service = rw (is.0, is.1, alike.service);
        totals = rw (is.0, is.1, alike.totals);
        range = ranges (inl z);
      }

  lost-alike : LostIn k → Alike R ◌≡◌ (next_state k.answer) (next_state k'.answer)
  lost-alike z =
      let is = next-is (Err Sync) (was-lost s k z) in
      record {
        next = rw (is.0, is.1) alike.after;
        after = rw (is.0, is.1);
        service = rw (is.0, is.1);
        totals = rw (is.0, is.1, alike.totals);
        range = ranges (inr z);
      }

  pub step-alike : Accepted k ⊎ LostIn k → Alike R ◌≡◌ (next_state k.answer) (next_state k'.answer)
  step-alike = ⊎_elim taken-alike lost-alike

  -- the same factors give the same sound
  pub step-sound : s.next ≡ s'.next → (k.samples ≡ k'.samples) × (k.marks ≡ k'.marks)
  step-sound e = (
    k.took.sound ∙ rw (numbered s k, e, lent.radius, bytes, lent.samples) (sym (k'.took.sound ∙ rw (numbered s' k', sym same_number))),
    k.took.marked ∙ rw (numbered s k, e, lent.radius, bytes, lent.marks) (sym (k'.took.marked ∙ rw (numbered s' k', sym same_number))),
  )

-- ---- the superframe itself
module _ (q : ℕ) (low : 1 ≤ q) (high : q ≤ 16) (sf sf' : List ℕ) (d : OnlyScale q sf sf') (radius : ℕ) (small : radius ≤ largest_radius) where
  mark-same : (f p : ℕ) → f < 64 → p < 8 → block_mark radius sf f p ≡ block_mark radius sf' f p
  unfolding block_mark
  mark-same f p h m = ap mark_of (one.reading-same q low high sf sf' d radius small f p h m)

  tally-same : (k : ℕ) → tallied_by (kind_in radius sf) k ≡ tallied_by (kind_in radius sf') k
  unfolding kind_in
  tally-same k =
      tab-ext 8 (λ p. how_many 64 (λ f. eqb (kind_of (reading_in radius sf f p)) k)) (λ p. how_many 64 (λ f. eqb (kind_of (reading_in radius sf' f p)) k))
      (λ p h.
      many-same 64 (λ f. eqb (kind_of (reading_in radius sf f p)) k) (λ f. eqb (kind_of (reading_in radius sf' f p)) k)
      (λ f l. ap (λ (x : Said). eqb (kind_of x) k) (one.reading-same q low high sf sf' d radius small f p l h)))

  blocks-same : blocks_of radius sf ≡ blocks_of radius sf'
  unfolding blocks_of
  blocks-same = rw (tally-same 0, tally-same 1, tally-same 2)

  samples-same : (factors : List ℕ) → samples_of radius sf factors ≡ samples_of radius sf' factors
  unfolding samples_of sample_at code_in
  samples-same factors =
      tab-ext 2048 (in_rows (sample_at radius sf factors)) (in_rows (sample_at radius sf' factors))
      (λ n l.
      ap (λ (z : ℤ). sound_at z (get_or factors (n % 32) 0))
      (one.code_same q low high sf sf' d radius small (n / 32) (n % 32 / 4) (n % 32 % 4) (omega arith) (omega arith)))

  marks-same : (factors : List ℕ) → marks_of radius sf factors ≡ marks_of radius sf' factors
  unfolding marks_of mark_at
  marks-same factors =
      tab-ext 2048 (in_rows (mark_at radius sf factors)) (in_rows (mark_at radius sf' factors))
      (λ n l. ap (λ (m : ℕ). mark_with m (get_or factors (n % 32) 0)) (mark-same (n / 32) (n % 32 / 4) (omega arith) (omega arith)))

  -- every other programme reads as before, and this one's information word
  other-same : (r : ℕ) → r < 16 → r ≢ q - 1 → extra_of sf r ≡ extra_of sf' r
  unfolding extra_of
  other-same r l n = ap (λ (bits : List ℕ). beside (information bits) (read_scale (take 42 bits))) (one.extra-same q low high sf sf' d r l n)

  word-at : (r : ℕ) → r < 16 → word_at sf r ≡ word_at sf' r
  unfolding extra_of
  word-at r l =
      either_way (eqb r (q - 1))
      (λ t.
      let mine : r ≡ q - 1 = eqb-true r (q - 1) t in
      rw mine (one.word_same q low high sf sf' d))
      (λ t. ap (λ (x : Extra). x.word) (other-same r l (eqb-false r (q - 1) t)))

  words_same : (programmes_of sf).words ≡ (programmes_of sf').words
  unfolding programmes_of
  words_same = tab-ext 16 (word_at sf) (word_at sf') word-at

  -- whatever is told of each programme
  each_same : (told : Extra → ℕ) (p : ℕ) → p < 16 → p ≢ q - 1 → get_or (tabulate 16 (λ r. told (extra_of sf r))) p 0 ≡ get_or (tabulate 16 (λ r. told (extra_of sf' r))) p 0
  each_same told p l n =
      get_or-tab 16 (λ r. told (extra_of sf r)) p 0 l ∙ ap told (other-same p l n) ∙ sym (get_or-tab 16 (λ r. told (extra_of sf' r)) p 0 l)

  numbers-same : (p : ℕ) → p < 16 → p ≢ q - 1 → get_or (programmes_of sf).numbers p 0 ≡ get_or (programmes_of sf').numbers p 0
  unfolding programmes_of
  numbers-same = each_same (λ x. number_of_factors x.factors)

  places_same : (p : ℕ) → p < 16 → p ≢ q - 1 → get_or (programmes_of sf).places p 0 ≡ get_or (programmes_of sf').places p 0
  unfolding programmes_of
  places_same = each_same (λ x. places_of_factors x.factors)

  factors-off : OffProgramme q (programmes_of sf).factors (programmes_of sf').factors
  unfolding programmes_of factor_read
  factors-off =
      record {
        same = λ c l n.
            get_or-tab 32 (factor_read sf) c 0 l
            ∙ ap (λ (x : Extra). factor_or x.factors (c % 2)) (other-same (c / 2) (omega arith) n)
            ∙ sym (get_or-tab 32 (factor_read sf') c 0 l);
      }

  answer-but : (s : State) → AnswerBut q (take_answer radius (Ok tt) s sf) (take_answer radius (Ok tt) s sf')
  unfolding beside_with
  answer-but s =
      let six = one.six-same q low high sf sf' d in
      record {
        number = refl;
        handed-out = record {
          wrong = one.wrong-sum-same q low high sf sf' d;
          blocks = blocks-same;
          words = words_same;
          numbers = numbers-same;
          factors = factors-off;
          places = places_same;
          six = rw six;
          position = refl;
          kind = rw six;
          labels = rw six;
        };
      }

  states-alike : (s : State) → state_in_range (next_state (take_answer radius (Ok tt) s sf)) ≡ state_in_range (next_state (take_answer radius (Ok tt) s sf'))
      → Alike ◌≡◌ (OffProgramme q) (next_state (take_answer radius (Ok tt) s sf)) (next_state (take_answer radius (Ok tt) s sf'))
  unfolding beside_with
  states-alike s e =
      record { next = refl; after = factors-off; service = rw (one.six-same q low high sf sf' d); totals = ap (with_taken s.totals) blocks-same; range = e }

-- ---- sound at factors that agree but for a programme's
joined_same : (t t' : State) → Alike ◌≡◌ ◌≡◌ t t' → t ≡ t'
joined_same t t' h =
    ap₂ (λ (f : List ℕ) (v : Service). joined_state (record { next = f; after = t.after }) v t.totals) h.next h.service
    ∙ ap₂ (λ (f : List ℕ) (n : Running). joined_state (record { next = t'.next; after = f }) t'.service n) h.after h.totals

module _ {q : ℕ} (s s' : State) (k : Call s) (k' : Call s') (bytes : k.bytes ≡ k'.bytes) (lent : LentAlike k k') (number : number_told k.answer ≡ number_told k'.answer)
    {R : List ℕ → List ℕ → Type 0} (alike : Alike (OffProgramme q) R s s') where
  -- at one place, where the two factors are the same
  sample-but : (f c : ℕ) → f < 64 → c < 32 → c / 2 ≢ q - 1 → get_or (samples_of k.radius k.bytes s.next) (32 * f + c) (pos 0) ≡ get_or (samples_of k.radius k.bytes s'.next) (32 * f + c) (pos 0)
  sample-but f c l m n =
      sample-is k.radius k.bytes s.next f c l m
      ∙ ap (sound_at (code_in k.radius k.bytes f c)) (alike.next.same c m n)
      ∙ sym (sample-is k.radius k.bytes s'.next f c l m)

  mark-but : (f c : ℕ) → f < 64 → c < 32 → c / 2 ≢ q - 1 → get_or (marks_of k.radius k.bytes s.next) (32 * f + c) 0 ≡ get_or (marks_of k.radius k.bytes s'.next) (32 * f + c) 0
  mark-but f c l m n =
      mark-is k.radius k.bytes s.next f c l m
      ∙ ap (mark_with (block_mark k.radius k.bytes f (c / 4))) (alike.next.same c m n)
      ∙ sym (mark-is k.radius k.bytes s'.next f c l m)

  sound-but : SoundBut q k k'
  sound-but =
      let mine = numbered s k in
      let theirs = numbered s' k' ∙ sym number in
      record {
        samples = λ f c l m n.
            rw (k.took.sound, k'.took.sound, mine, theirs, ← lent.radius, ← bytes, lent.samples)
            (picked_both (eqb (number_told k.answer) 0) (λ (x y : List ℤ). get_or x (32 * f + c) (pos 0) ≡ get_or y (32 * f + c) (pos 0)) (sample-but f c l m n) refl);
        marks = λ f c l m n.
            rw (k.took.marked, k'.took.marked, mine, theirs, ← lent.radius, ← bytes, lent.marks)
            (picked_both (eqb (number_told k.answer) 0) (λ (x y : List ℕ). get_or x (32 * f + c) 0 ≡ get_or y (32 * f + c) 0) (mark-but f c l m n) refl);
      }

-- ---- three superframes
module _ (q : ℕ) (low : 1 ≤ q) (high : q ≤ 16) (s : State) (first first' : Call s) (d : OnlyScale q first.bytes first'.bytes) (lent : LentAlike first first')
    (a : Accepted first) where
  small : first.radius ≤ largest_radius
  small = accepted-radius s first a

  also-taken : outcome first'.answer ≡ Ok tt
  also-taken =
      sym (asked_same s s first first' lent (d.size ∙ sym d.size') (one.sync-same q low high first.bytes first'.bytes d) refl refl) ∙ was-taken s first a

  first-number : Accepted first'
  first-number = ap number_in also-taken

  pub first-sound : (first.samples ≡ first'.samples) × (first.marks ≡ first'.marks)
  first-sound =
      let h = heard s first a in
      let h' = heard s first' first-number in (
        h.sounds ∙ samples-same q low high first.bytes first'.bytes d first.radius small s.next
            ∙ ap (λ (r : ℕ). samples_of r first'.bytes s.next) lent.radius ∙ sym h'.sounds,
        h.marks ∙ marks-same q low high first.bytes first'.bytes d first.radius small s.next
            ∙ ap (λ (r : ℕ). marks_of r first'.bytes s.next) lent.radius ∙ sym h'.marks,
      )

  -- both answers, by the first call's radius
  answers : (first.answer ≡ take_answer first.radius (Ok tt) s first.bytes) × (first'.answer ≡ take_answer first.radius (Ok tt) s first'.bytes)
  answers = (
    answer-is s first (Ok tt) (was-taken s first a),
    answer-is s first' (Ok tt) also-taken ∙ ap (λ (r : ℕ). take_answer r (Ok tt) s first'.bytes) (sym lent.radius),
  )

  pub first_alike : AnswerBut q first.answer first'.answer
  first_alike = rw (answers.0, answers.1) (answer-but q low high first.bytes first'.bytes d first.radius small s)

  between : Alike ◌≡◌ (OffProgramme q) (next_state first.answer) (next_state first'.answer)
  between =
      let is = ap next_state answers.0 in
      let is' = ap next_state answers.1 in
      let ranges = sym (ap state_in_range is) ∙ take-in-range s first (accepted-in-range s first a) ∙ sym (take-in-range s first' (accepted-in-range s first' first-number)) ∙ ap state_in_range is' in
      rw (is, is') (states-alike q low high first.bytes first'.bytes d first.radius small s ranges)

  module _ (second : Call (next_state first.answer)) (second' : Call (next_state first'.answer)) (bytes : second.bytes ≡ second'.bytes) (given : LentAlike second second')
      (b : Accepted second ⊎ LostIn second) where
    pub second_alike : SameAnswer second.answer second'.answer × ((second.samples ≡ second'.samples) × (second.marks ≡ second'.marks))
    second_alike = (
      step-answers ◌≡◌ (OffProgramme q) (next_state first.answer) (next_state first'.answer) between second second' bytes given,
      step-sound ◌≡◌ (OffProgramme q) (next_state first.answer) (next_state first'.answer) between second second' bytes given between.next,
    )

    then-alike : Alike (OffProgramme q) ◌≡◌ (next_state second.answer) (next_state second'.answer)
    then-alike = step-alike ◌≡◌ (OffProgramme q) (next_state first.answer) (next_state first'.answer) between second second' bytes given b

    module _ (third : Call (next_state second.answer)) (third' : Call (next_state second'.answer)) (those : third.bytes ≡ third'.bytes) (places : LentAlike third third')
        (c : Accepted third ⊎ LostIn third) where
      pub third-alike : SameAnswer third.answer third'.answer
      third-alike = step-answers (OffProgramme q) ◌≡◌ (next_state second.answer) (next_state second'.answer) then-alike third third' those places

      pub states-one : next_state third.answer ≡ next_state third'.answer
      states-one =
          let last = step-alike (OffProgramme q) ◌≡◌ (next_state second.answer) (next_state second'.answer) then-alike third third' those places c in
          joined_same (next_state third.answer) (next_state third'.answer) last

      pub third-sound : SoundBut q third third'
      third-sound = sound-but (next_state second.answer) (next_state second'.answer) third third' those places (same_number (OffProgramme q) ◌≡◌ (next_state second.answer) (next_state second'.answer) then-alike third third' those places) then-alike
