-- What is said of a block and handed on meets the mission's second and third demands, once over the radius.
--     Meets radius block r         r is a reading of the 63 bits at that radius, and the one that is said and handed on
--     read_meets, read_only        the reading that is computed is such a one, and so is every other
--     said-clean, said-mended, said-bad, heard     a reading from what is said of it
--     clean-word, word-clean, clean-hands, bad-hands     a clean block is a code word, the other way round; it is handed on as it is, and a bad one too
--     second_at, third_at          the demands, at every radius up to the largest
--     second, third, third-wide    THE DEMANDS: the mission's at the ordinary radius, and document 02's at the radius 3
--     comes_back, marked-bad       the third, of whatever meets the reader's promise at a radius that may be chosen
-- Assumes nothing.
use mathlib.Core.Path.{◌≡◌, refl, sym, ap, ◌∙◌, subst}
use mathlib.Core.Bool.{true}
use mathlib.Core.List.{List, [], ◌∷◌, ◌++◌}
use Prim.Native.Nat.{ℕ, zero, suc, ◌≤◌, ◌<◌}
use native.Mathlib.Omega.{arith}
use lib.ListN.{length, take, drop, length-append, take-append-drop}
use lib.Seq.{length-take-le, take_at, drop_at, take-append-le}
use Rattle.bits.specs.Bits.{are_bits, ones}
use Rattle.bits.specs.Digits.{Below}
use Rattle.std.specs.declared.result.Result.{Result}
use Rattle.bits.specs.declared.refusal.Refusal.{Refusal}
use Rattle.bits.specs.Answer.{accepted}
use Rattle.bits.proofs.Tests.{either_way}
use Rattle.bits.proofs.Answer.{by-test}
use Rattle.bits.proofs.Bits.{bits_below, below-bits}
use Rattle.bits.proofs.Digits.{below-append, below-take}
use Rattle.remainder.specs.Polynomial.{◌⊕◌}
use Rattle.remainder.proofs.Sum.{length-⊕, below-⊕}
use Rattle.code.specs.Generators.{block_generator}
use Rattle.code.specs.Words.{CodeWord, distance}
use Rattle.code.proofs.Words.{encode-word}
use Rattle.code.proofs.Smallest.{code-length}
use Rattle.reading.specs.Reading as R
use Rattle.reading.specs.Reading.{Reading, Reads, handed, turned, ordinary, is_radius, largest_radius}
use Rattle.reading.specs.Search.{reading}
use Rattle.reading.specs.Demand.{sent, caught}
use Rattle.reading.proofs.Fixed.{reading-reads, reading-is}
use Rattle.reading.proofs.Demand as D
use Rattle.reading.proofs.Radius.{chosen-small}
use Rattle.block.specs.Read.{Said, clean, mended, bad, said, said_with, protected, said_of, handed_on, told, stands, IsRead}
use Rattle.block.specs.Demand.{IsBlock, Near, SecondAt, Second, Sent, received, ThirdAt, Third, ThirdWide}
use Rattle.block.specs.declared.BlockRead.{BlockRead}

-- ---- what is said of 77 bits is a reading of the first 63
pub record Meets (radius : ℕ) (block : List ℕ) (r : Reading) : Type 0 where
  pub reads : Reads radius (protected block) r
  pub says : said_of radius block ≡ accepted (said r ∷ [])
  pub hands : handed_on radius block ≡ handed (protected block) r ++ drop 63 block

module _ (block : List ℕ) (b : IsBlock block) where
  pub front : length (protected block) ≡ 63
  front = length-take-le 63 block (omega (arith, b.size))

  pub below : Below 2 (protected block)
  below = below-take 2 63 block (bits_below block b.bits)

  pub read_meets : (radius : ℕ) → Meets radius block (reading radius (protected block))
  unfolding said_of handed_on
  read_meets radius = record { reads = reading-reads radius (protected block) front below; says = rw b.bits; hands = rw b.bits }

  pub read_only : (radius : ℕ) → radius ≤ largest_radius → (r : Reading) → Reads radius (protected block) r → Meets radius block r
  read_only radius small r h = subst (Meets radius block) (reading-is radius (protected block) small front below r h) (read_meets radius)

-- ---- a reading from what is said of it
never : {A : Type 0} → ◌≡◌ {A = ℕ} 0 1 → A
never e = absurd (omega (arith, e))

said-clean : (r : Reading) → said r ≡ clean → r ≡ R.clean
unfolding said
said-clean R.clean e = refl
said-clean (R.mended n c) e = never (cc)
said-clean R.bad e = never (cc)

pub said-mended : (r : Reading) (n : ℕ) → said r ≡ mended n → (c : List ℕ) × (r ≡ R.mended n c)
unfolding said
said-mended R.clean n e = never (cc)
said-mended (R.mended m c) n e = (c, cc)
said-mended R.bad n e = never (cc)

said-bad : (r : Reading) → said r ≡ bad → r ≡ R.bad
unfolding said
said-bad R.clean e = never (cc)
said-bad (R.mended n c) e = never (cc)
said-bad R.bad e = refl

said-turned : (n : ℕ) (c : List ℕ) → said (turned n c) ≡ said_with n
unfolding said turned said_with
said-turned zero c = refl
said-turned (suc n) c = refl

-- what is said of a block is said of the reading of its 63 bits
pub heard : (radius : ℕ) (block : List ℕ) (s : Said) → said_of radius block ≡ accepted (s ∷ []) → (are_bits block ≡ true) × (said (reading radius (protected block)) ≡ s)
unfolding said_of
heard radius block s e =
    let h = by-test (are_bits block) 1 e in
    let same : said (reading radius (protected block)) ∷ [] ≡ s ∷ [] = h.1 in
    (h.0, cc)

-- a reading that keeps the 63 bits keeps the block
kept : (radius : ℕ) (block : List ℕ) (r : Reading) → are_bits block ≡ true → reading radius (protected block) ≡ r → handed (protected block) r ≡ protected block
    → handed_on radius block ≡ block
unfolding handed_on
kept radius block r bits e h = rw (bits, e, h) (take-append-drop 63 block)

pub clean-hands : (radius : ℕ) (block : List ℕ) → said_of radius block ≡ accepted (clean ∷ []) → handed_on radius block ≡ block
unfolding handed
clean-hands radius block e =
    let h = heard radius block clean e in kept radius block R.clean h.0 (said-clean (reading radius (protected block)) h.1) refl

pub bad-hands : (radius : ℕ) (block : List ℕ) → said_of radius block ≡ accepted (bad ∷ []) → handed_on radius block ≡ block
unfolding handed
bad-hands radius block e =
    let h = heard radius block bad e in kept radius block R.bad h.0 (said-bad (reading radius (protected block)) h.1) refl

module _ (radius : ℕ) (small : radius ≤ largest_radius) (block : List ℕ) (b : IsBlock block) where
  abbrev word : List ℕ
  word = protected block

  abbrev meets : Meets radius block (reading radius word)
  meets = read_meets block b radius

  pub clean-word : said_of radius block ≡ accepted (clean ∷ []) → CodeWord word
  unfolding Reads
  clean-word e = subst (Reads radius word) (said-clean (reading radius word) (heard radius block clean e).1) meets.reads

  pub word-clean : CodeWord word → said_of radius block ≡ accepted (clean ∷ [])
  unfolding Reads said
  word-clean c = (read_only block b radius small R.clean c).says

  mended-near : (n : ℕ) → said_of radius block ≡ accepted (mended n ∷ []) → (c : List ℕ) × Near radius word n c
  unfolding Reads
  mended-near n e =
      let m = said-mended (reading radius word) n (heard radius block (mended n) e).1 in
      let h = subst (Reads radius word) m.1 meets.reads in
      (m.0, record { word = h.0; away = h.1; some = h.2; few = h.3 })

  near-read : (n : ℕ) (c : List ℕ) → Near radius word n c → Meets radius block (R.mended n c)
  unfolding Reads
  near-read n c h = read_only block b radius small (R.mended n c) (h.word, h.away, h.some, h.few)

  near-mended : (n : ℕ) → (c : List ℕ) × Near radius word n c → said_of radius block ≡ accepted (mended n ∷ [])
  unfolding said
  near-mended n h = (near-read n h.0 h.1).says

  near-hands : (n : ℕ) (c : List ℕ) → Near radius word n c → handed_on radius block ≡ c ++ drop 63 block
  unfolding handed
  near-hands n c h = (near-read n c h).hands

  bad-far : said_of radius block ≡ accepted (bad ∷ []) → (c : List ℕ) → CodeWord c → radius < distance c word
  unfolding Reads
  bad-far e = subst (Reads radius word) (said-bad (reading radius word) (heard radius block bad e).1) meets.reads

  far-bad : ((c : List ℕ) → CodeWord c → radius < distance c word) → said_of radius block ≡ accepted (bad ∷ [])
  unfolding Reads said
  far-bad h = (read_only block b radius small R.bad h).says

  length-handed : (r : Reading) → Reads radius word r → length (handed word r) ≡ 63
  unfolding Reads handed
  length-handed R.clean h = front block b
  length-handed (R.mended n c) h = code-length c h.0
  length-handed R.bad h = front block b

  others : drop 63 (handed_on radius block) ≡ drop 63 block
  others =
      ap (drop 63) meets.hands ∙ drop_at (handed word (reading radius word)) (drop 63 block) 63 (length-handed (reading radius word) meets.reads)

never-changed : (radius : ℕ) → radius ≤ largest_radius → (block : List ℕ) → length block ≡ 77 → drop 63 (handed_on radius block) ≡ drop 63 block
unfolding handed_on
never-changed radius small block size =
    either_way (are_bits block) (λ e. others radius small block (record { size = size; bits = e })) (λ e. rw e)

pub second_at : (radius : ℕ) → radius ≤ largest_radius → SecondAt radius (said_of radius) (handed_on radius)
second_at radius small =
    record {
      clean-when = λ block b. (clean-word radius small block b, word-clean radius small block b);
      mended-when = λ block n b. (mended-near radius small block b n, near-mended radius small block b n);
      bad-when = λ block b. (bad-far radius small block b, far-bad radius small block b);
      clean-hands = clean-hands radius;
      mended-hands = λ block n c b. near-hands radius small block b n c;
      bad-hands = bad-hands radius;
      others = never-changed radius small;
    }

pub second : Second (said_of ordinary) (handed_on ordinary)
second = second_at ordinary (omega arith)

-- ---- the third demand
module _ (sound mask other : List ℕ) (s : Sent sound mask other) where
  abbrev arrived : List ℕ
  arrived = received sound mask other

  sent-size : length (sent sound) ≡ 63
  sent-size = code-length (sent sound) (encode-word 44 block_generator sound s.sound-bits s.sound-size)

  changed-size : length (sent sound ⊕ mask) ≡ 63
  changed-size = length-⊕ (sent sound) mask (sent-size ∙ sym s.mask_size) ∙ sent-size

  pub arrived-block : IsBlock arrived
  arrived-block =
      record {
        size = length-append (sent sound ⊕ mask) other ∙ omega (arith, changed-size, s.other-size);
        bits = below-bits arrived (below-append 2 (sent sound ⊕ mask) other (below-⊕ (sent sound) mask) s.other-bits);
      }

  changed : protected arrived ≡ sent sound ⊕ mask
  changed = take_at (sent sound ⊕ mask) other 63 changed-size

  behind : drop 63 arrived ≡ other
  behind = drop_at (sent sound ⊕ mask) other 63 changed-size

  module _ (radius : ℕ) (small : radius ≤ largest_radius) where
    -- the reading of the block is that of the 63 bits
    arrived-meets : Meets radius arrived (reading radius (sent sound ⊕ mask))
    arrived-meets = subst (λ (w : List ℕ). Meets radius arrived (reading radius w)) changed (read_meets arrived arrived-block radius)

    number : ones mask ≤ radius → said_of radius arrived ≡ accepted (said_with (ones mask) ∷ [])
    number h =
        arrived-meets.says
        ∙ ap (λ (t : Said). accepted (t ∷ []))
        (ap said ((D.demand radius small).number sound mask s.sound-bits s.sound-size s.mask_size h) ∙ said-turned (ones mask) (sent sound))

    back : ones mask ≤ radius → take 44 (handed_on radius arrived) ≡ sound
    back h =
        let r = reading radius (sent sound ⊕ mask) in
        ap (take 44) arrived-meets.hands
        ∙ take-append-le 44 (handed (protected arrived) r) (drop 63 arrived) (omega (arith, length-handed radius small arrived arrived-block r arrived-meets.reads))
        ∙ ap (λ (w : List ℕ). take 44 (handed w r)) changed
        ∙ (D.demand radius small).back sound mask s.sound-bits s.sound-size s.mask_size h

    seen : radius < ones mask → ones mask ≤ caught radius → said_of radius arrived ≡ accepted (bad ∷ [])
    unfolding said
    seen l h =
        arrived-meets.says
        ∙ ap (λ (r : Reading). accepted (said r ∷ [])) ((D.demand radius small).seen sound mask s.sound-bits s.sound-size s.mask_size l h)

pub third_at : (radius : ℕ) → radius ≤ largest_radius → ThirdAt radius (caught radius) (said_of radius) (handed_on radius)
third_at radius small =
    record {
      number = λ sound mask other s. number sound mask other s radius small;
      back = λ sound mask other s. back sound mask other s radius small;
      seen = λ sound mask other s. seen sound mask other s radius small;
      kept = λ sound mask other s l h. bad-hands radius (received sound mask other) (seen sound mask other s radius small l h);
      others = λ sound mask other s. never-changed radius small (received sound mask other) (arrived-block sound mask other s).size ∙ behind sound mask other s;
    }

pub third : Third (said_of ordinary) (handed_on ordinary)
third = third_at ordinary (omega arith)

pub third-wide : ThirdWide (said_of 3) (handed_on 3)
third-wide = third_at 3 (omega arith)

module _ (radius : ℕ) (chosen : is_radius radius ≡ true) (sound mask other : List ℕ) (s : Sent sound mask other) (r : Result BlockRead Refusal) (p : IsRead radius (received sound mask other) r) where
  says : told r ≡ said_of radius (received sound mask other)
  says = p.answer ∙ rw chosen

  hands : stands (received sound mask other) r ≡ handed_on radius (received sound mask other)
  hands = p.bits ∙ rw chosen

  abbrev demand : ThirdAt radius (caught radius) (said_of radius) (handed_on radius)
  demand = third_at radius (chosen-small radius chosen)

  pub comes_back : ones mask ≤ radius → (told r ≡ accepted (said_with (ones mask) ∷ [])) × (take 44 (stands (received sound mask other) r) ≡ sound) × (drop 63 (stands (received sound mask other) r) ≡ other)
  comes_back h = (
    says ∙ demand.number sound mask other s h,
    ap (take 44) hands ∙ demand.back sound mask other s h,
    ap (drop 63) hands ∙ demand.others sound mask other s,
  )

  pub marked-bad : radius < ones mask → ones mask ≤ caught radius → (told r ≡ accepted (bad ∷ [])) × (stands (received sound mask other) r ≡ received sound mask other)
  marked-bad l h = (says ∙ demand.seen sound mask other s l h, hands ∙ demand.kept sound mask other s l h)
