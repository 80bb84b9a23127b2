-- Two runs that are told apart by the scale word of one programme alone (document 01, "Numbers given", number 5). Programmes count from 1.
--     OffProgramme q l l'       two sets of factors that agree but for the two channels of programme q
--     Alike P R s s'            two states, their first sets related by P and their second by R; all else is the same, the totals too
--     LentAlike k k'            two calls at the same radius that were lent the same lists
--     with_fresh r               an answer with a fresh state for its next one
--     SameAnswer r r'           two answers that differ, if at all, in their next states
--     TakenBut q t t', AnswerBut q r r'     what is handed out, and two answers, that differ in the number, the factors and the places of programme q, and in their next states
--     SoundBut q k k'           two calls that leave the same samples and marks, but for the two channels of programme q
use Rattle.std.specs.Prelude.{ℕ, ◌+◌, ◌-◌, ◌*◌, ◌/◌, ◌<◌, ◌≡◌, ◌≢◌, List, pos, get_or, Result, Ok, Err}
use Rattle.superframe.specs.State.{fresh_state, state_in_range}
use Rattle.superframe.specs.Take.{number_told, handed}
use Rattle.superframe.specs.declared.state.State.{State}
use Rattle.superframe.specs.declared.taking.Taken.{Taken}
use Rattle.superframe.specs.declared.taking.NotTaken.{NotTaken}
use Rattle.history.specs.Calls.{Call}

pub record OffProgramme (q : ℕ) (l l' : List ℕ) : Type 0 where
  pub same : (c : ℕ) → c < 32 → c / 2 ≢ q - 1 → get_or l c 0 ≡ get_or l' c 0

pub record Alike (P R : List ℕ → List ℕ → Type 0) (s s' : State) : Type 0 where
  pub next : P s.next s'.next
  pub after : R s.after s'.after
  pub service : s.service ≡ s'.service
  pub totals : s.totals ≡ s'.totals
  pub range : state_in_range s ≡ state_in_range s'

pub record LentAlike {s s' : State} (k : Call s) (k' : Call s') : Type 0 where
  pub radius : k.radius ≡ k'.radius
  pub samples : k.lent-samples ≡ k'.lent-samples
  pub marks : k.lent-marks ≡ k'.lent-marks

abbrev pub with_fresh : Result Taken NotTaken → Result Taken NotTaken
with_fresh (Ok t) =
    Ok (record {
      next = fresh_state;
      wrong = t.wrong;
      blocks = t.blocks;
      programmes = t.programmes;
      six = t.six;
      position = t.position;
      kind = t.kind;
      labels = t.labels;
    })
with_fresh (Err e) = Err (record { why = e.why; next = fresh_state })

abbrev pub SameAnswer : Result Taken NotTaken → Result Taken NotTaken → Type 0
SameAnswer r r' = with_fresh r ≡ with_fresh r'

pub record TakenBut (q : ℕ) (t t' : Taken) : Type 0 where
  pub wrong : t.wrong ≡ t'.wrong
  pub blocks : t.blocks ≡ t'.blocks
  pub words : t.programmes.words ≡ t'.programmes.words
  pub numbers : (p : ℕ) → p < 16 → p ≢ q - 1 → get_or t.programmes.numbers p 0 ≡ get_or t'.programmes.numbers p 0
  pub factors : OffProgramme q t.programmes.factors t'.programmes.factors
  pub places : (p : ℕ) → p < 16 → p ≢ q - 1 → get_or t.programmes.places p 0 ≡ get_or t'.programmes.places p 0
  pub six : t.six ≡ t'.six
  pub position : t.position ≡ t'.position
  pub kind : t.kind ≡ t'.kind
  pub labels : t.labels ≡ t'.labels

pub record AnswerBut (q : ℕ) (r r' : Result Taken NotTaken) : Type 0 where
  pub number : number_told r ≡ number_told r'
  pub handed-out : TakenBut q (handed r) (handed r')

pub record SoundBut (q : ℕ) {s s' : State} (k : Call s) (k' : Call s') : Type 0 where
  pub samples : (f c : ℕ) → f < 64 → c < 32 → c / 2 ≢ q - 1 → get_or k.samples (32 * f + c) (pos 0) ≡ get_or k'.samples (32 * f + c) (pos 0)
  pub marks : (f c : ℕ) → f < 64 → c < 32 → c / 2 ≢ q - 1 → get_or k.marks (32 * f + c) 0 ≡ get_or k'.marks (32 * f + c) 0
