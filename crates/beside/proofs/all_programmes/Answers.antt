-- `beside::all_programmes` meets its contract. Assumes nothing.
use mathlib.Core.Path.{◌≡◌, ap, ◌∙◌}
use mathlib.Core.List.{List}
use Prim.Native.Nat.{ℕ, ◌/◌, ◌%◌, ◌<◌}
use native.Mathlib.Omega.{arith}
use lib.ListN.{get_or}
use Rattle.std.specs.declared.option.Option.TheVariants.{None}
use Rattle.bits.specs.Table.{tabulate}
use Rattle.bits.proofs.Made.{made}
use Rattle.bits.proofs.Table.{get_or-tab, tab-ext}
use Rattle.nearest.specs.declared.Extra.{Extra}
use Rattle.beside.specs.Beside.{extra_of, number_of_factors, places_of_factors, factor_or, factor_read, number_at, places_at, word_at, programmes_of}
use borrow.Author.Rules.{rules}
use Rattle.beside.proofs.all_programmes.Goals as goal

none : Extra
none = record { factors = None; word = 0 }

pub returns : goal.returns
unfolding programmes_of factor_read none
returns c =
    let sf = c.args.sf.now in
    let extras : List Extra = c.from_fn-extras.result in
    let all : extras ≡ tabulate 16 (extra_of sf) = made _ (extra_of sf) _ 16 _ none c.from_fn-extras.ensures.items (λ q y p h k. search rules) in
    let at : (q : ℕ) → q < 16 → get_or extras q none ≡ extra_of sf q = λ q h. ap (λ (l : List Extra). get_or l q none) all ∙ get_or-tab 16 (extra_of sf) q none h in
    rw (
      made _ (λ q. number_of_factors (get_or extras q none).factors) _ 16 _ 0 c.from_fn.ensures.items (λ q y p h k. search rules)
          ∙ tab-ext 16 (λ q. number_of_factors (get_or extras q none).factors) (number_at sf) (λ q h. ap (λ (x : Extra). number_of_factors x.factors) (at q h)),
      made _ (λ i. factor_or (get_or extras (i / 2) none).factors (i % 2)) _ 32 _ 0 c.from_fn-2.ensures.items (λ i y p h k. search rules)
          ∙ tab-ext 32 (λ i. factor_or (get_or extras (i / 2) none).factors (i % 2)) (factor_read sf) (λ i h. ap (λ (x : Extra). factor_or x.factors (i % 2)) (at (i / 2) (omega arith))),
      made _ (λ q. places_of_factors (get_or extras q none).factors) _ 16 _ 0 c.from_fn-3.ensures.items (λ q y p h k. search rules)
          ∙ tab-ext 16 (λ q. places_of_factors (get_or extras q none).factors) (places_at sf) (λ q h. ap (λ (x : Extra). places_of_factors x.factors) (at q h)),
      made _ (λ q. (get_or extras q none).word) _ 16 _ 0 c.from_fn-4.ensures.items (λ q y p h k. search rules)
          ∙ tab-ext 16 (λ q. (get_or extras q none).word) (word_at sf) (λ q h. ap (λ (x : Extra). x.word) (at q h)),
    )
