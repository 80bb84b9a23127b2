-- `superframe::taking::answered` meets its contract: what is asked of its callers rules out each refusal. Assumes nothing.
use mathlib.Core.Path.{◌≡◌, sym, ap, ◌∙◌}
use mathlib.Core.Bool.{true}
use mathlib.Core.List.{List}
use Prim.Native.Nat.{ℕ}
use Rattle.std.specs.Result.{is_ok}
use Rattle.std.specs.declared.result.Result.{Result}
use Rattle.std.specs.declared.result.Result.TheVariants.{Ok}
use Rattle.bits.specs.declared.refusal.Refusal.{Refusal}
use Rattle.bits.proofs.Refused.{ok_same}
use Rattle.service.specs.Service.{served}
use Rattle.service.specs.declared.Service.{Service}
use Rattle.service.specs.declared.Served.{Served}
use Rattle.beside.specs.Beside.{six_and_sync}
use Rattle.beside.specs.declared.SixAndSync.{SixAndSync}
use Rattle.beside.proofs.Carried.{programmes-given, six-given}
use Rattle.running.specs.Running.{taken_step}
use Rattle.running.proofs.More.{stepped-free}
use Rattle.superframe.specs.State.{state_in_range}
use Rattle.superframe.specs.Take.{served_in, beside_with}
use Rattle.superframe.specs.declared.state.State.{State}
use Rattle.superframe.proofs.Parts.{running-in-range}
use Rattle.superframe.proofs.Served.{accepted-is}
use Rattle.superframe.proofs.taking.answered.Goals as goal

-- what the service answers to the bits that were sent
serves : (s : State) → state_in_range s ≡ true → (sf : List ℕ) (sent : SixAndSync) → sent ≡ six_and_sync sf → (r : Result (Served Service) Refusal) → r ≡ served s.service sent.six sent.sync
    → r ≡ Ok (served_in s sf)
serves s h sf sent e r m = m ∙ ap (λ (v : SixAndSync). served s.service v.six v.sync) e ∙ accepted-is s sf h

pub unwrap-programmes-requires : goal.unwrap-programmes-requires
unwrap-programmes-requires c = ap is_ok (c.programmes_of.ensures ∙ programmes-given _ c.requires.bytes_len)

pub unwrap-sent-requires : goal.unwrap-sent-requires
unwrap-sent-requires c = ap is_ok (c.six_and_sync.ensures ∙ six-given _ c.requires.bytes_len)

pub unwrap-served-requires : goal.unwrap-served-requires
unwrap-served-requires c =
    let sent = ok_same (sym c.unwrap-sent.ensures ∙ c.six_and_sync.ensures ∙ six-given _ c.requires.bytes_len) in
    ap is_ok (serves c.args.state c.requires.state_value c.args.bytes.now _ sent _ c.serve.ensures)

pub unwrap-totals-requires : goal.unwrap-totals-requires
unfolding taken_step
unwrap-totals-requires c =
    let state = c.args.state in
    ap is_ok (c.take.ensures ∙ stepped-free state.totals _ (running-in-range state c.requires.state_value) c.requires.totals_value)

pub returns : goal.returns
unfolding beside_with taken_step
returns c =
    let long = c.requires.bytes_len in
    let programmes = ok_same (sym c.unwrap-programmes.ensures ∙ c.programmes_of.ensures ∙ programmes-given _ long) in
    let state = c.args.state in
    let sent = ok_same (sym c.unwrap-sent.ensures ∙ c.six_and_sync.ensures ∙ six-given _ long) in
    let service = ok_same (sym c.unwrap-served.ensures ∙ serves state c.requires.state_value c.args.bytes.now _ sent _ c.serve.ensures) in
    let totals = ok_same (sym c.unwrap-totals.ensures ∙ c.take.ensures ∙ stepped-free state.totals _ (running-in-range state c.requires.state_value) c.requires.totals_value) in
    rw (sent, service, totals, programmes)
