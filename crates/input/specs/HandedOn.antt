-- What a reader of superframes hands on.
--     HandedOn step a f k g     the calls at the places from a on, up to k, one after the other, took f to g
use Rattle.std.specs.Prelude.{ℕ, ◌+◌}

pub data HandedOn {F : Type 0} (step : F → ℕ → F → Type 0) (a : ℕ) (f : F) : ℕ → F → Type 0 where
  none : HandedOn step a f a f
  next : {k : ℕ} {g h : F} → HandedOn step a f k g → step g k h → HandedOn step a f (k + 1) h
