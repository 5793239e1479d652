-- What a byte does to a sink.
use Rattle.std.specs.Prelude.{ℕ, ◌+◌, ◌-◌, ◌^◌, true, cond, length, min, nat_lt, set}
use Rattle.writing.specs.declared.counter.Counter.{Counter}
use Rattle.writing.specs.declared.filler.Filler.{Filler}

-- a counter counts one more, up to the largest number
abbrev pub counted : Counter → ℕ → Counter
counted c byte = record { count = min (c.count + 1) (2 ^ 64 - 1) }

-- a filler has the byte at its place and goes on behind it; or the buffer ends there, and it says that a byte was lost
abbrev pub stored : Filler → ℕ → Filler
stored f byte = cond (nat_lt f.at (length f.buffer.now)) record f { at = f.at + 1; buffer = record f.buffer { now = set f.buffer.now f.at byte } } record f { full = true }
