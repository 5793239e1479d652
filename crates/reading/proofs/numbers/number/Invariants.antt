use Rattle.std.proofs.Common.{◌≡◌, ◌≤◌, drop}
use Rattle.std.specs.Str.{all_ascii_digits}
use Rattle.reading.specs.Numbers.{value, value_from}
use Rattle.reading.proofs.numbers.number.Given as goal

abbrev pub invariant-loop-byte : goal.invariant-loop-byte
invariant-loop-byte l = (all_ascii_digits l.text ≡ all_ascii_digits (drop l.byte-index l.text)) × (value l.text ≡ value_from l.number (drop l.byte-index l.text)) × (l.number ≤ l.limit)
