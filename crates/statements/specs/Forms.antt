-- The forms of a field: a number, a mark word, a pair.
use Rattle.std.specs.Prelude.{◌≡◌, ℕ, ◌+◌, Bool, true, false, cond, List, [], take, drop, Some, None, codes, Option, refl}
use Rattle.std.specs.Str.{bytes_eq}
use Rattle.reading.specs.Numbers.{number_up_to}
use Rattle.reading.specs.Pieces.{before}
use Rattle.rules.specs.declared.literal.Literal.{Literal}

-- the mark that a word stands for: on or off
abbrev pub mark_of : List ℕ → Option Bool
mark_of f = cond (bytes_eq (codes "on") f) (Some true) (cond (bytes_eq (codes "off") f) (Some false) None)

-- two numbers as a pair, if both are there
abbrev pub both : Option ℕ → Option ℕ → Option Literal
both None v = None
both (Some d) None = None
both (Some d) (Some v) = Some (record { decision = d; value = v })

-- the pair that a field is: numbers up to 255 before and behind its first equals sign
unfoldable pub pair_of : List ℕ → Option Literal
pair_of f = both (number_up_to 255 (take (before 61 f) f)) (number_up_to 255 (drop (before 61 f + 1) f))

-- nothing is no number and no pair
pub nothing_is_no_number : (limit : ℕ) → number_up_to limit [] ≡ None
unfolding number_up_to
nothing_is_no_number limit = refl

pub nothing_is_no_pair : pair_of [] ≡ None
unfolding pair_of number_up_to
nothing_is_no_pair = refl
