-- The forms of fields.
use Rattle.std.proofs.lemmas.Grind.{common_steps}
use Rattle.std.proofs.Common.{◌≡◌, ℕ, List, Some, None, Option, arith}
use Rattle.reading.specs.Numbers.{number_up_to}
use Rattle.reading.specs.Pieces.{halves}
use Rattle.reading.proofs.Numerals.{none_if_empty}
use Rattle.rules.specs.declared.literal.Literal.{Literal}
use Rattle.statements.specs.Forms.{both, pair_of}

-- the pair of two halves, if there are two
abbrev pub paired : Option (List ℕ × List ℕ) → Option Literal
paired None = None
paired (Some p) = both (number_up_to 255 p.0) (number_up_to 255 p.1)

pub paired_is : (f : List ℕ) (o : Option (List ℕ × List ℕ)) → o ≡ halves 61 f → paired o ≡ pair_of f
unfolding pair_of
paired_is f o e = grind (arith, common_steps, none_if_empty)
