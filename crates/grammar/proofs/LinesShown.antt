-- Each tricky line, by computing.
use Rattle.std.proofs.Common.{refl}
use Rattle.reading.specs.Numbers.{number_up_to}
use Rattle.reading.specs.Pieces.{pieces}
use Rattle.statements.specs.Fields.{first_bad}
use Rattle.statements.specs.Forms.{pair_of}
use Rattle.statements.specs.Statements.{read_activate, read_decision, read_forbid, read_line, read_pairs, read_price}
use Rattle.grammar.specs.Shown.{TrickyLines, LinesRead, KindsShown, CountsShown, FormsShown, PairsShown}

lines_read : LinesRead
unfolding first_bad number_up_to pair_of pieces read_activate read_decision read_forbid read_line read_pairs read_price
lines_read = record { decision = refl; forbid = refl; activate = refl; price = refl }

kinds_shown : KindsShown
unfolding first_bad number_up_to pair_of pieces read_activate read_decision read_forbid read_line read_pairs read_price
kinds_shown = record { empty = refl; spaceless = refl; lower_case = refl; late = refl; late_spaceless = refl }

counts_shown : CountsShown
unfolding first_bad number_up_to pair_of pieces read_activate read_decision read_forbid read_line read_pairs read_price
counts_shown = record { nothing = refl; trailing_space = refl; two_spaces = refl; missing = refl; missing_mark = refl; too_many = refl; endless = refl; before_forms = refl }

forms_shown : FormsShown
unfolding first_bad number_up_to pair_of pieces read_activate read_decision read_forbid read_line read_pairs read_price
forms_shown = record { leading_zero = refl; zero = refl; large = refl; mark = refl; two_signs = refl; leftmost = refl; large_cents = refl; behind_target = refl; behind_cents = refl }

pairs_shown : PairsShown
unfolding first_bad number_up_to pair_of pieces read_activate read_decision read_forbid read_line read_pairs read_price
pairs_shown = record { none = refl; five = refl; after_forms = refl }

pub tricky_lines : TrickyLines
tricky_lines = record { read = lines_read; kinds = kinds_shown; counts = counts_shown; forms = forms_shown; pairs = pairs_shown }
