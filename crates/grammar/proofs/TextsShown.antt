-- Each text, by computing.
use Rattle.std.proofs.Common.{refl}
use Rattle.std.specs.Fmt.{digits}
use Rattle.rendering.specs.Texts.{choice_line, decision_line, fault_line, outcome_text, pair_text, parts_line}
use Rattle.grammar.specs.Written.{AllWritten, FillsShown, TextsShown}

texts_shown : TextsShown
unfolding digits pair_text decision_line parts_line fault_line choice_line outcome_text
texts_shown =
    record {
      book = refl;
      nothing = refl;
      text_fault = refl;
      rule_fault = refl;
      planner_fault = refl;
      settled = refl;
      held = refl;
      unheld = refl;
      none = refl;
      lines = refl;
    }

fills_shown : FillsShown
fills_shown = record { longer = refl; longer_count = refl; as_long = refl; as_long_count = refl; shorter = refl; shorter_count = refl }

pub all_written : AllWritten
all_written = record { texts = texts_shown; fills = fills_shown }
