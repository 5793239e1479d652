use Rattle.grammar.proofs.Texts.{lines_of_text, text_of_lines}
use Rattle.grammar.proofs.texts_are_lines.Goals as goal

pub returns : goal.returns
returns c = record { lines = lines_of_text; text = text_of_lines }
