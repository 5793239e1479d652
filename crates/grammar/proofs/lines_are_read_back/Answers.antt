use Rattle.grammar.proofs.Lines.{reads_only_text, text_is_read}
use Rattle.grammar.proofs.lines_are_read_back.Goals as goal

pub returns : goal.returns
returns c = record { only = reads_only_text; back = text_is_read }
