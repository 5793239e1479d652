use Rattle.grammar.proofs.LinesShown.{tricky_lines}
use Rattle.grammar.proofs.tricky_lines.Goals as goal

pub returns : goal.returns
returns c = tricky_lines
