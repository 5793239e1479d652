use Rattle.account.proofs.WorkedShown.{all_shown}
use Rattle.account.proofs.worked_cases.Goals as goal

pub returns : goal.returns
returns c = all_shown
