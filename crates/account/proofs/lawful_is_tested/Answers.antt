use Rattle.rules.proofs.Lawfulness.{lawful_from_test, test_from_lawful}
use Rattle.account.proofs.lawful_is_tested.Goals as goal

pub returns : goal.returns
returns c b p known idle = (lawful_from_test b p known idle, test_from_lawful b p known)
