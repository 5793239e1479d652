-- The word for each state.
use Rattle.std.specs.Prelude.{ℕ, List, codes}
use Rattle.account.specs.declared.state.State.{State}
use Rattle.account.specs.declared.state.State.TheVariants.{Open, Settled}

abbrev pub state_word : State → List ℕ
state_word Open = codes "open"
state_word Settled = codes "settled"
