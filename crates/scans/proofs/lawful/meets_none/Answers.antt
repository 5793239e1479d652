use Rattle.rules.specs.Conditions.{from_bytes}
use Rattle.scans.proofs.Fits.{found_none}
use Rattle.scans.proofs.lawful.meets_none.Goals as goal

pub returns : goal.returns
returns c = found_none _ c.first_met.result c.is_none.result c.args.rows.now (from_bytes c.args.plan.now) c.is_none.ensures c.first_met.ensures
