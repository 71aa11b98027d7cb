use Rattle.member_walk.proofs.Fetching.{fetch_meets_faults}
use Rattle.member_walk.proofs.laws.fetch_meets_faults.Goals as goal

pub returns : goal.returns
returns c = fetch_meets_faults
