use Rattle.member_walk.proofs.Fetching.{fetch_ends}
use Rattle.member_walk.proofs.laws.fetch_ends.Goals as goal

pub returns : goal.returns
returns c = fetch_ends
