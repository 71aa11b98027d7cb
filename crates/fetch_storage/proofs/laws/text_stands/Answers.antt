use Rattle.fetch_storage.proofs.Laying.{text_holds}
use Rattle.fetch_storage.proofs.laws.text_stands.Goals as goal

pub returns : goal.returns
returns c = λ symbols p M n a bytes fits suits inside. text_holds symbols p M n a bytes fits suits inside
