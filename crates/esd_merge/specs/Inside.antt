-- What holds of the modules that were read and their index.
use Rattle.std.specs.Prelude.{◌≡◌, map}
use Rattle.esd_index.specs.Contents.{now_of, marked_of}
use Rattle.esd_lists.specs.Indexed.{content_of}
use Rattle.esd_lists.specs.Held.{as_read, AreMarked}
use Rattle.esd_merge.specs.declared.merged.Merged.TheInside.{Inside}
use Rattle.esd_merge.specs.Added.{IsMerged}

-- the modules merge, the index says of them what the definitions say, also where it was marked, and the marks of each module are right
pub record IsHeld (m : Inside) : Type 0 where
  pub merged : IsMerged (map as_read m.reads.items)
  pub indexed : now_of m.index ≡ content_of (map as_read m.reads.items)
  pub saved : marked_of m.index ≡ content_of (map as_read m.reads.items)
  pub marked : AreMarked (map as_read m.reads.items) m.reads.items
