use Rattle.std.proofs.Common.{◌≡◌, All, map, drop, string_bytes}
use Rattle.le_io.specs.Counts.{NoneFalls, NoFault, WhereTold}
use Rattle.command_sets.specs.Sets.{set_at, sets_in, sets_of}
use Rattle.command_sets.specs.Reading.{IsReadSet}
use Rattle.command_sets.proofs.SetsRead.{onto}
use Rattle.command_sets.proofs.reading.read_sets.Given as goal

abbrev pub invariant-loop-word : goal.invariant-loop-word
invariant-loop-word g l =
    WhereTold (g.S.Store.told l.fn.store)
    (λ files. onto l.sets (sets_in (set_at (map string_bytes l.request.words.now) files) (map string_bytes (drop l.word-index l.word-items))) ≡ sets_of (map string_bytes l.request.words.now) files)
    × All (IsReadSet (map string_bytes l.request.words.now)) l.sets
    × (g.S.Store.told l.store ≡ g.S.Store.told l.fn.store)
    × NoneFalls (g.S.Store.counts l.fn.store) (g.S.Store.counts l.store)
    × NoFault (g.S.Store.counts l.fn.store) (g.S.Store.counts l.store)
