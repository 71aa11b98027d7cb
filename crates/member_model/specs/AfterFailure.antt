-- What may stand when a read failed in a call: nothing has changed, or the call was carried out down to some segment
-- of the path (this project's profile).
use Rattle.std.specs.Prelude.{◌≡◌, ◌⊎◌, ℕ, ◌+◌, true, false, not, ◌&&◌, ◌==◌, List, filter, find, unwrap_or}
use Rattle.std.specs.List.{list_any}
use Rattle.linking_model.specs.Tree.{is_in}
use Rattle.linking_model.specs.Run.{Storage, Piece, with_piece}
use Rattle.member_model.specs.Facts.{Field}
use Rattle.member_model.specs.Fetched.{Fetched}
use Rattle.member_model.specs.Segments.{parent_in, is_resident, path_in, note}
use Rattle.member_model.specs.Calling.{State, call_down_to}

-- at each address both have the same byte
abbrev pub SameBytes : Storage → Storage → Type 0
SameBytes M N = (a : ℕ) → M a ≡ N a

-- the relocation items of resident segments
abbrev pub resident_fields : Fetched → State → List Field
resident_fields m S = filter (λ x. is_resident m S.storage x.segment) S.fields

-- the same bytes, and the same relocation items where these count
abbrev pub Alike : Fetched → State → State → Type 0
Alike m S T = SameBytes S.storage T.storage × (resident_fields m S ≡ resident_fields m T)

-- u is on the path of t, above it, and no resident segment of that path is below u
pub record IsReached (m : Fetched) (S : State) (t u : ℕ) : Type 0 where
  pub above : (is_in u (path_in m S.storage t) && not (u == t)) ≡ true
  pub below : list_any (λ s. is_resident m S.storage s && not (is_in s (path_in m S.storage u))) (path_in m S.storage t) ≡ false

-- the segment of the path of t that is next below u
abbrev pub child_of : Fetched → Storage → ℕ → ℕ → ℕ
child_of m M t u = unwrap_or (find (λ s. parent_in m M s == u) (path_in m M t)) t

-- zeros on the range of segment s
abbrev pub cleared_piece : Fetched → ℕ → Piece
cleared_piece m s = record { at = m.at + (note m s).origin; count = (note m s).length; byte = λ _. 0 }

-- the call into t was carried out down to u, and the range of the next segment is zero
abbrev pub called_as_far_as : Fetched → State → ℕ → ℕ → State
called_as_far_as m S t u =
    let after = call_down_to m S t u in
    record after { storage = with_piece after.storage (cleared_piece m (child_of m S.storage t u)) }

-- the state T after a read that failed in a call into t, in state S
abbrev pub StandsAfterFailure : Fetched → State → ℕ → State → Type 0
StandsAfterFailure m S t T =
    Alike m T S ⊎ ((u : ℕ) × IsReached m S t u × Alike m T (called_as_far_as m S t u))
