-- The law of members and runs together: a written member stands for its program (this project's profile).
use Rattle.std.specs.Prelude.{ℕ, ◌≤◌, Bool, length}
use Rattle.linking_model.specs.Places.{Laid}
use Rattle.member_model.specs.StandsFor.{StandsFor}
use Rattle.member_model.specs.Written.{Naming, written_bytes, member_written}
use Rattle.member_laws.specs.Linkable.{IsLinkable, IsFormat, IsNamedFor}
use Rattle.run_laws.specs.Answers.{IsRunnable}
use Rattle.run_laws.specs.Grown.{IsGrown}
use Rattle.run_laws.specs.Starts.{most_records}

-- of a program that can be linked and run, over a tree of statements, a member of at most so many records stands for it:
-- it is good, and wherever it may be placed it has what the program has there, starts, and runs as the program does
abbrev pub WrittenMembersStandForPrograms : Type 0
WrittenMembersStandForPrograms =
    (P : Laid) (scatter : Bool) (n : ℕ) (who : Naming) → IsLinkable P → IsGrown P.tree → IsRunnable P → IsFormat P scatter n
    → IsNamedFor P who → length (written_bytes P scatter n) ≤ most_records
    → StandsFor P scatter who (member_written P scatter n who)
