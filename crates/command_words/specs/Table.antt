-- The commands, and the keys that each of them takes.
use Rattle.std.specs.Prelude.{ℕ, Bool, true, false, ◌&&◌, ◌||◌, not, if◌then◌else◌, List, [], ◌∷◌, Option, Some, None, codes}
use Rattle.std.specs.Str.{bytes_eq}
use Rattle.std.specs.List.{list_any}
use Rattle.le_bytes.specs.Names.{name_eq}
use Rattle.le_bytes.specs.declared.name.Name.{Name}
use Rattle.command_words.specs.Keys.{parm, member, origin, areas, syslin, syslmod, syslib, syspunch, events, newlmod, tasks, is_reserved}
use Rattle.command_words.specs.declared.command.Command.{Command}
use Rattle.command_words.specs.declared.command.Command.TheVariants.{Link, Go, List as ListCommand, Fetch, Replay, Gen, Migrate, Ldr, Ahead, Tasks}

-- the command that a word names
unfoldable pub command_named : List ℕ → Option Command
command_named word =
    if bytes_eq word (codes "link") then Some Link
    else if bytes_eq word (codes "go") then Some Go
    else if bytes_eq word (codes "list") then Some ListCommand
    else if bytes_eq word (codes "fetch") then Some Fetch
    else if bytes_eq word (codes "replay") then Some Replay
    else if bytes_eq word (codes "gen") then Some Gen
    else if bytes_eq word (codes "migrate") then Some Migrate
    else if bytes_eq word (codes "ldr") then Some Ldr
    else if bytes_eq word (codes "ahead") then Some Ahead
    else if bytes_eq word (codes "tasks") then Some Tasks
    else None

-- the keys that a command asks for
abbrev pub required_of : Command → List Name
required_of Link = syslin ∷ syslmod ∷ []
required_of Go = syslin ∷ []
required_of ListCommand = syslmod ∷ []
required_of Fetch = syslmod ∷ member ∷ []
required_of Replay = syslmod ∷ member ∷ events ∷ []
required_of Gen = parm ∷ []
required_of Migrate = syslmod ∷ newlmod ∷ []
required_of Ldr = syslin ∷ []
required_of Ahead = syslmod ∷ member ∷ events ∷ []
required_of Tasks = syslmod ∷ tasks ∷ areas ∷ []

-- the other keys that it knows
abbrev pub optional_of : Command → List Name
optional_of Link = parm ∷ member ∷ []
optional_of Go = syslmod ∷ parm ∷ member ∷ origin ∷ areas ∷ events ∷ []
optional_of ListCommand = member ∷ syspunch ∷ []
optional_of Fetch = origin ∷ areas ∷ []
optional_of Replay = origin ∷ areas ∷ []
optional_of Gen = []
optional_of Migrate = []
optional_of Ldr = syslib ∷ origin ∷ parm ∷ []
optional_of Ahead = origin ∷ areas ∷ []
optional_of Tasks = []

-- it takes every data definition name
abbrev pub takes_any : Command → Bool
takes_any Link = true
takes_any Go = true
takes_any _ = false

-- the command has a use for the key
abbrev pub is_used : Command → Name → Bool
is_used command key =
    list_any (λ known. name_eq known key) (required_of command)
    || (list_any (λ known. name_eq known key) (optional_of command) || (takes_any command && not (is_reserved key)))
