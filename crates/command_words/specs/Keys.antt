-- The keys that some command knows by name.
use Rattle.std.specs.Prelude.{ℕ, List, unwrap_or, codes, ◌||◌, Bool}
use Rattle.le_bytes.specs.Names.{name_of_text, blank_bytes, name_eq}
use Rattle.le_bytes.specs.declared.name.Name.{Name}

-- the name that a text gives
abbrev pub named : List ℕ → Name
named text = unwrap_or (name_of_text text) (record { 0 = blank_bytes })

abbrev pub parm : Name
parm = named (codes "PARM")

abbrev pub member : Name
member = named (codes "MEMBER")

abbrev pub origin : Name
origin = named (codes "ORIGIN")

abbrev pub areas : Name
areas = named (codes "AREAS")

abbrev pub syslin : Name
syslin = named (codes "SYSLIN")

abbrev pub syslmod : Name
syslmod = named (codes "SYSLMOD")

abbrev pub syslib : Name
syslib = named (codes "SYSLIB")

abbrev pub syspunch : Name
syspunch = named (codes "SYSPUNCH")

abbrev pub events : Name
events = named (codes "EVENTS")

abbrev pub newlmod : Name
newlmod = named (codes "NEWLMOD")

abbrev pub tasks : Name
tasks = named (codes "TASKS")

abbrev pub tempname : Name
tempname = named (codes "TEMPNAME")

-- the keys that are no data definition names
abbrev pub is_reserved : Name → Bool
is_reserved key = name_eq key parm || name_eq key member || name_eq key origin || name_eq key areas
