-- A point as the definitions of linking speak of it.
use Rattle.linking_model.specs.Points.{Point as Place}
use Rattle.addr_assign.specs.declared.pointing.Point.{Point}

-- the same byte of the same section
abbrev pub seen : Point → Place
seen x = record { section = x.section; offset = x.offset }
