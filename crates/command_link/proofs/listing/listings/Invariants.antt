use Rattle.std.proofs.Common.{◌≡◌, ◌++◌, drop}
use Rattle.command_link.specs.Link.{listings}
use Rattle.command_link.proofs.listing.listings.Given as goal

abbrev pub invariant-loop-module : goal.invariant-loop-module
invariant-loop-module l = l.text.items ++ listings (drop l.module-index l.modules) ≡ listings l.modules
