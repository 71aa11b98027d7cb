use Rattle.command_link.proofs.stowing.stow.Goals as goal

pub stow-requires : goal.stow-requires
stow-requires c = c.requires.stowable c.args.library.now c.requires.kind
