use Rattle.sb_checkpoint.proofs.keeper.Keeper.keep.Goals as goal

pub returns-in-Mark : goal.returns-in-Mark
returns-in-Mark c = rw (c.in-Mark.is, ← c.self.view_is) c.mark.ensures
