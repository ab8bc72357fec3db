use Rattle.binturamis.proofs.way.unpacked_full.Goals as goal

pub unpacked_as-requires : goal.unpacked_as-requires
unpacked_as-requires c = (rw c.requires, rw c.requires, rw c.requires)
