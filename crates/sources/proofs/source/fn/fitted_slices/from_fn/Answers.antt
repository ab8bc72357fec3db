use Rattle.sources.proofs.SliceSources.{slice_place, slice_fits}
use Rattle.sources.proofs.source.fn.fitted_slices.from_fn.Goals as goal

pub bounds-memory-place_at : goal.bounds-memory-place_at
bounds-memory-place_at c =
    slice_fits c.captures.memory.now c.captures.c c.args.n c.captures.z _ (slice_place _ _ _ _ c.place_at.ensures) c.requires.0 c.requires.1
