use Rattle.picture.proofs.Redrawing.{redrawn_none}
use Rattle.picture.proofs.redraw.redraw.Goals as goal

pub returns-then-not-some_marked : goal.returns-then-not-some_marked
returns-then-not-some_marked c = redrawn_none _ _ c.args.scene.now.page.memory.now c.args.scene.now.rom.now c.args.scene.now.page.shown _ c.some_marked.ensures c.if-not-some_marked.true c.requires
