use Rattle.pixels.proofs.Attributes.{flash_told}
use Rattle.pixels.proofs.pairs.flash.Goals as goal

pub returns : goal.returns
returns c = flash_told c.args.cell c.args.shown c.args.bit _ c.differs-differs.ensures
