use Rattle.pixels.proofs.Heights.{underlined_where}
use Rattle.pixels.proofs.height.is_underlined_on.Goals as goal

pub returns-then-b : goal.returns-then-b
returns-then-b c = underlined_where _ _ _ _ _ c.in-Bichrome.is c.if-b.true c.bichrome_slice.ensures
