use Rattle.halves.proofs.half.+lower_halves.Given as goal

abbrev pub decreases-lower_halves : goal.decreases-lower_halves
decreases-lower_halves l = l.row
