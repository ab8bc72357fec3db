use mathlib.Core.Path.{◌≡◌, ◌∙◌}
use mathlib.Core.List.{map}
use lib.ListN.{length}
use borrow.Author.Rules.{rules}
use Rattle.std.proofs.lemmas.Slice.{put_mid-paste}
use Rattle.basics.proofs.Made.{table_made}
use Rattle.basics.specs.Choice.{one_if}
use Rattle.packing.proofs.Parts.{ones_made}
use Rattle.packing.proofs.part.put_marks.Goals as goal

pub returns : goal.returns
returns c = let a = c.args in
    let n : length a.marks ≡ 25 = search rules in
    let made : c.from_fn-ones.result ≡ map one_if a.marks = table_made _ _ _ c.from_fn-ones.result 25 c.from_fn-ones.ensures.items (λ r x q l call. search rules) ∙ ones_made 25 a.marks n in
    search (put_mid-paste, rules)
