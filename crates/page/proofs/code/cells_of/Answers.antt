use Rattle.std.proofs.Common.{rules, ◌∙◌}
use Rattle.basics.proofs.Made.{table_made}
use Rattle.page.proofs.Codes.{code_listed}
use Rattle.page.proofs.code.cells_of.Goals as goal

pub returns : goal.returns
returns c = let a = c.args in
    table_made _ _ _ c.from_fn.result 40 c.from_fn.ensures.items
    (λ x code q l call. (
      call.met.1
          ∙ code_listed a.page.now.memory.now a.z a.y x _ _ _ _ _ _ c.block.ensures c.block-2.ensures c.block-3.ensures c.bytes_at-c.ensures c.bytes_at-b.ensures
          c.bytes_at-a.ensures l,
      search rules,
    ))
