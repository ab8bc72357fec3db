use Rattle.keys.proofs.Characters.{keys_made}
use Rattle.keys.proofs.key.keys_of.Goals as goal

pub returns : goal.returns
returns c = let s = c.args in
    keys_made s.shown s.x s.y _ _ _ _ _ _ _ _ _ _ c.is_one.ensures c.key_if.ensures c.is_one-2.ensures c.key_if-2.ensures c.is_one-3.ensures c.key_if-3.ensures c.quad_key.ensures c.quad_key-2.ensures c.quad_key-3.ensures
