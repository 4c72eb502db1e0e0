use Rattle.chain.proofs.CodeLaws.{register_loads}
use Rattle.chain.proofs.load_entry.Goals as goal

pub returns : goal.returns
returns c = let a = c.args in register_loads a.e a.p a.w a.c _ c.is_chain_address.ensures _ _ _ _ c.if-is_chain_address.false c.advance-on.ensures c.load.ensures c.after_register.ensures
