-- One outcome: any two that the contract of a pointer write permits are the same controller. Here, so that a contract that says less is refused
-- beside it. Assumes nothing.
use mathlib.Core.Path.{◌≡◌, sym, ◌∙◌}
use Rattle.call_pointer.proofs.write_pointer.Reads as write

pub write_decided : (κs : _) (a : _) (r s : _) (x y : _) → write.Post κs a r x → write.Post κs a s y → r ≡ s
write_decided κs a r s x y p q = p ∙ sym q
