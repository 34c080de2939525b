use Rattle.std.proofs.Common.{refl}
use Rattle.ss_elem.proofs.KeyOrder.{compare_texts}
use Rattle.ss_elem.proofs.key_order.key_order_is_text_order.Goals as goal

pub returns : goal.returns
returns c = record { texts = compare_texts; numbers = λ x y hx hy. refl }
