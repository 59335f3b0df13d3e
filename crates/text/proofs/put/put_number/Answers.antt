-- The digits are the number in decimal.
-- Assumes nothing.
use Rattle.lists.proofs.Putting.{puts_as}
use Rattle.text.proofs.Decimal.{digits_decimal}
use Rattle.text.proofs.put.put_number.Goals as goal

pub returns-clause-puts : goal.returns-clause-puts
returns-clause-puts c = puts_as (digits_decimal _ _ _ c.decimal-k.ensures.len c.decimal-k.ensures.digits) c.put.ensures
