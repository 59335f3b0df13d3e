-- Without a floor there is nothing below P/Q; with one, the paces are compared.
use Rattle.rules.proofs.Floors.{tells_absent, tells_floor, tells_slower}
use Rattle.rules.proofs.floor_below.Goals as goal

pub returns-in-Some : goal.returns-in-Some
returns-in-Some c = tells_floor _ c.in-Some.is (tells_slower _ _ _ _ c.pace_over.ensures c.pace_over-fastest.ensures c.below.ensures)

pub returns-in-None : goal.returns-in-None
returns-in-None c = tells_absent _ c.in-None.is
