-- Without a floor there is nothing wrong with one; with one, R and T are looked at.
use Rattle.rules.proofs.Floors.{tells_absent, tells_floor}
use Rattle.rules.proofs.bad_floor.Goals as goal

pub returns-in-Some : goal.returns-in-Some
returns-in-Some c = tells_floor _ c.in-Some.is c.bad_pace.ensures

pub returns-in-None : goal.returns-in-None
returns-in-None c = tells_absent _ c.in-None.is
