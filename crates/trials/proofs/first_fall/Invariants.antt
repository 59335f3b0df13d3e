-- A scan, from the second number on: no place before i is a fall.
use Rattle.std.proofs.Common.{get_or}
use Rattle.trials.specs.Rules.{Falls}
use Rattle.trials.proofs.Scanning.{Scanned}
use Rattle.trials.proofs.first_fall.Given as goal

abbrev pub invariant-loop-i : goal.invariant-loop-i
invariant-loop-i l = Scanned (Falls (λ k. get_or l.xs k 0)) l.i
