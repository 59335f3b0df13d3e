-- What the roll's end says, or its refusal.
use Rattle.std.proofs.Common.{subst, List, ℕ, Bor, Ok}
use Rattle.std.proofs.lemmas.Result.{err_from_is_err_and}
use Rattle.roll.specs.Answers.{TrailerAnswerIs}
use Rattle.roll.proofs.FileRules.{trailer_there, trailer_refused}
use Rattle.roll.proofs.read_trailer.Goals as goal

pub returns-in_err-open : goal.returns-in_err-open
returns-in_err-open c = let p = err_from_is_err_and c.from_residual.result c.from_residual.ensures.1 in rw (p.1, p.2) (trailer_refused c.in_err-open.ensures)

pub returns : goal.returns
returns c = subst (λ (file : Bor (List ℕ)). TrailerAnswerIs file.now (Ok c.ending.result)) c.in_ok-open.ensures (trailer_there c.in_ok-open.field-0.accepted c.ending.ensures)
