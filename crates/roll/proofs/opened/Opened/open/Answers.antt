-- Rule 10, and then the rules of the trailer.
use Rattle.std.proofs.lemmas.Result.{err_from_is_err_and}
use Rattle.roll.proofs.Marking.{not_short}
use Rattle.roll.proofs.FileRules.{first_tried, too_short, long_enough, refused_trailer, passed_trailer}
use Rattle.roll.proofs.opened.Opened.open.Goals as goal

pub returns-in_err-refuse_if : goal.returns-in_err-refuse_if
returns-in_err-refuse_if c =
    let p = err_from_is_err_and c.from_residual.result c.from_residual.ensures.1 in
    rw (p.1, p.2) (too_short _ (first_tried _ c.refuse_if.ensures c.short.ensures) c.in_err-refuse_if.was)

pub invariant_of-roll : goal.invariant_of-roll
invariant_of-roll c = record { long = (not_short _ (long_enough _ (first_tried _ c.refuse_if.ensures c.short.ensures) c.in_ok-refuse_if.was)).1 }

pub returns-in_err-trailer_rules : goal.returns-in_err-trailer_rules
returns-in_err-trailer_rules c =
    let p = err_from_is_err_and c.from_residual-in_err-trailer_rules.result c.from_residual-in_err-trailer_rules.ensures.1 in
    rw (p.1, p.2) (refused_trailer _ (first_tried _ c.refuse_if.ensures c.short.ensures) c.in_ok-refuse_if.was c.trailer_rules.ensures c.in_err-trailer_rules.was)

pub invariant_of-result : goal.invariant_of-result
invariant_of-result c = record { accepted = passed_trailer _ (first_tried _ c.refuse_if.ensures c.short.ensures) c.in_ok-refuse_if.was c.trailer_rules.ensures c.in_ok-trailer_rules.was }
