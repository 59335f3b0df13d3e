-- Each turn puts one number and a space; behind them stands the last number, with a line feed.
-- Assumes nothing.
use Rattle.std.proofs.Common.{◌++◌, ◌∷◌, [], length, ◌-◌, ◌≡◌, take, refl, sym, ap, arith, length-take-le, get_or-take}
use Rattle.lists.proofs.Putting.{puts_part, no_turn, one_turn, all_turns}
use Rattle.text.specs.Text.{decimal}
use Rattle.text.proofs.Spaced.{spaced, line_puts}
use Rattle.text.proofs.put.put_line.Goals as goal

pub loop-n-init : goal.loop-n-init
unfolding spaced
loop-n-init c = no_turn refl

pub loop-n-preserved : goal.loop-n-preserved
unfolding spaced
loop-n-preserved c =
    let ns = c.args.numbers.now in
    let long : length (take (length ns - 1) ns) ≡ length ns - 1 = length-take-le _ _ (omega arith) in
    one_turn c.loop-n.invariant (puts_part c.put_ended-behind.ensures.puts)
    (ap (λ n. spaced ns c.loop-n.n-index ++ (decimal n ++ (32 ∷ []))) (sym (get_or-take (length ns - 1) ns c.loop-n.n-index 0 (omega arith))))
    (omega (arith, c.put_ended-behind.ensures.upper_bound)) (omega arith)

pub returns-clause-puts : goal.returns-clause-puts
returns-clause-puts c =
    let ns = c.args.numbers.now in
    let long : length (take (length ns - 1) ns) ≡ length ns - 1 = length-take-le _ _ (omega arith) in
    line_puts _ (omega arith) (all_turns (omega arith) (omega arith) c.loop-n.invariant) (puts_part c.put_ended.ensures.puts)
