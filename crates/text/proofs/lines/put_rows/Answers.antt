-- Each turn puts the line of one row.
-- Assumes nothing.
use Rattle.std.proofs.Common.{◌≡◌, ◌*◌, ◌/◌, ◌++◌, [], drop, length-drop, length, take, get_or, refl, ap, sym, ◌∙◌, arith, length-take-le}
use Rattle.answers.specs.Numbers.{width}
use Rattle.lists.proofs.Putting.{puts_part, no_turn, one_turn, all_turns}
use Rattle.text.specs.Text.{line, row_lines}
use Rattle.text.proofs.Rows.{row_at}
use Rattle.text.proofs.lines.put_rows.Goals as goal

pub loop-row-init : goal.loop-row-init
unfolding row_lines
loop-row-init c = no_turn refl

pub loop-row-preserved : goal.loop-row-preserved
unfolding row_lines
loop-row-preserved c =
    let rows = c.args.rows.now in
    let k = c.loop-row.row-index in
    let long : length (take c.args.blocks c.as_chunks.result.0.now) ≡ c.args.blocks = length-take-le _ _ (omega (arith, c.as_chunks.ensures.front_len)) in
    let row : c.widened.result ≡ take width (drop (width * k) rows) = c.widened.ensures ∙ ap (λ l. get_or (take c.args.blocks l) k []) c.as_chunks.ensures.front ∙ row_at width (length rows / width) rows c.args.blocks k (omega arith) (omega arith) in
    let long_row : length c.widened.result ≡ width = ap length row ∙ length-take-le width (drop (width * k) rows) (omega (arith, length-drop (width * k) rows)) in
    one_turn c.loop-row.invariant (puts_part c.put_line-behind.ensures.puts) (ap (λ ns. row_lines rows k ++ line ns) (sym row)) (omega (arith, long_row, c.put_line-behind.ensures.upper_bound)) (omega arith)

pub returns-clause-puts : goal.returns-clause-puts
returns-clause-puts c =
    let long : length (take c.args.blocks c.as_chunks.result.0.now) ≡ c.args.blocks = length-take-le _ _ (omega (arith, c.as_chunks.ensures.front_len)) in
    (all_turns (omega arith) (omega arith) c.loop-row.invariant).put
