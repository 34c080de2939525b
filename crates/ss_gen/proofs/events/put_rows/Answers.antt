use Rattle.std.proofs.Common.{◌∙◌, ℕ, List, ◌++◌, ap, append_assoc}
use Rattle.ss_gen.specs.Events.{rows_text, row_text}
use Rattle.ss_gen.specs.Rows.{row_told}
use Rattle.ss_gen.proofs.Rows.{more_rows, no_rows, part_of}
use Rattle.ss_gen.proofs.events.put_rows.Goals as goal

pub loop-i-init : goal.loop-i-init
loop-i-init c = record { text = no_rows c.args.seed c.args.out.now.items; place = c.from-draws.ensures }

pub loop-i-preserved : goal.loop-i-preserved
loop-i-preserved c = record {
  text = more_rows c.args.seed c.loop-i.i c.args.out.now.items c.loop-i.out.items c.put_row.new.out.items c.put_cti.new.out.items
      (row_told c.drawn_row-row.result) c.loop-i.invariant.text c.drawn_row-row.ensures.drawn c.in_ok-put_row.ensures.text c.in_ok-put_cti.ensures.text;
  place = c.drawn_row-row.ensures.place;
}

pub returns-in_err-put_row-clause-part : goal.returns-in_err-put_row-clause-part
returns-in_err-put_row-clause-part c =
    part_of c.args.out.now.items (rows_text c.args.seed c.loop-i.i) c.loop-i.out.items c.put_row.new.out.items c.from_residual.result
    c.loop-i.invariant.text c.in_err-put_row.ensures.part

pub returns-in_err-put_cti-clause-part : goal.returns-in_err-put_cti-clause-part
returns-in_err-put_cti-clause-part c =
    let rows : List ℕ = rows_text c.args.seed c.loop-i.i in
    let line : List ℕ = row_text (row_told c.drawn_row-row.result) in
    part_of c.args.out.now.items (rows ++ line) c.put_row.new.out.items c.put_cti.new.out.items c.from_residual-in_err-put_cti.result
    (c.in_ok-put_row.ensures.text ∙ ap (λ (t : List ℕ). t ++ line) c.loop-i.invariant.text ∙ append_assoc c.args.out.now.items rows line)
    c.in_err-put_cti.ensures.part
