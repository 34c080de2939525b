use Rattle.ss_frames.proofs.Few.{entries_are_few}
use Rattle.ss_frames.proofs.laws.entries_are_few.Goals as goal

pub returns : goal.returns
returns c =
    entries_are_few
    (record {
      row = c.entries_follow.ensures.row;
      grow = c.entries_follow.ensures.grow;
      counts = c.entries_are_in_order.ensures.counts;
      session_row = c.sessions_follow.ensures.row;
      join = c.sessions_follow.ensures.join;
      of_rows = c.sessions_are_of_rows.ensures;
    })
    c.vertices_by_number.ensures
