use Rattle.ss_vertex.proofs.known.laws_of_vertices.Goals as goal

pub returns : goal.returns
returns c = record {
  vertices = c.vertices_by_number.ensures;
  runnable = c.plans_have_numbers.ensures.runnable;
  numbers = c.plans_have_numbers.ensures.meant;
  jobs = c.plans_mean_jobs.ensures;
  streams = c.meaning_is_made_of_the_inputs.ensures;
  whole = c.meaning_is_whole.ensures;
  early = c.meaning_is_early.ensures;
  follow = c.merge_keeps_each_input.ensures.next;
  may_follow = c.merge_keeps_each_input.ensures.follows;
  rises = c.low_never_falls.ensures.rises;
  least = c.bounds_tell_what_is_next.ensures.low;
  next = c.bounds_tell_what_is_next.ensures.next;
  grows = c.output_only_grows.ensures.step;
  prefix = c.output_only_grows.ensures.prefix;
  adds = c.positions_add_up.ensures;
  few = c.entries_are_few.ensures;
  images = c.images_are_read_again.ensures;
}
