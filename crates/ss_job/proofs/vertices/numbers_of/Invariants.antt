use Rattle.std.proofs.Common.{◌≡◌, length, drop}
use Rattle.toml.specs.View.{items_view}
use Rattle.ss_job.specs.Vertices.{numbers_of}
use Rattle.ss_job.proofs.NumberLoop.{with_front}
use Rattle.ss_job.proofs.vertices.numbers_of.Given as goal

abbrev pub invariant-loop-value : goal.invariant-loop-value
invariant-loop-value l = record {
  read : with_front l.inputs (numbers_of l.draft (items_view (drop l.value-index l.array.items))) ≡ numbers_of l.draft (items_view l.array.items);
  count : length l.inputs ≡ l.value-index;
}
