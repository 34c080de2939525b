-- Where memory was wanting, nothing was put, and the count rose.
use Rattle.std.proofs.Common.{refl, rules}
use Rattle.ss_outside.proofs.file_outputs.FileOutputsOutputs.put.Goals as goal

pub returns-in-Err-Memory-clause-puts : goal.returns-in-Err-Memory-clause-puts
returns-in-Err-Memory-clause-puts g c = record {
  bytes = refl;
  put_to = c.write.ensures.untouched (cc (c.in-Err-Memory.field-0-is));
  faults = search rules;
}
