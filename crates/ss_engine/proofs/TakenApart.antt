-- That the parts of a joint job stand for themselves, each in its place.
use Rattle.std.proofs.Common.{List, Option, length, map, ap, sym, ◌∙◌}
use Rattle.std.proofs.lemmas.List.{length-map}
use Rattle.ss_state.specs.State.{InstNumbers}
use Rattle.ss_tail.specs.Held.{TailHeld}
use Rattle.ss_vertex.specs.Inst.{inst_numbers}
use Rattle.ss_engine.specs.Apart.{AreParts}
use Rattle.ss_engine.specs.Joint.{Joint}
use Rattle.ss_engine.specs.Told.{PlantTold, replicas_of}
use Rattle.ss_engine.proofs.Parts.{replicas_are}

pub are_parts : (p : PlantTold) → Joint p → AreParts p.plan p.tails p.insts p.vault
are_parts p joint = record {
  all_tails = sym (length-map p.tails (λ (t : TailHeld). t.numbers)) ∙ joint.numbers.tails;
  all_insts = sym (length-map p.insts (map inst_numbers)) ∙ joint.numbers.insts;
  replicas = λ v.
      sym (length-map (replicas_of p v) inst_numbers)
      ∙ ap (λ (xs : List (Option InstNumbers)). length xs) (sym (replicas_are p v))
      ∙ joint.numbers.replicas v;
  tails = joint.parts.tails;
  insts = joint.parts.insts;
  sound = joint.parts.vault;
}
