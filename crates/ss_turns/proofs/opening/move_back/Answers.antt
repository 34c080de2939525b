use Rattle.std.proofs.Common.{[], ◌∷◌, ◌++◌, ap, ◌∙◌, arith}
use Rattle.ss_turns.proofs.Moves.{moves_value, passes_empty}
use Rattle.ss_turns.proofs.opening.move_back.Goals as goal

pub slots-preserved-in-Some-slot : goal.slots-preserved-in-Some-slot
slots-preserved-in-Some-slot g c =
    let was = c.slots.invariant in
    let fewer = c.in-Some.ensures.len in
    let more = c.push_reserved.ensures.len in
    let taken = c.in-Some.ensures.items ∙ ap (λ slot. c.pop.new.self.items ++ slot ∷ []) c.in-Some-slot.is in record {
      all = moves_value c.slots.slots.items c.pop.new.self.items c.slots.values.items c.push_reserved.new.self.items c.in-Some-slot.value _ taken c.push_reserved.ensures.items was.all;
      count = (let count = was.count in omega (arith, fewer, more, count));
      room = c.push_reserved.ensures.capacity ∙ was.room;
    }

pub slots-preserved : goal.slots-preserved
slots-preserved g c =
    let was = c.slots.invariant in
    let fewer = c.in-Some.ensures.len in
    let taken = c.in-Some.ensures.items ∙ ap (λ slot. c.pop.new.self.items ++ slot ∷ []) c.in_default-slot.is in record {
      all = passes_empty c.slots.slots.items c.pop.new.self.items c.slots.values.items _ taken was.all;
      count = (let count = was.count in omega (arith, fewer, count));
      room = was.room;
    }
