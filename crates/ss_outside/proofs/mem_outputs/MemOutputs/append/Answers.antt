-- The map has more bytes at the name, and at every other name what it had.
use Rattle.std.proofs.Common.{◌≡◌, ℕ, List, ◌∙◌, arith}
use Rattle.std.proofs.lemmas.Map.Text.{text_keys}
use Rattle.ss_outside.specs.MemOutputs.{bytes_told, names_put_to}
use Rattle.ss_outside.proofs.mem_outputs.MemOutputs.append.Goals as goal

pub returns-in-Ok-clause-added : goal.returns-in-Ok-clause-added
returns-in-Ok-clause-added c = record {
  appended = record {
    bytes = λ other. grind (arith, text_keys);
    stays = λ was. grind (arith, text_keys);
    others = λ other differs. grind (arith, text_keys);
    faults = omega arith;
  };
  named = grind (arith, text_keys);
}

pub returns-in-Err-clause-kept : goal.returns-in-Err-clause-kept
returns-in-Err-clause-kept c =
    let old = c.args.self.now in
    let new = record old { files = c.get_mut.follows.lender c.extend_from_slice.new.self } in
    let same_bytes : (name : List ℕ) → bytes_told new name ≡ bytes_told old name = λ name. grind (arith, text_keys) in
    let same_names : (name : List ℕ) → names_put_to new name ≡ names_put_to old name = λ name. grind (arith, text_keys) in
    record { bytes = λ i name. same_bytes name i; put_to = λ i name. same_names name i; faults = omega arith }

pub returns-in-Err-first-clause-kept : goal.returns-in-Err-first-clause-kept
returns-in-Err-first-clause-kept c =
    let old = c.args.self.now in
    let mid = record old { files = c.get_mut.follows.lender-at-none } in
    let kept = c.in-Err-first.ensures.kept in
    let same_bytes : (name : List ℕ) → bytes_told mid name ≡ bytes_told old name = λ name. grind (arith, text_keys) in
    let same_names : (name : List ℕ) → names_put_to mid name ≡ names_put_to old name = λ name. grind (arith, text_keys) in
    record {
      bytes = kept.bytes ∙ (λ i name. same_bytes name i);
      put_to = kept.put_to ∙ (λ i name. same_names name i);
      faults = kept.faults;
    }
