-- The name is that of an open file.
use Rattle.std.proofs.Common.{◌≡◌, ◌∙◌, true, sym, ap, codes, Option, Some, string_bytes, ℕ, String, Global, rules}
use Rattle.std.specs.Prelude.{is_some}
use Rattle.std.specs.List.{position}
use Rattle.std.specs.Str.{bytes_eq}
use Rattle.ss_outside.specs.FileOutputs.{is_open}
use Rattle.ss_outside.specs.Told.{OutputsTold}
use Rattle.ss_outside.proofs.Places.{chosen-last, is_some-position}
use Rattle.ss_outside.proofs.file_outputs.FileOutputs.write_file.Goals as goal

pub returns-in-Ok : goal.returns-in-Ok
returns-in-Ok g c =
    let old = c.args.self.now in
    let name = c.args.name.now in
    let told = c.write_open.ensures.told in
    let at : position (λ o. bytes_eq name (string_bytes o)) old.names.items ≡ Some c.in-Some.place = search rules in
    let found : is_open old name ≡ true =
    sym (is_some-position (λ (o : String Global). bytes_eq name (string_bytes o)) old.names.items)
    ∙ ap (λ (place : Option ℕ). is_some place) at in
    let here =
    ap (λ (t : OutputsTold). t.put_to name) told
    ∙ chosen-last (bytes_eq name (codes "-")) (bytes_eq name (codes "!")) old.output_used old.error_used (is_open old name)
    c.requires.output c.requires.error
    ∙ found in
    record {
      named = here;
      stays = λ was. here;
      untouched = λ none. ap (λ (t : OutputsTold). t.put_to) told;
      others = λ other differs. ap (λ (t : OutputsTold). t.put_to other) told;
      faults = ap (λ (t : OutputsTold). t.faults) told;
    }

pub returns-in-Err : goal.returns-in-Err
returns-in-Err g c =
    let told = c.write_open.ensures.told in
    record {
      named = tt;
      stays = λ was. ap (λ (t : OutputsTold). t.put_to c.args.name.now) told ∙ was;
      untouched = λ wanting. ap (λ (t : OutputsTold). t.put_to) told;
      others = λ other differs. ap (λ (t : OutputsTold). t.put_to other) told;
      faults = ap (λ (t : OutputsTold). t.faults) told;
    }
