-- The name has joined the open files.
use Rattle.std.proofs.Common.{◌≡◌, ◌∙◌, ◌++◌, ◌∷◌, [], Bool, true, ap, codes, string_bytes, ℕ, List, String, Global, Ok, Err, rules, if◌then◌else◌, refl}
use Rattle.std.specs.Prelude.{OnOk}
use Rattle.std.specs.List.{list_any}
use Rattle.std.specs.Str.{bytes_eq}
use Rattle.ss_outside.proofs.Places.{chosen-last, joined_is_open, others_stay, not_wanting}
use Rattle.ss_outside.proofs.file_outputs.FileOutputs.write_first.Goals as goal

pub returns : goal.returns
returns g c =
    let old = c.args.self.now in
    let name = c.args.name.now in
    let kept = c.in_ok-kept_name.kept_name in
    let items : c.push_reserved.new.self.items ≡ old.names.items ++ kept ∷ [] = search rules in
    let is : string_bytes kept ≡ name = search rules in
    let open_now = λ (other : List ℕ) (names : List (String Global)). list_any (λ o. bytes_eq other (string_bytes o)) names in
    let put_to = λ (other : List ℕ) (b : Bool). if bytes_eq other (codes "-") then old.output_used else (if bytes_eq other (codes "!") then old.error_used else b) in
    let here : put_to name (open_now name c.push_reserved.new.self.items) ≡ true =
    chosen-last (bytes_eq name (codes "-")) (bytes_eq name (codes "!")) old.output_used old.error_used (open_now name c.push_reserved.new.self.items) c.requires.output c.requires.error
    ∙ ap (open_now name) items ∙ joined_is_open old.names.items kept name is in
    record {
      named = elim c.written-outcome.result as (λ answer. OnOk answer (put_to name (open_now name c.push_reserved.new.self.items) ≡ true)) [ Ok _ ↦ here | Err _ ↦ tt ];
      stays = λ was. here;
      untouched = λ wanting. absurd (not_wanting c.written-outcome.result c.written-outcome.ensures.failed wanting);
      others = λ other differs. ap (put_to other) (ap (open_now other) items ∙ others_stay old.names.items kept name other is differs);
      faults = refl;
    }
