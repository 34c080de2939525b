use Rattle.std.proofs.Common.{ℕ, List, String, Global, Bor, bytes_eq, string_bytes, map, rules, tests, ◌∙◌}
use Rattle.std.proofs.lemmas.Iterator.Consumers.{YieldsList-from_rest}
use Rattle.std.proofs.lemmas.Iterator.Search.{all_from_yields_List}
use Rattle.std.specs.BTreeMap.{keys}
use Rattle.std.specs.List.{list_any}
use Rattle.ss_job.proofs.Views.{has_only-view}
use Rattle.ss_job.proofs.document.has_only.Goals as goal

pub returns : goal.returns
returns c =
    let fields = map (λ (field : Bor (List ℕ)). field.now) c.args.fields.now in
    let is_field = λ (key : String Global). list_any (λ field. bytes_eq field (string_bytes key)) fields in
    all_from_yields_List is_field _ _ c.all.result c.all.ensures.ran (YieldsList-from_rest (keys c.args.table.now) cc) (λ x b q k. search (rules, tests))
    ∙ has_only-view fields c.args.table.now.entries
