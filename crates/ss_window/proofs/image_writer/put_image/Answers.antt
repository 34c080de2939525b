use Rattle.std.proofs.Common.{ℕ, List, ◌++◌, length, ap, ◌∙◌}
use Rattle.std.proofs.lemmas.List.{append_assoc}
use Rattle.std.specs.List.{flat_map}
use Rattle.ss_image.specs.Numbers.{number_bytes}
use Rattle.ss_image.specs.Images.{entry_bytes, window_image}
use Rattle.ss_meaning.specs.Entries.{WindowEntry}
use Rattle.ss_window.proofs.image_writer.put_image.Goals as goal

pub returns-clause-ok : goal.returns-clause-ok
unfolding window_image
returns-clause-ok c =
    let items : List WindowEntry = c.args.panes.now in
    let es = flat_map entry_bytes items in
    c.put_panes.ensures
    ∙ (ap (λ (x : List WindowEntry). c.put.new.out.items ++ flat_map entry_bytes x) c.by_end.ensures
    ∙ (ap (λ (x : List ℕ). x ++ es) (c.put.ensures.items
    ∙ (ap (λ (x : List ℕ). x ++ c.bytes_of_u32.result) c.in_ok-reserve.ensures.items
    ∙ ap (λ (x : List ℕ). c.args.out.now.items ++ x) (c.bytes_of_u32.ensures ∙ ap (number_bytes 4) c.held-2.ensures)))
    ∙ append_assoc c.args.out.now.items (number_bytes 4 (length items)) es))
