use Rattle.std.proofs.Common.{ℕ, List, ◌++◌, length, ap, ◌∙◌}
use Rattle.std.proofs.lemmas.List.{append_assoc}
use Rattle.std.specs.List.{flat_map}
use Rattle.ss_image.specs.Numbers.{number_bytes}
use Rattle.ss_image.specs.Images.{session_bytes, session_image}
use Rattle.ss_session.proofs.session_image_writer.put_image.Goals as goal

pub returns-clause-ok : goal.returns-clause-ok
unfolding session_image
returns-clause-ok c =
    let es = flat_map session_bytes c.args.entries.now in
    c.put_entries.ensures
    ∙ (ap (λ (x : List ℕ). x ++ es) (c.put.ensures.items
    ∙ (ap (λ (x : List ℕ). x ++ c.bytes_of_u32.result) c.in_ok-reserve.ensures.items
    ∙ ap (λ (x : List ℕ). c.args.out.now.items ++ x) c.bytes_of_u32.ensures))
    ∙ append_assoc c.args.out.now.items (number_bytes 4 (length c.args.entries.now)) es)
