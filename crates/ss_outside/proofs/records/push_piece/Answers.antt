use Rattle.std.proofs.Common.{◌≡◌, ℕ, ◌+◌, List, [], ◌∷◌, ◌++◌, length, ap, ◌∙◌, arith}
use Rattle.std.proofs.lemmas.List.{length-append}
use Rattle.ss_outside.specs.Pieces.{are_ends, pieces}
use Rattle.ss_outside.proofs.PieceLists.{are_ends-push, pieces-push}
use Rattle.ss_outside.proofs.records.push_piece.Goals as goal

pub returns-clause-pushed : goal.returns-clause-pushed
returns-clause-pushed c =
    let old = c.args.bytes.now.items in
    let more = c.args.more.now in
    let ends = c.args.ends.now.items in
    let grown : c.extend_from_slice.new.self.items ≡ old ++ more = c.in_ok-extend_from_slice.ensures.items in
    let end : c.len.result ≡ length old + length more = omega (arith, c.len.ensures, ap length grown, length-append old more) in
    let with_end : c.push_reserved.new.self.items ≡ ends ++ (length old + length more) ∷ [] =
    c.push_reserved.ensures.items ∙ ap (λ (xs : List ℕ). xs ++ c.len.result ∷ []) c.in_ok-try_reserve.ensures.items
    ∙ ap (λ (n : ℕ). ends ++ n ∷ []) end in
    ap (λ (bytes : List ℕ). pieces bytes 0 c.push_reserved.new.self.items) grown
    ∙ ap (pieces (old ++ more) 0) with_end ∙ pieces-push old more ends 0 c.requires

pub returns-clause-ends : goal.returns-clause-ends
returns-clause-ends c =
    let old = c.args.bytes.now.items in
    let more = c.args.more.now in
    let ends = c.args.ends.now.items in
    let grown : c.extend_from_slice.new.self.items ≡ old ++ more = c.in_ok-extend_from_slice.ensures.items in
    let end : c.len.result ≡ length old + length more = omega (arith, c.len.ensures, ap length grown, length-append old more) in
    let with_end : c.push_reserved.new.self.items ≡ ends ++ (length old + length more) ∷ [] =
    c.push_reserved.ensures.items ∙ ap (λ (xs : List ℕ). xs ++ c.len.result ∷ []) c.in_ok-try_reserve.ensures.items
    ∙ ap (λ (n : ℕ). ends ++ n ∷ []) end in
    ap (λ (xs : List ℕ). are_ends 0 xs (length c.extend_from_slice.new.self.items)) with_end
    ∙ ap (are_ends 0 (ends ++ (length old + length more) ∷ [])) (ap length grown ∙ length-append old more)
    ∙ are_ends-push ends 0 (length old) (length more) c.requires
