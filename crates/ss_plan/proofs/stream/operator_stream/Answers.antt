-- What arrives is a merge of streams that may arrive.
use Rattle.std.proofs.Common.{◌≡◌, ℕ, ◌+◌, ◌<◌, ◌≤◌, ◌^◌, take, List, [], Bor, Vec, Global, length, get_or, map, All, sym, ap, ◌∙◌, subst, arith}
use Rattle.std.proofs.lemmas.List.{length-map}
use Rattle.std.proofs.lemmas.Result.{IfOk-weaker}
use Rattle.ss_elem.specs.declared.element.Element.{Element}
use Rattle.ss_expr.specs.Operators.{operator_of, HasShortRow}
use Rattle.ss_meaning.specs.Emit.{output}
use Rattle.ss_meaning.specs.Meaning.{streams_at}
use Rattle.ss_meaning.specs.Jobs.{IsBefore}
use Rattle.ss_meaning.specs.Low.{low}
use Rattle.ss_plan.specs.Steps.{EachMayFollow, NeverFalls}
use Rattle.ss_meaning.specs.Merge.{Arrival, merge}
use Rattle.ss_plan.specs.Plan.{inputs_read, lists_of}
use Rattle.ss_plan.proofs.Meanings.{arrivals_within, arrivals_short, arrivals_early, arrivals_follow}
use Rattle.ss_plan.proofs.Vertices.{inputs_count}
use Rattle.ss_plan.proofs.stream.operator_stream.Goals as goal

pub merged-requires : goal.merged-requires
merged-requires c =
    let lists = streams_at (lists_of c.args.streams.now) (inputs_read c.args.node.now) in
    let count : length lists ≡ c.args.node.now.width =
    length-map (inputs_read c.args.node.now) (λ w. get_or (lists_of c.args.streams.now) w []) ∙ inputs_count c.args.node.now in
    let few = c.requires.few in
    omega (
      arith,
      count,
      ap length c.as_slice.ensures.value,
      ap length c.in_ok-lists.ensures,
      length-map c.in_ok-lists.lists.items (λ (one : Bor (List Element)). one.now),
    )

pub operator_output-requires-clause-inputs : goal.operator_output-requires-clause-inputs
operator_output-requires-clause-inputs c =
    let lists = streams_at (lists_of c.args.streams.now) (inputs_read c.args.node.now) in
    let same : c.as_slice-2.result.now ≡ merge lists =
    c.as_slice-2.ensures.value ∙ c.in_ok-arrived.ensures
    ∙ ap (λ (l : List (Bor (List Element))). merge (map (λ (one : Bor (List Element)). one.now) l)) c.as_slice.ensures.value
    ∙ ap merge c.in_ok-lists.ensures in
    let count : length lists ≡ c.args.node.now.width =
    length-map (inputs_read c.args.node.now) (λ w. get_or (lists_of c.args.streams.now) w []) ∙ inputs_count c.args.node.now in
    subst (λ (all : List Arrival). All (λ x. x.input < c.args.node.now.width) all) (sym same)
    (subst (λ n. All (λ x. x.input < n) (merge lists)) count
    (arrivals_within c.merge_keeps_each_input.ensures.next lists c.requires.arrive))

pub operator_output-requires-clause-times : goal.operator_output-requires-clause-times
operator_output-requires-clause-times c =
    let lists = streams_at (lists_of c.args.streams.now) (inputs_read c.args.node.now) in
    let same : c.as_slice-2.result.now ≡ merge lists =
    c.as_slice-2.ensures.value ∙ c.in_ok-arrived.ensures
    ∙ ap (λ (l : List (Bor (List Element))). merge (map (λ (one : Bor (List Element)). one.now) l)) c.as_slice.ensures.value
    ∙ ap merge c.in_ok-lists.ensures in
    let count : length lists ≡ c.args.node.now.width =
    length-map (inputs_read c.args.node.now) (λ w. get_or (lists_of c.args.streams.now) w []) ∙ inputs_count c.args.node.now in
    subst (λ (all : List Arrival). All (λ x. HasShortRow x.element) all) (sym same)
    (arrivals_short c.merge_keeps_each_input.ensures.next lists c.requires.arrive)

pub operator_output-requires-clause-early : goal.operator_output-requires-clause-early
operator_output-requires-clause-early c =
    let lists = streams_at (lists_of c.args.streams.now) (inputs_read c.args.node.now) in
    let same : c.as_slice-2.result.now ≡ merge lists =
    c.as_slice-2.ensures.value ∙ c.in_ok-arrived.ensures
    ∙ ap (λ (l : List (Bor (List Element))). merge (map (λ (one : Bor (List Element)). one.now) l)) c.as_slice.ensures.value
    ∙ ap merge c.in_ok-lists.ensures in
    let count : length lists ≡ c.args.node.now.width =
    length-map (inputs_read c.args.node.now) (λ w. get_or (lists_of c.args.streams.now) w []) ∙ inputs_count c.args.node.now in
    subst (λ (all : List Arrival). All (λ x. IsBefore (2 ^ 63) x.element) all) (sym same)
    (arrivals_early c.merge_keeps_each_input.ensures.next lists c.requires.arrive)

pub operator_output-requires-clause-rises : goal.operator_output-requires-clause-rises
operator_output-requires-clause-rises c =
    let lists = streams_at (lists_of c.args.streams.now) (inputs_read c.args.node.now) in
    let same : c.as_slice-2.result.now ≡ merge lists =
    c.as_slice-2.ensures.value ∙ c.in_ok-arrived.ensures
    ∙ ap (λ (l : List (Bor (List Element))). merge (map (λ (one : Bor (List Element)). one.now) l)) c.as_slice.ensures.value
    ∙ ap merge c.in_ok-lists.ensures in
    let count : length lists ≡ c.args.node.now.width =
    length-map (inputs_read c.args.node.now) (λ w. get_or (lists_of c.args.streams.now) w []) ∙ inputs_count c.args.node.now in
    let whole : (n : ℕ) → low c.args.node.now.width (take n (merge lists)) ≤ low c.args.node.now.width (take (n + 1) (merge lists)) =
    λ n. subst (λ m. low m (take n (merge lists)) ≤ low m (take (n + 1) (merge lists))) count
    (c.low_never_falls.ensures.rises lists c.requires.arrive.whole n (n + 1) (omega arith)) in
    subst (NeverFalls c.args.node.now.width) (sym same) whole

pub operator_output-requires-clause-follow : goal.operator_output-requires-clause-follow
operator_output-requires-clause-follow c =
    let lists = streams_at (lists_of c.args.streams.now) (inputs_read c.args.node.now) in
    let same : c.as_slice-2.result.now ≡ merge lists =
    c.as_slice-2.ensures.value ∙ c.in_ok-arrived.ensures
    ∙ ap (λ (l : List (Bor (List Element))). merge (map (λ (one : Bor (List Element)). one.now) l)) c.as_slice.ensures.value
    ∙ ap merge c.in_ok-lists.ensures in
    subst EachMayFollow (sym same) (arrivals_follow c.merge_keeps_each_input.ensures.follows lists c.requires.arrive)

pub returns : goal.returns
returns c =
    let lists = streams_at (lists_of c.args.streams.now) (inputs_read c.args.node.now) in
    let same : c.as_slice-2.result.now ≡ merge lists =
    c.as_slice-2.ensures.value ∙ c.in_ok-arrived.ensures
    ∙ ap (λ (l : List (Bor (List Element))). merge (map (λ (one : Bor (List Element)). one.now) l)) c.as_slice.ensures.value
    ∙ ap merge c.in_ok-lists.ensures in
    let count : length lists ≡ c.args.node.now.width =
    length-map (inputs_read c.args.node.now) (λ w. get_or (lists_of c.args.streams.now) w []) ∙ inputs_count c.args.node.now in
    let kind = operator_of c.args.spec.now in
    let all : output kind c.args.node.now.width c.as_slice-2.result.now ≡ output kind (length (inputs_read c.args.node.now)) (merge lists) =
    ap (output kind c.args.node.now.width) same ∙ ap (λ n. output kind n (merge lists)) (sym (inputs_count c.args.node.now)) in
    IfOk-weaker c.operator_output.result
    (λ (list : Vec Element Global). list.items ≡ output kind c.args.node.now.width c.as_slice-2.result.now)
    (λ (list : Vec Element Global). list.items ≡ output kind (length (inputs_read c.args.node.now)) (merge lists))
    (λ list e. e ∙ all) c.operator_output.ensures
