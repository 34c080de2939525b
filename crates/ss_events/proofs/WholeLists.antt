-- The list of a file is whole, and its times are those that a file may have.
use Rattle.std.proofs.Common.{subst, ◌≡◌, ◌<◌, ◌≤◌, ◌+◌, ◌^◌, ℕ, List, [], ◌∷◌, ◌++◌, Bool, true, false, Option, Some, None, refl, ap, arith, cond}
use Rattle.std.specs.Prelude.{Result, Ok, Err, IfOk, IfSome, nat_lt, nat_le, not, ◌&&◌, ◌==◌, length}
use Rattle.std.specs.Option.{option_and_then, option_to_list}
use Rattle.std.specs.List.{list_all}
use Rattle.std.specs.Str.Parse.{digits_value}
use Rattle.std.proofs.lemmas.Bool.Decides.{nat_tests}
use Rattle.csv.specs.Records.{field_at}
use Rattle.ss_elem.specs.Validity.{Whole, bound_from, next_bound, top}
use Rattle.ss_elem.specs.declared.element.Element.{Element}
use Rattle.ss_elem.specs.declared.element.Element.TheVariants as element
use Rattle.ss_elem.specs.declared.element.Event.{Event}
use Rattle.ss_events.specs.Numbers.{is_decimal, time_of}
use Rattle.ss_events.specs.Fields.{check, has_count, is_padding, key_at, or_fault, time_at, value_at, value_or_zero_at}
use Rattle.ss_events.specs.Rows.{◌>>=◌, Given, cti_given, cti_row, end_row, event_given, event_of, event_row, is_header, kind_of, late_given, row_after, row_by, row_given}
use Rattle.ss_events.specs.Events.{AllSourceTimes, AnswersReading, HasSourceTimes, event_list, elements_from, ending, in_row, most_rows, row_at}
use Rattle.ss_events.specs.declared.fault.EventFault.{EventFault}
use Rattle.ss_events.specs.declared.fault.EventWhy.{EventWhy}
use Rattle.ss_events.specs.declared.fault.EventWhy.TheVariants.{AfterEnd, BackwardCti, EmptySpan, TooManyRows}
use Rattle.ss_events.specs.Records.{records_of}
use Rattle.ss_events.specs.declared.fault.EventsFault.{EventsFault}
use Rattle.ss_events.specs.declared.fault.EventsFault.TheVariants.{At, Memory}
use Rattle.ss_events.specs.declared.late.Late.{Late}
use Rattle.ss_events.specs.declared.late.Late.TheVariants.{Drop, Refuse}
use Rattle.ss_events.specs.declared.row.RowKind.{RowKind}
use Rattle.ss_events.specs.declared.row.RowKind.TheVariants as kind

-- what holds after two steps, where the second gives it from what the first gives
after-both : {A B E : Type 0} (P : A → Type 0) (Q : B → Type 0) (first : Result A E) (next : A → Result B E)
    → IfOk first P → ((x : A) → P x → IfOk (next x) Q) → IfOk (first >>= next) Q
after-both P Q (Ok x) next holds then = then x holds
after-both P Q (Err e) next holds then = tt

-- what holds after a second step, whatever the first gives
after-any : {A B E : Type 0} (Q : B → Type 0) (first : Result A E) (next : A → Result B E) → ((x : A) → IfOk (next x) Q) → IfOk (first >>= next) Q
after-any Q (Ok x) next then = then x
after-any Q (Err e) next then = tt

held : {A : Type 0} (P : A → Type 0) (why : EventWhy) (found : Option A) → IfSome found P → IfOk (or_fault why found) P
held P why None holds = tt
held P why (Some x) holds = holds

then-some : {A B : Type 0} (P : B → Type 0) (f : A → Option B) (found : Option A) → ((x : A) → IfSome (f x) P) → IfSome (option_and_then f found) P
then-some P f None holds = tt
then-some P f (Some x) holds = holds x

below : (limit n : ℕ) (test : Bool) → IfSome (cond (test && nat_lt n limit) (Some n) None) (λ m. m < limit)
below limit n false = tt
below limit n true =
    elim (nat_lt n limit) as (λ b. nat_lt n limit ≡ b → IfSome (cond b (Some n) None) (λ m. m < limit)) [
      | true ↦ λ e. grind (arith, nat_tests)
      | false ↦ λ e. tt
    ] refl

time-below : (place : ℕ) (fields : List (List ℕ)) → IfOk (time_at place fields) (λ time. time < 2 ^ 62)
time-below place fields =
    held _ _ (option_and_then time_of (field_at fields place))
    (then-some (λ time. time < 2 ^ 62) time_of (field_at fields place) (λ text. below (2 ^ 62) (digits_value 10 text) (nat_lt 0 (length text) && list_all is_decimal text)))

event-times : (fields : List (List ℕ)) → IfOk (event_of fields) (λ event. HasSourceTimes (element.Row event))
unfolding event_of
event-times fields =
    after-any _ (has_count 5 fields) _ (λ counted.
    after-both _ _ (time_at 1 fields) _ (time-below 1 fields) (λ start low.
    after-both _ _ (time_at 2 fields) _ (time-below 2 fields) (λ end high.
    after-any _ (key_at 3 fields) _ (λ key.
    after-any _ (value_at 4 fields) _ (λ a. after-any _ (value_or_zero_at 5 fields) _ (λ b. after-any _ (value_or_zero_at 6 fields) _ (λ c. after-any _ (value_or_zero_at 7 fields) _ (λ d. (low, high)))))))))

-- an element that may follow, with the bound after it, or none and the same bound
abbrev FollowsAs : ℕ → Option Element → ℕ → Type 0
FollowsAs bound None after = after ≡ bound
FollowsAs bound (Some x) after = HasSourceTimes x × (next_bound bound x ≡ Some after)

abbrev Follows : ℕ → Given → Type 0
Follows bound next = FollowsAs bound next.0 next.1

late-follows : (late : Late) (bound : ℕ) (event : Event) → IfOk (late_given late bound event) (Follows bound)
late-follows Refuse bound event = tt
late-follows Drop bound event = refl

event-next : (bound : ℕ) (event : Event) → bound < top → event.end < 2 ^ 62 → nat_lt event.start event.end ≡ true
    → nat_lt event.start bound ≡ false → next_bound bound (element.Row event) ≡ Some bound
event-next bound event going high span late =
    let below_top : nat_lt bound top ≡ true = grind (arith, nat_tests) in
    let near : nat_lt event.end top ≡ true = grind (arith, nat_tests) in
    let early : nat_le bound event.start ≡ true = grind (arith, nat_tests) in
    rw (below_top, near, span, early) refl

event-follows : (late : Late) (bound : ℕ) (event : Event) → bound < top → HasSourceTimes (element.Row event)
    → IfOk (event_given late bound event) (Follows bound)
event-follows late bound event going times =
    let given : Bool → Result Given EventWhy = λ b. cond b (late_given late bound event) (Ok (Some (element.Row event), bound)) in
    elim (nat_lt event.start event.end) as (λ s. nat_lt event.start event.end ≡ s → IfOk (cond (not s) (Err EmptySpan) (given (nat_lt event.start bound))) (Follows bound)) [
      | false ↦ λ span. tt
      | true ↦ λ span.
          elim (nat_lt event.start bound) as (λ b. nat_lt event.start bound ≡ b → IfOk (given b) (Follows bound)) [
            | true ↦ λ e. late-follows late bound event
            | false ↦ λ e. (times, event-next bound event going times.1 span e)
          ] refl
    ] refl

cti-next : (bound time : ℕ) → time < 2 ^ 62 → nat_lt time bound ≡ false → (time == bound) ≡ false
    → next_bound bound (element.Cti time) ≡ Some time
cti-next bound time low forward other =
    let above : nat_lt bound time ≡ true = grind (arith, nat_tests) in
    let near : nat_lt time top ≡ true = grind (arith, nat_tests) in
    rw (above, near) refl

cti-follows : (bound time : ℕ) → time < 2 ^ 62 → IfOk (cti_given bound time) (Follows bound)
cti-follows bound time low =
    let given : Bool → Result Given EventWhy = λ b. cond b (Ok (None, bound)) (Ok (Some (element.Cti time), time)) in
    elim (nat_lt time bound) as (λ b. nat_lt time bound ≡ b → IfOk (cond b (Err (BackwardCti time bound)) (given (time == bound))) (Follows bound)) [
      | true ↦ λ back. tt
      | false ↦ λ back.
          elim (time == bound) as (λ b. (time == bound) ≡ b → IfOk (given b) (Follows bound)) [
            | true ↦ λ e. refl
            | false ↦ λ e. (low, cti-next bound time low back e)
          ] refl
    ] refl

end-next : (bound : ℕ) → bound < top → next_bound bound element.End ≡ Some top
end-next bound going = let below_top : nat_lt bound top ≡ true = grind (arith, nat_tests) in rw below_top refl

kind-follows : (named : RowKind) (late : Late) (bound : ℕ) (fields : List (List ℕ)) → bound < top
    → IfOk (row_by named late bound fields) (Follows bound)
unfolding event_row cti_row end_row
kind-follows kind.Event late bound fields going =
    after-both _ _ (event_of fields) _ (event-times fields) (λ event times. event-follows late bound event going times)
kind-follows kind.Cti late bound fields going =
    after-any _ (has_count 2 fields) _ (λ counted. after-any _ (is_padding 2 fields) _ (λ padded.
    after-both _ _ (time_at 1 fields) _ (time-below 1 fields) (λ time low. cti-follows bound time low)))
kind-follows kind.End late bound fields going =
    after-any _ (has_count 1 fields) _ (λ counted. after-any _ (is_padding 1 fields) _ (λ padded. (tt, end-next bound going)))

row-follows : (late : Late) (bound : ℕ) (fields : List (List ℕ)) → bound ≤ top → IfOk (row_after late bound fields) (Follows bound)
unfolding row_after
row-follows late bound fields low =
    let rest = kind_of fields >>= (λ named. row_by named late bound fields) in
    elim (bound == top) as (λ b. (bound == top) ≡ b → IfOk (check AfterEnd (not b) >>= (λ _. rest)) (Follows bound)) [
      | true ↦ λ e. tt
      | false ↦ λ e.
          let going : bound < top = grind (arith, nat_tests) in
          after-any _ (kind_of fields) _ (λ named. kind-follows named late bound fields going)
    ] refl

given-follows : (late : Late) (number bound : ℕ) (fields : List (List ℕ)) → bound ≤ top
    → IfOk (row_given late number bound fields) (Follows bound)
given-follows late number bound fields low =
    elim (number == 1 && is_header fields) as (λ b. IfOk (cond b (Ok (None, bound)) (row_after late bound fields)) (Follows bound)) [
      | true ↦ refl
      | false ↦ row-follows late bound fields low
    ]

weaker : (found : Option ℕ) → IfSome found (λ time. time < top) → IfSome found (λ time. time ≤ top)
weaker None low = tt
weaker (Some time) low = omega (arith, low)

capped : (test : Bool) (n : ℕ) → n ≤ top → IfSome (cond test (Some n) None) (λ after. after ≤ top)
capped true n low = low
capped false n low = tt

below-top : (bound : ℕ) (x : Element) → bound ≤ top → IfSome (next_bound bound x) (λ after. after ≤ top)
below-top bound (element.Row event) low = capped _ bound low
below-top bound (element.Cti time) low = weaker _ (below top time (nat_lt bound time))
below-top bound element.End low = capped _ top (omega arith)

-- a list that is whole behind elements with this bound, and has the times of a file
pub record IsWholeFrom (bound : ℕ) (xs : List Element) : Type 0 where
  pub whole : bound_from bound xs ≡ Some top
  pub times : AllSourceTimes xs

ending-whole : (bound : ℕ) → bound ≤ top → IsWholeFrom bound (ending bound)
ending-whole bound low =
    elim (bound == top) as (λ b. (bound == top) ≡ b → IsWholeFrom bound (cond b [] (element.End ∷ []))) [
      | true ↦ λ e. let is : bound ≡ top = grind (arith, nat_tests) in record { whole = ap Some is; times = tt }
      | false ↦ λ e. let under : nat_lt bound top ≡ true = grind (arith, nat_tests) in record { whole = rw under refl; times = (tt, tt) }
    ] refl

behind : (bound : ℕ) (given : Option Element) (after : ℕ) (rest : List Element) → FollowsAs bound given after
    → IsWholeFrom after rest → IsWholeFrom bound (option_to_list given ++ rest)
behind bound None after rest is whole = subst (λ b. IsWholeFrom b rest) is whole
behind bound (Some x) after rest follows whole =
    record { whole = rw follows.1 whole.whole; times = (follows.0, whole.times) }

in-row : {A : Type 0} (P : A → Type 0) (number : ℕ) (read : Result A EventWhy) → IfOk read P → IfOk (in_row number read) P
in-row P number (Ok x) holds = holds
in-row P number (Err why) holds = tt

limited : (late : Late) (number bound : ℕ) (fields : List (List ℕ)) → bound ≤ top → IfOk (row_at late number bound fields) (Follows bound)
limited late number bound fields low =
    elim (nat_lt most_rows number) as (λ b. IfOk (cond b (Err TooManyRows) (row_given late number bound fields)) (Follows bound)) [
      | true ↦ tt
      | false ↦ given-follows late number bound fields low
    ]

within-top : (bound : ℕ) (given : Option Element) (after : ℕ) → bound ≤ top → FollowsAs bound given after → after ≤ top
within-top bound None after low is = omega (arith, low, is)
within-top bound (Some x) after low follows =
    let P : Option ℕ → Type 0 = λ found. IfSome found (λ after. after ≤ top) in subst P follows.1 (below-top bound x low)

-- what rows give behind rows with this bound
pub whole-from : (late : Late) (rows : List (List (List ℕ))) (number bound : ℕ) → bound ≤ top
    → IfOk (elements_from late rows number bound) (IsWholeFrom bound)
unfolding elements_from
whole-from late [] number bound low = ending-whole bound low
whole-from late (fields ∷ rows) number bound low =
    let row = row_at late number bound fields in
    after-both (Follows bound) (IsWholeFrom bound) (in_row number row) _ (in-row _ number row (limited late number bound fields low)) (λ next follows.
    let near = within-top bound next.0 next.1 low follows in
    after-both (IsWholeFrom next.1) (IsWholeFrom bound) (elements_from late rows (number + 1) next.1) _ (whole-from late rows (number + 1) next.1 near) (λ rest whole.
    behind bound next.0 next.1 rest follows whole))

-- what holds of a list holds of the reader's answer that gives it
pub of-answer : {X Y : Type 0} (view : X → Y) (P : Y → Type 0) (answer : Result X EventsFault) (read : Result Y EventFault)
    → AnswersReading view answer read → IfOk read P → IfOk answer (λ x. P (view x))
of-answer view P (Ok x) read gives holds = subst (λ (r : Result _ EventFault). IfOk r P) gives holds
of-answer view P (Err (At fault)) read gives holds = tt
of-answer view P (Err Memory) read gives holds = tt

whole-part : (read : Result (List Element) EventFault) → IfOk read (IsWholeFrom 0) → IfOk read Whole
whole-part (Ok xs) is = is.whole
whole-part (Err fault) is = tt

times-part : (read : Result (List Element) EventFault) → IfOk read (IsWholeFrom 0) → IfOk read AllSourceTimes
times-part (Ok xs) is = is.times
times-part (Err fault) is = tt

pub list-whole : (bytes : List ℕ) (late : Late) → IfOk (event_list bytes late) Whole
list-whole bytes late = whole-part (event_list bytes late) (whole-from late (records_of bytes) 1 0 (omega arith))

pub list-times : (bytes : List ℕ) (late : Late) → IfOk (event_list bytes late) AllSourceTimes
list-times bytes late = times-part (event_list bytes late) (whole-from late (records_of bytes) 1 0 (omega arith))
