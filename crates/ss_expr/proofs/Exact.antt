-- What is read is an expression, what is an expression is read, and each fault is the first.
use Rattle.std.proofs.Common.{if◌then◌else◌, ◌≡◌, ℕ, ◌≤◌, ◌⊎◌, inl, inr, Bool, true, false, List, [], ◌∷◌, length, Option, Some, None, Result, Ok, Err, nat_lt, refl, ap, sym, subst, ◌∙◌, arith}
use Rattle.std.proofs.lemmas.Bool.{cond-false, ltb-true}
use Rattle.std.proofs.lemmas.Bool.Decides.{nat_tests}
use Rattle.ss_expr.specs.Answers.{IsFaultOfReading, AnswersReading}
use Rattle.ss_expr.specs.Expressions.{scanned, IsExpression, FaultAt, IsFault}
use Rattle.ss_expr.specs.Grammar.{Begins, Spells}
use Rattle.ss_expr.specs.Limits.{most_bytes, most_levels}
use Rattle.ss_expr.specs.Reading.{close, ◌>>=◌, expression_of, finish, finish_at, read_from, run, start, unbroken, tree_if_complete}
use Rattle.ss_expr.specs.Tree.{Tree}
use Rattle.ss_expr.specs.declared.fault.ExprFault.{ExprFault}
use Rattle.ss_expr.specs.declared.fault.ExprWhy.{ExprWhy}
use Rattle.ss_expr.specs.declared.fault.ExprWhy.TheVariants.{TooLong, BadToken, BadNumber, TooDeep, Unexpected}
use Rattle.ss_expr.specs.declared.fault.ParseFault.{ParseFault}
use Rattle.ss_expr.specs.declared.fault.ParseFault.TheVariants.{At, Memory}
use Rattle.ss_expr.specs.declared.parser.Parser.{Parser}
use Rattle.ss_expr.specs.declared.frame.Frame.{Frame}
use Rattle.ss_expr.specs.declared.token.Placed.{Placed}
use Rattle.ss_expr.proofs.Complete.{open_frames, tip, run-whole, finish-whole}
use Rattle.ss_expr.proofs.Sound.{Reached, run-reached, start-reached, reached-begins, reached-whole}
use Rattle.ss_expr.proofs.Stops.{Stop, run-stop, unexpected_stops, deep_stops, deep_goes_on}
use Rattle.ss_expr.proofs.Whys.{IsStepWhy, IsScanWhy, step-why, scan-why}

bind_ok : {A B : Type 0} (r : Result A ExprFault) (f : A → Result B ExprFault) (y : B) → (r >>= f) ≡ Ok y → (x : A) × (r ≡ Ok x) × (f x ≡ Ok y)
bind_ok (Ok x) f y h = (x, refl, h)
bind_ok (Err e) f y h = cc

bind_err : {A B : Type 0} (r : Result A ExprFault) (f : A → Result B ExprFault) (g : ExprFault) → (r >>= f) ≡ Err g → (r ≡ Err g) ⊎ ((x : A) × (r ≡ Ok x) × (f x ≡ Err g))
bind_err (Ok x) f g h = inr (x, refl, h)
bind_err {A} (Err e) f g h =
    let same : e ≡ g = cc in
    inl (ap (λ (x : ExprFault). Err x) same)

unbroken_ok : {A : Type 0} (fault : Option ExprFault) (x y : A) → unbroken fault x ≡ Ok y → (fault ≡ None) × (x ≡ y)
unbroken_ok None x y h = (refl, cc)
unbroken_ok (Some f) x y h = cc

unbroken_err : {A : Type 0} (fault : Option ExprFault) (x : A) (g : ExprFault) → unbroken fault x ≡ Err g → fault ≡ Some g
unbroken_err None x g h = cc
unbroken_err (Some f) x g h =
    let same : f ≡ g = cc in
    ap (λ (y : ExprFault). Some y) same

whole_err : (stack : List Frame) (tree : Option Tree) (size : ℕ) (g : ExprFault) → tree_if_complete stack tree size ≡ Err g → g ≡ record { at = size; why = Unexpected }
whole_err [] None size g h = cc
whole_err [] (Some e) size g h = cc
whole_err (frame ∷ below) tree size g h = cc

finish_err : (stack : List Frame) (tree : Option Tree) (size : ℕ) (g : ExprFault) → finish_at stack tree size ≡ Err g → g ≡ record { at = size; why = Unexpected }
finish_err stack None size g h = cc
finish_err stack (Some e) size g h = whole_err (close stack 0 e).stack (close stack 0 e).tree size g h

-- a text that is read is short
short_when : {A : Type 0} (b : Bool) (x y : Result A ExprFault) (z : A) (g : ExprFault) → x ≡ Err g → (if b then x else y) ≡ Ok z → (b ≡ false) × (y ≡ Ok z)
short_when true x y z g e h = cc
short_when false x y z g e h = (refl, h)

taken_begins : (tokens : List Placed) (p : Parser) → run most_levels tokens start ≡ Ok p → Reached most_levels tokens p
taken_begins tokens p h = run-reached tokens most_levels [] start p (start-reached most_levels) h

-- what is read is the text's expression
pub read_is : (text : List ℕ) (e : Tree) → expression_of text ≡ Ok e → IsExpression text e
read_is text e h =
    let s = scanned text in
    let g = short_when (nat_lt most_bytes (length text)) (Err (record { at = 0; why = TooLong (length text) })) (read_from (length text) s start) e (record { at = 0; why = TooLong (length text) }) refl h in
    let ended = bind_ok (run most_levels s.tokens start >>= unbroken s.fault) (finish (length text)) e g.1 in
    let ran = bind_ok (run most_levels s.tokens start) (unbroken s.fault) ended.0 ended.1 in
    let sound = unbroken_ok s.fault ran.0 ended.0 ran.2 in
    record {
      short = (let few = g.0 in grind (arith, nat_tests));
      unbroken = sound.0;
      spelled = reached-whole most_levels (length text) s.tokens e (taken_begins s.tokens ran.0 ran.1) (ap (finish (length text)) sound.1 ∙ ended.2);
    }

read_spelled : (text : List ℕ) (e : Tree) → (scanned text).fault ≡ None → Spells most_levels (scanned text).tokens e → read_from (length text) (scanned text) start ≡ Ok e
read_spelled text e sound spelled =
    let s = scanned text in
    let p = holding_of spelled in
    ap (λ (r : Result Parser ExprFault). r >>= unbroken s.fault >>= finish (length text)) (run-whole spelled.form most_levels s.tokens spelled.of)
    ∙ ap (λ (fault : Option ExprFault). unbroken fault p >>= finish (length text)) sound
    ∙ finish-whole spelled.form (length text) spelled.of.formed
    ∙ ap (λ (x : Tree). Ok x) spelled.tree
  where
    holding_of : {tokens : List Placed} {e : Tree} → Spells most_levels tokens e → Parser
    holding_of spelled = record { stack = open_frames spelled.form []; tree = Some (tip spelled.form) }

-- and the text's expression is read
pub expression_is_read : (text : List ℕ) (e : Tree) → IsExpression text e → expression_of text ≡ Ok e
expression_is_read text e is =
    let short = is.short in
    cond-false (nat_lt most_bytes (length text)) (Err (record { at = 0; why = TooLong (length text) })) (read_from (length text) (scanned text) start) (grind (arith, nat_tests))
    ∙ read_spelled text e is.unbroken is.spelled

stopped : (text : List ℕ) → length text ≤ most_bytes → (at : ℕ) (why : ExprWhy) → Stop most_levels (scanned text).tokens start (record { at = at; why = why }) → IsStepWhy why → FaultAt text at why
stopped text short at TooDeep s is = record {
  front = s.front;
  next = s.next;
  stops = record { short = short; behind = s.behind; tokens = s.split; place = s.place; begun = reached-begins most_levels s.front (taken_begins s.front s.state s.ran) };
  goes_on = deep_goes_on most_levels s.front s.next s.state s.ran s.refused;
  deep = deep_stops most_levels s.front s.next s.state s.ran s.refused;
}
stopped text short at Unexpected s is = inl (record {
  front = s.front;
  next = s.next;
  stops = record { short = short; behind = s.behind; tokens = s.split; place = s.place; begun = reached-begins most_levels s.front (taken_begins s.front s.state s.ran) };
  stuck = unexpected_stops most_levels s.front s.next s.state s.ran s.refused;
})
stopped text short at (TooLong len) s is = absurd is
stopped text short at BadToken s is = absurd is
stopped text short at BadNumber s is = absurd is

broken : (text : List ℕ) → length text ≤ most_bytes → Begins most_levels (scanned text).tokens → (at : ℕ) (why : ExprWhy) → (scanned text).fault ≡ Some (record { at = at; why = why }) → IsScanWhy why → FaultAt text at why
broken text short begun at BadToken fault is = record { short = short; fault = fault; begun = begun }
broken text short begun at BadNumber fault is = record { short = short; fault = fault; begun = begun }
broken text short begun at (TooLong len) fault is = absurd is
broken text short begun at TooDeep fault is = absurd is
broken text short begun at Unexpected fault is = absurd is

different : (text : List ℕ) (e : Tree) (g : ExprFault) → (scanned text).fault ≡ None → read_from (length text) (scanned text) start ≡ Err g → Spells most_levels (scanned text).tokens e → ⊥
different text e g sound h spelled =
    let both : Ok e ≡ Err g = sym (read_spelled text e sound spelled) ∙ h in
    cc

cut_short : (text : List ℕ) → length text ≤ most_bytes → Begins most_levels (scanned text).tokens → (scanned text).fault ≡ None → (g : ExprFault) → g ≡ record { at = length text; why = Unexpected }
    → read_from (length text) (scanned text) start ≡ Err g → FaultAt text g.at g.why
cut_short text short begun sound g same h =
    subst (λ (f : ExprFault). FaultAt text f.at f.why) (sym same)
    (inr (record { short = short; unbroken = sound; ended = refl; begun = begun; unfinished = λ e spelled. different text e g sound h spelled }))

-- the fault of a short text is what it says
short_fault : (text : List ℕ) → length text ≤ most_bytes → (g : ExprFault) → read_from (length text) (scanned text) start ≡ Err g → FaultAt text g.at g.why
short_fault text short g h =
    let s = scanned text in
    elim (bind_err (run most_levels s.tokens start >>= unbroken s.fault) (finish (length text)) g h) [
      | inl early ↦ elim (bind_err (run most_levels s.tokens start) (unbroken s.fault) g early) [
        | inl refused ↦ (let stop = run-stop s.tokens most_levels start g refused in stopped text short g.at g.why stop (step-why most_levels stop.state stop.next g.why stop.refused))
        | inr ran ↦ (let fault = unbroken_err s.fault ran.0 g ran.2 in broken text short (reached-begins most_levels s.tokens (taken_begins s.tokens ran.0 ran.1)) g.at g.why fault (scan-why text g fault))
      ]
      | inr late ↦
          let ran = bind_ok (run most_levels s.tokens start) (unbroken s.fault) late.0 late.1 in
          let sound = unbroken_ok s.fault ran.0 late.0 ran.2 in
          cut_short text short (reached-begins most_levels s.tokens (taken_begins s.tokens ran.0 ran.1)) sound.0 g (finish_err late.0.stack late.0.tree (length text) g late.2) h
    ]

fault_when : (text : List ℕ) (b : Bool) (g : ExprFault) → nat_lt most_bytes (length text) ≡ b → (if b then Err (record { at = 0; why = TooLong (length text) }) else read_from (length text) (scanned text) start) ≡ Err g → FaultAt text g.at g.why
fault_when text true g e h =
    let same : record { at = 0; why = TooLong (length text) } ≡ g = cc in
    subst (λ (f : ExprFault). FaultAt text f.at f.why) same (ltb-true most_bytes (length text) e, refl, refl)
fault_when text false g e h = short_fault text (grind (arith, nat_tests)) g h

-- a fault is what it says
pub fault_is : (text : List ℕ) (g : ExprFault) → expression_of text ≡ Err g → FaultAt text g.at g.why
fault_is text g h = fault_when text (nat_lt most_bytes (length text)) g refl h

-- an answer that is the reading's is also that of the expression
pub only_is : (text bytes : List ℕ) (r : Result Tree ParseFault) → bytes ≡ text → AnswersReading r (expression_of bytes) → (e : Tree) → IsExpression text e → AnswersReading r (Ok e)
only_is text bytes r same given e is =
    subst (λ (reading : Result Tree ExprFault). AnswersReading r reading) (ap expression_of same ∙ expression_is_read text e is) given

-- and so is a fault
pub refused_is : (text : List ℕ) (fault : ParseFault) → IsFaultOfReading fault (expression_of text) → IsFault text fault
refused_is text Memory h = tt
refused_is text (At g) h = fault_is text g h

pub ruleset exactness = (read_is, refused_is)
