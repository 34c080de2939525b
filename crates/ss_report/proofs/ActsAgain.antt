-- The text of an act is a line that says the act.
use Rattle.std.proofs.Common.{◌≡◌, ℕ, ◌+◌, ◌<◌, ◌≤◌, ◌^◌, true, false, List, [], ◌∷◌, ◌++◌, length, Ok, refl, ap, ◌∙◌, append_assoc, arith}
use Rattle.std.specs.Prelude.{All, codes}
use Rattle.std.specs.Fmt.{decimal}
use Rattle.std.specs.List.{list_all}
use Rattle.std.specs.Str.Lines.{lines}
use Rattle.std.proofs.lemmas.Bool.{and_from}
use Rattle.std.proofs.lemmas.List.Elements.{All-head, All-tail}
use Rattle.std.proofs.lemmas.List.Folds.{list_all-append}
use Rattle.ss_fail.specs.declared.act.Act.{Act}
use Rattle.ss_fail.specs.declared.act.Act.TheVariants.{Read, Write, Snap, Crash, Load, Lose}
use Rattle.ss_fail.specs.declared.act.Act.TheVariants.{Flush, Take, Collect, Trim, Pass}
use Rattle.ss_fail.specs.declared.role.Role.{Role}
use Rattle.ss_fail.specs.Acts.{◌>>=◌, act_line, count_to, replica_of, vertex_of}
use Rattle.ss_fail.specs.Lines.{said_lines, values_of}
use Rattle.ss_fail.specs.Scripts.{acts_of}
use Rattle.ss_report.specs.ReadAgain.{CanBeSaid, HasNames, IsReplicaOf, IsVertexOf, IsWord, is_act_byte, schedule_text}
use Rattle.ss_report.specs.StateText.{name_of}
use Rattle.ss_report.specs.TraceText.{act_text}
use Rattle.ss_report.proofs.Said.{IsHead, Says, read_more, read_only, says}
use Rattle.ss_report.proofs.Vertices.{count_again, name_word, replica_again, vertex_again}
use Rattle.ss_report.proofs.Words.{decimal_word, pair_words, word_in_line, words_last}

pair_in_line : (name : List ℕ) (n : ℕ) → IsWord name → n < 2 ^ 64 → list_all is_act_byte (name ++ codes " " ++ decimal n) ≡ true
pair_in_line name n word small =
    ap (list_all is_act_byte) (append_assoc name (codes " ") (decimal n))
    ∙ list_all-append is_act_byte name (codes " " ++ decimal n)
    ∙ and_from _ _ (word_in_line name word.1) (word_in_line (decimal n) (decimal_word n small).1)

says_pair : (roles : List Role) (head first : List ℕ) (v n : ℕ) (act : Act) → HasNames roles → v < length roles → n < 2 ^ 64 → IsHead head first
    → act_line roles (first ∷ name_of roles v ∷ decimal n ∷ []) ≡ Ok act → Says roles (head ++ (name_of roles v ++ codes " " ++ decimal n)) act
says_pair roles head first v n act named lt small is_head is =
    let name = name_word roles v named lt in
    says roles head first (name_of roles v ++ codes " " ++ decimal n) (name_of roles v ∷ decimal n ∷ []) act is_head
    (pair_words (name_of roles v) n name small) (pair_in_line (name_of roles v) n name small) is

says_name : (roles : List Role) (head first : List ℕ) (v : ℕ) (act : Act) → HasNames roles → v < length roles → IsHead head first
    → act_line roles (first ∷ name_of roles v ∷ []) ≡ Ok act → Says roles (head ++ name_of roles v) act
says_name roles head first v act named lt is_head is =
    let name = name_word roles v named lt in
    says roles head first (name_of roles v) (name_of roles v ∷ []) act is_head
    (words_last (name_of roles v) name) (word_in_line (name_of roles v) name.1) is

says_replica : (roles : List Role) (head first : List ℕ) (v r : ℕ) (act : ℕ → ℕ → Act) → HasNames roles → IsReplicaOf roles v r → IsHead head first
    → act_line roles (first ∷ name_of roles v ∷ decimal r ∷ [])
    ≡ (vertex_of false roles (name_of roles v) >>= (λ v. replica_of roles v (decimal r) >>= (λ r. Ok (act v r))))
    → Says roles (head ++ (name_of roles v ++ codes " " ++ decimal r)) (act v r)
says_replica roles head first v r act named is is_head reads =
    says_pair roles head first v r (act v r) named is.0.0 (omega (arith, is.2)) is_head
    (reads
    ∙ ap (λ a. a >>= (λ v. replica_of roles v (decimal r) >>= (λ r. Ok (act v r)))) (vertex_again false roles v named is.0)
    ∙ ap (λ a. a >>= (λ r. Ok (act v r))) (replica_again roles v r is.1 is.2))

says_flush : (roles : List Role) (v count : ℕ) → HasNames roles → IsVertexOf false roles v → 1 ≤ count → count ≤ 64
    → act_line roles (codes "flush" ∷ name_of roles v ∷ decimal count ∷ []) ≡ Ok (Flush v count)
says_flush roles v count named is some few =
    ap (λ a. a >>= (λ v. count_to 64 (decimal count) >>= (λ c. Ok (Flush v c)))) (vertex_again false roles v named is)
    ∙ ap (λ a. a >>= (λ c. Ok (Flush v c))) (count_again count some few)

-- the text of an act says the act
pub says_act : (roles : List Role) (act : Act) → HasNames roles → CanBeSaid roles act → Says roles (act_text roles act) act
says_act roles (Read v r) named can =
    says_replica roles (codes "read ") (codes "read") v r (λ v r. Read v r) named can
    (record { splits = λ rest. refl; no_comment = λ rest. refl; in_line = refl; some = omega arith }) refl
says_act roles (Write v r) named can =
    says_replica roles (codes "write ") (codes "write") v r (λ v r. Write v r) named can
    (record { splits = λ rest. refl; no_comment = λ rest. refl; in_line = refl; some = omega arith }) refl
says_act roles (Snap v r) named can =
    says_replica roles (codes "snap ") (codes "snap") v r (λ v r. Snap v r) named can
    (record { splits = λ rest. refl; no_comment = λ rest. refl; in_line = refl; some = omega arith }) refl
says_act roles (Crash v r) named can =
    says_replica roles (codes "crash ") (codes "crash") v r (λ v r. Crash v r) named can
    (record { splits = λ rest. refl; no_comment = λ rest. refl; in_line = refl; some = omega arith }) refl
says_act roles (Load v r) named can =
    says_replica roles (codes "load ") (codes "load") v r (λ v r. Load v r) named can
    (record { splits = λ rest. refl; no_comment = λ rest. refl; in_line = refl; some = omega arith }) refl
says_act roles (Lose v) named can =
    says_name roles (codes "lose ") (codes "lose") v (Lose v) named can.0
    (record { splits = λ rest. refl; no_comment = λ rest. refl; in_line = refl; some = omega arith })
    (ap (λ a. a >>= (λ v. Ok (Lose v))) (vertex_again false roles v named can))
says_act roles (Flush v count) named can =
    says_pair roles (codes "flush ") (codes "flush") v count (Flush v count) named can.0.0 (omega (arith, can.2))
    (record { splits = λ rest. refl; no_comment = λ rest. refl; in_line = refl; some = omega arith })
    (says_flush roles v count named can.0 can.1 can.2)
says_act roles (Take k) named can =
    says_name roles (codes "take ") (codes "take") k (Take k) named can.0
    (record { splits = λ rest. refl; no_comment = λ rest. refl; in_line = refl; some = omega arith })
    (ap (λ a. a >>= (λ k. Ok (Take k))) (vertex_again true roles k named can))
says_act roles (Collect v) named can =
    says_name roles (codes "collect ") (codes "collect") v (Collect v) named can.0
    (record { splits = λ rest. refl; no_comment = λ rest. refl; in_line = refl; some = omega arith })
    (ap (λ a. a >>= (λ v. Ok (Collect v))) (vertex_again false roles v named can))
says_act roles (Trim v) named can =
    says_name roles (codes "trim ") (codes "trim") v (Trim v) named can.0
    (record { splits = λ rest. refl; no_comment = λ rest. refl; in_line = refl; some = omega arith })
    (ap (λ a. a >>= (λ v. Ok (Trim v))) (vertex_again false roles v named can))
says_act roles Pass named can = record { in_line = refl; some = omega arith; said = λ number. refl; is = refl }

pub act_again : (roles : List Role) (act : Act) → HasNames roles → CanBeSaid roles act → acts_of roles (act_text roles act) ≡ Ok (act ∷ [])
unfolding acts_of
act_again roles act named can = read_only roles (act_text roles act) act (says_act roles act named can)

read_all : (roles : List Role) (acts : List Act) (number : ℕ) → HasNames roles → All (CanBeSaid roles) acts
    → values_of (act_line roles) (said_lines number (lines (schedule_text roles acts))) ≡ Ok acts
read_all roles [] number named can = refl
read_all roles (act ∷ acts) number named can =
    read_more roles number (act_text roles act) (schedule_text roles acts) act acts
    (says_act roles act named (All-head (CanBeSaid roles) act acts can))
    (read_all roles acts (number + 1) named (All-tail (CanBeSaid roles) act acts can))

pub acts_again : (roles : List Role) (acts : List Act) → HasNames roles → All (CanBeSaid roles) acts → acts_of roles (schedule_text roles acts) ≡ Ok acts
unfolding acts_of
acts_again roles acts named can = read_all roles acts 1 named can
